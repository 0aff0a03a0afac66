-- A season: its sites in the order of their enrolment, and its days.
use Rattle.std.specs.Prelude.{ℕ, ◌-◌, max, Bool, true, false, ◌&&◌, List, [], ◌++◌, length, take, replicate, nat_le, slice_index, slice_index_or}
use Rattle.tariff.specs.Events.{stands, day_in, announced_before, standing_before, hours_before, week_hours_before, event_hours_before, among}
use Rattle.tariff.specs.declared.season.Kind.{Kind}
use Rattle.tariff.specs.declared.season.Kind.TheVariants.{Single}
use Rattle.tariff.specs.declared.season.Site.{Site}
use Rattle.tariff.specs.declared.season.EventHour.{EventHour}
use Rattle.tariff.specs.declared.season.Day.{Day}
use Rattle.tariff.specs.declared.season.Day.TheVariants.{NoEvent}

-- the clock is the moment of the last accepted announcement or revocation, and 0 before the first
pub record Season : Type 0 where
  pub year : ℕ
  pub closed : Bool
  pub clock : ℕ
  pub sites : List Site
  pub days : List Day

-- a day of the season
abbrev pub day_at : Season → ℕ → Day
day_at s d = day_in s.days d

-- an event stands on the day
abbrev pub standing : Season → ℕ → Bool
standing s d = stands (day_at s d)

-- how many announcements have been accepted, those of revoked events too
abbrev pub announcements : Season → ℕ
announcements s = announced_before s.days 76

-- how many events stand
abbrev pub standing_events : Season → ℕ
standing_events s = standing_before s.days 76

-- the hours of the season's standing events, by day and hour
abbrev pub season_event_hours : Season → List EventHour
season_event_hours s = event_hours_before s.days 76

-- how many there are
abbrev pub standing_hours : Season → ℕ
standing_hours s = hours_before s.days 76

-- how many there are in a week
abbrev pub hours_of_week : Season → ℕ → ℕ
hours_of_week s w = week_hours_before s.year w s.days 76

-- an hour of a day is an hour of a standing event
abbrev pub in_event : Season → ℕ → ℕ → Bool
in_event s d h = among (season_event_hours s) d h

-- sites are numbered from 1
abbrev pub has_site : Season → ℕ → Bool
has_site s i = nat_le 1 i && nat_le i (length s.sites)

-- what stands for a site that the season does not have
abbrev pub no_site : Site
no_site = record { kind = Single; highest = 0; weeks = [] }

-- a site by its number; asked only where the season has the site, and so not of 0, which would read as 1
abbrev pub site_at : Season → ℕ → Site
site_at s i = slice_index_or s.sites (i - 1) no_site

-- a site's nomination for a week, in kW; weeks are counted from 1, and week 0, which would read as 1, is not asked for
abbrev pub nomination_for : Site → ℕ → ℕ
nomination_for x w = slice_index x.weeks (w - 1)

-- a site as it is enrolled: one figure for all weeks
abbrev pub enrolled_site : Kind → ℕ → Site
enrolled_site k kw = record { kind = k; highest = kw; weeks = replicate 10 kw }

-- a figure for a week, counted from 1, and for all later weeks. The highest is that of the figures taken, in the order of the
-- calls; from the third accepted announcement on no figure above it is taken, so that it is then the highest before the third.
abbrev pub nominated_site : Site → ℕ → ℕ → Site
nominated_site x w kw =
    record { kind = x.kind; highest = max x.highest kw; weeks = take (w - 1) x.weeks ++ replicate (length x.weeks - (w - 1)) kw }

-- a season newly opened for a year, whatever season the record held before
abbrev pub opened : Season → ℕ → Season
opened old year = record { year = year; closed = false; clock = 0; sites = []; days = replicate 76 NoEvent }

-- a record that was never opened counts as closed, and has no sites
abbrev pub never_opened : Season
never_opened = record { year = 0; closed = true; clock = 0; sites = []; days = replicate 76 NoEvent }

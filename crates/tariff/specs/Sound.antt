-- What every season is, whatever calls it has received.
use Rattle.std.specs.Prelude.{◌≡◌, ℕ, ◌+◌, ◌*◌, ◌≤◌, true, List, length}
use Rattle.std.specs.List.{AllByRecursion}
use Rattle.tariff.specs.Calendar.{business, day_of, minute_of}
use Rattle.tariff.specs.Calls.{run}
use Rattle.tariff.specs.Events.{announced, event_of}
use Rattle.tariff.specs.Kinds.{least_kw}
use Rattle.tariff.specs.Season.{Season, opened, day_at, hours_of_week, standing_hours}
use Rattle.tariff.specs.declared.call.Call.{Call}
use Rattle.tariff.specs.declared.season.Kind.{Kind}
use Rattle.tariff.specs.declared.season.Site.{Site}
use Rattle.tariff.specs.declared.season.Event.{Event}

-- an event fits its day: a business day of the season, two to four hours from 14:00 to 20:00, announced that day, 60 to 180 minutes ahead
pub record Fit (year day : ℕ) (e : Event) : Type 0 where
  pub on_business : business year day ≡ true
  pub opens : 14 ≤ day
  pub ends : day ≤ 75
  pub shortest : 2 ≤ e.length
  pub longest : e.length ≤ 4
  pub earliest : 14 ≤ e.start
  pub latest : e.start + e.length ≤ 20
  pub same_day : day_of e.notice ≡ day
  pub three_hours : 60 * e.start ≤ minute_of e.notice + 180
  pub one_hour : minute_of e.notice + 60 ≤ 60 * e.start

-- a figure within the bounds of a kind, in kW
abbrev pub Figure : Kind → ℕ → Type 0
Figure k kw = (least_kw k ≤ kw) × (kw ≤ 100000)

-- a site with a figure within its kind's bounds for each of ten weeks
pub record Whole (x : Site) : Type 0 where
  pub ten : length x.weeks ≡ 10
  pub figures : AllByRecursion (Figure x.kind) x.weeks
  pub top : Figure x.kind x.highest

-- 76 days, events that fit their days, at most 15 standing hours a week and 60 in all, and at most 64 sites
pub record Sound (s : Season) : Type 0 where
  pub summer : length s.days ≡ 76
  pub events : (d : ℕ) → announced (day_at s d) ≡ true → Fit s.year d (event_of (day_at s d))
  pub weekly : (w : ℕ) → hours_of_week s w ≤ 15
  pub overall : standing_hours s ≤ 60
  pub few : length s.sites ≤ 64
  pub whole : AllByRecursion Whole s.sites

-- something that holds of every sound season
abbrev pub OfSoundSeasons : (Season → Type 0) → Type 0
OfSoundSeasons P = (s : Season) → Sound s → P s

-- something that holds of every season that calls have made: any list of calls, refused ones included, of a season newly opened
-- for a year from 2015 to 2099, whatever the record held before
abbrev pub AfterAnyCalls : (Season → Type 0) → Type 0
AfterAnyCalls P =
    (old : Season) (year : ℕ) → 2015 ≤ year → year ≤ 2099 → (calls : List Call) → P (run (opened old year) calls)

-- Whatever calls a season has received, it is sound.
abbrev pub SeasonsAreSound : Type 0
SeasonsAreSound = AfterAnyCalls Sound

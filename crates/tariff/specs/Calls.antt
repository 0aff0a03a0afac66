-- The calls of a season: what each answers, and which season it leaves. A refused call leaves the season as it was.
use Rattle.std.specs.Prelude.{ℕ, ◌+◌, ◌-◌, ◌*◌, Bool, true, cond, not, ◌&&◌, ◌||◌, List, [], ◌∷◌, ◌++◌, length, Ok, Err, Result, ◌==◌, nat_le, nat_lt, slice_set}
use Rattle.tariff.specs.Calendar.{business, in_season, last_week, week_of, deadline, day_of, minute_of}
use Rattle.tariff.specs.Kinds.{kind_of, least_kw}
use Rattle.tariff.specs.Events.{announced, event_of}
use Rattle.tariff.specs.Season.{Season, opened, day_at, standing, announcements, standing_events, standing_hours, hours_of_week, has_site, site_at, enrolled_site, nominated_site}
use Rattle.tariff.specs.declared.season.Kind.{Kind}
use Rattle.tariff.specs.declared.season.Site.{Site}
use Rattle.tariff.specs.declared.season.Day.{Day}
use Rattle.tariff.specs.declared.season.Day.TheVariants.{Standing, Revoked}
use Rattle.tariff.specs.declared.call.Call.{Call}
use Rattle.tariff.specs.declared.call.Call.TheVariants.{Enrol, Nominate, Announce, Revoke, Close}
use Rattle.tariff.specs.declared.call.Answer.{Answer}
use Rattle.tariff.specs.declared.call.Answer.TheVariants.{Site as SiteNumber, Week, Announced, Revoked as RevokedHours, Closed}
use Rattle.tariff.specs.declared.call.SeasonRefusal.{SeasonRefusal}
use Rattle.tariff.specs.declared.call.SeasonRefusal.TheVariants.{YearOutside, SeasonClosed, MomentPastEnd, MomentBeforeClock, EnrolmentTooLate, NoSuchKind, SitesFull, NoSuchSite, NoSuchWeek, NominationTooLate, FigureOutside, FigureAboveHighest, NoBusinessDay, HoursOutside, NoticeOutside, DayAnnounced, WeekFull, SeasonFull, NoEventStands, RevocationTooLate}

-- a test of a call that refuses it where it holds
abbrev pub Check : Type 0
Check = Bool × SeasonRefusal

-- the checks of a call in their order: the first that refuses decides, and else the call is answered
abbrev pub checked : {A : Type 0} → List Check → A → Result A SeasonRefusal
checked [] a = Ok a
checked (c ∷ cs) a = cond c.0 (Err c.1) (checked cs a)

-- ---- opening

-- a season is opened for a year from 2015 to 2099, whatever the record held
abbrev pub open_checks : Season → ℕ → List Check
open_checks old year = (nat_lt year 2015 || nat_lt 2099 year, YearOutside) ∷ []

-- the last week's number
abbrev pub open_answer : Season → ℕ → Result ℕ SeasonRefusal
open_answer old year = checked (open_checks old year) (last_week year)

-- the season that an opening leaves which was given an answer or a refusal
abbrev pub after_open : Season → ℕ → Result ℕ SeasonRefusal → Season
after_open old year (Ok last) = opened old year
after_open old year (Err r) = old

-- ---- every call at a moment

-- the checks that come first: the season takes calls, and the moment lies in the summer and not before the clock
abbrev pub at_moment : Season → ℕ → List Check → List Check
at_moment s m more = (s.closed, SeasonClosed) ∷ (nat_lt 109439 m, MomentPastEnd) ∷ (nat_lt m s.clock, MomentBeforeClock) ∷ more

-- ---- enrolment of a site of a kind, with one figure for all weeks

-- a figure that a site of a kind may not name, in kW
abbrev pub figure_outside : Kind → ℕ → Bool
figure_outside k kw = nat_lt kw (least_kw k) || nat_lt 100000 kw

-- sites enrol before June 15, and a season has at most 64
abbrev pub enrol_checks : Season → ℕ → ℕ → ℕ → List Check
enrol_checks s m k kw =
    at_moment s m
    ((nat_le 20160 m, EnrolmentTooLate)
    ∷ (nat_lt 1 k, NoSuchKind)
    ∷ (nat_le 64 (length s.sites), SitesFull)
    ∷ (figure_outside (kind_of k) kw, FigureOutside)
    ∷ [])

-- the new site's number
abbrev pub enrol_answer : Season → ℕ → ℕ → ℕ → Result ℕ SeasonRefusal
enrol_answer s m k kw = checked (enrol_checks s m k kw) (length s.sites + 1)

-- a season with other sites; its clock stays
abbrev pub with_sites : Season → List Site → Season
with_sites s sites = record { year = s.year; closed = s.closed; clock = s.clock; sites = sites; days = s.days }

-- a season with one site more
abbrev pub enrolled : Season → ℕ → ℕ → Season
enrolled s k kw = with_sites s (s.sites ++ enrolled_site (kind_of k) kw ∷ [])

-- ---- nomination of a figure for a week and all later weeks

-- from the third accepted announcement on no figure goes above the highest taken for the site before it
abbrev pub above_highest : Season → ℕ → ℕ → Bool
above_highest s i kw = nat_le 3 (announcements s) && nat_lt (site_at s i).highest kw

-- site i names a figure for week w
abbrev pub nominate_checks : Season → ℕ → ℕ → ℕ → ℕ → List Check
nominate_checks s m i w kw =
    at_moment s m
    ((not (has_site s i), NoSuchSite)
    ∷ (w == 0 || nat_lt (last_week s.year) w, NoSuchWeek)
    ∷ (nat_lt (deadline s.year w) m, NominationTooLate)
    ∷ (figure_outside (site_at s i).kind kw, FigureOutside)
    ∷ (above_highest s i kw, FigureAboveHighest)
    ∷ [])

-- the week that the figure is taken for
abbrev pub nominate_answer : Season → ℕ → ℕ → ℕ → ℕ → Result ℕ SeasonRefusal
nominate_answer s m i w kw = checked (nominate_checks s m i w kw) w

-- a season in which site i has a figure for week w and all later weeks
abbrev pub nominated : Season → ℕ → ℕ → ℕ → Season
nominated s i w kw = with_sites s (slice_set s.sites (i - 1) (nominated_site (site_at s i) w kw))

-- ---- announcement of an event on the moment's day

-- an event has two to four hours between 14:00 and 20:00
abbrev pub hours_outside : ℕ → ℕ → Bool
hours_outside start len = nat_lt len 2 || (nat_lt 4 len || (nat_lt start 14 || nat_lt 20 (start + len)))

-- it is announced from 180 to 60 minutes before its start
abbrev pub notice_outside : ℕ → ℕ → Bool
notice_outside m start = nat_lt (minute_of m + 180) (60 * start) || nat_lt (60 * start) (minute_of m + 60)

-- one announcement a day, on a business day of the season, and at most 15 standing hours in a week and 60 in all
abbrev pub announce_checks : Season → ℕ → ℕ → ℕ → List Check
announce_checks s m start len =
    at_moment s m
    ((not (business s.year (day_of m) && in_season (day_of m)), NoBusinessDay)
    ∷ (hours_outside start len, HoursOutside)
    ∷ (notice_outside m start, NoticeOutside)
    ∷ (announced (day_at s (day_of m)), DayAnnounced)
    ∷ (nat_lt 15 (hours_of_week s (week_of s.year (day_of m)) + len), WeekFull)
    ∷ (nat_lt 60 (standing_hours s + len), SeasonFull)
    ∷ [])

-- how many announcements have been accepted, this one included
abbrev pub announce_answer : Season → ℕ → ℕ → ℕ → Result ℕ SeasonRefusal
announce_answer s m start len = checked (announce_checks s m start len) (announcements s + 1)

-- a season whose clock is set to a moment, with that moment's day anew
abbrev pub with_day : Season → ℕ → Day → Season
with_day s m day = record { year = s.year; closed = s.closed; clock = m; sites = s.sites; days = slice_set s.days (day_of m) day }

-- a season with an event that stands on the moment's day, and the moment as its notice
abbrev pub with_event : Season → ℕ → ℕ → ℕ → Season
with_event s m start len = with_day s m (Standing (record { start = start; length = len; notice = m }))

-- ---- revocation of the event of the moment's day

-- the event stands, and at least 30 minutes remain before its start
abbrev pub revoke_checks : Season → ℕ → List Check
revoke_checks s m =
    at_moment s m
    ((not (standing s (day_of m)), NoEventStands)
    ∷ (nat_lt (60 * (event_of (day_at s (day_of m))).start) (minute_of m + 30), RevocationTooLate)
    ∷ [])

-- the revoked event's length
abbrev pub revoke_answer : Season → ℕ → Result ℕ SeasonRefusal
revoke_answer s m = checked (revoke_checks s m) (event_of (day_at s (day_of m))).length

-- a season in which the event of the moment's day is revoked; its day stays announced
abbrev pub without_event : Season → ℕ → Season
without_event s m = with_day s m (Revoked (event_of (day_at s (day_of m))))

-- ---- closing

-- a season is closed once
abbrev pub close_checks : Season → List Check
close_checks s = (s.closed, SeasonClosed) ∷ []

-- the standing events, and their hours
abbrev pub close_answer : Season → Result (ℕ × ℕ) SeasonRefusal
close_answer s = checked (close_checks s) (standing_events s, standing_hours s)

-- a season that takes no more calls
abbrev pub shut : Season → Season
shut s = record { year = s.year; closed = true; clock = s.clock; sites = s.sites; days = s.days }

-- ---- any call

-- a call's own answer as one of all calls' answers
abbrev pub as_answer : {A : Type 0} → (A → Answer) → Result A SeasonRefusal → Result Answer SeasonRefusal
as_answer f (Ok a) = Ok (f a)
as_answer f (Err r) = Err r

-- the events and hours that a closing answers
abbrev pub closed_with : ℕ × ℕ → Answer
closed_with p = Closed p.0 p.1

-- what a season answers to a call
abbrev pub answer : Season → Call → Result Answer SeasonRefusal
answer s (Enrol m k kw) = as_answer SiteNumber (enrol_answer s m k kw)
answer s (Nominate m i w kw) = as_answer Week (nominate_answer s m i w kw)
answer s (Announce m start len) = as_answer Announced (announce_answer s m start len)
answer s (Revoke m) = as_answer RevokedHours (revoke_answer s m)
answer s Close = as_answer closed_with (close_answer s)

-- the week that an answer names; a nomination is always answered with a week, and for any other answer the week asked for stands
abbrev pub week_named : ℕ → Answer → ℕ
week_named asked (SiteNumber n) = asked
week_named asked (Week w) = w
week_named asked (Announced n) = asked
week_named asked (RevokedHours n) = asked
week_named asked (Closed n hours) = asked

-- the season that a call leaves which was taken with an answer; a nomination goes into the week that its answer names
abbrev pub after_taken : Season → Call → Answer → Season
after_taken s (Enrol m k kw) a = enrolled s k kw
after_taken s (Nominate m i w kw) a = nominated s i (week_named w a) kw
after_taken s (Announce m start len) a = with_event s m start len
after_taken s (Revoke m) a = without_event s m
after_taken s Close a = shut s

-- the season that a call leaves which was given an answer or a refusal
abbrev pub after : Season → Call → Result Answer SeasonRefusal → Season
after s c (Ok a) = after_taken s c a
after s c (Err r) = s

-- the season that a call makes of a season
abbrev pub next : Season → Call → Season
next s c = after s c (answer s c)

-- the season that a list of calls leaves, one after another, refused ones included
unfoldable pub run : Season → List Call → Season
run s [] = s
run s (c ∷ cs) = run (next s c) cs

-- their answers and refusals, in their order
unfoldable pub answers : Season → List Call → List (Result Answer SeasonRefusal)
answers s [] = []
answers s (c ∷ cs) = answer s c ∷ answers (next s c) cs

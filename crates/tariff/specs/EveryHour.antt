-- No event hour is left out of a statement, and none comes twice.
use Rattle.std.specs.Prelude.{◌≡◌, ℕ, ◌+◌, ◌<◌, ◌≤◌, true, false, ◌⊎◌, length, Ok}
use Rattle.tariff.specs.Calendar.{in_week, last_week, programme_days}
use Rattle.tariff.specs.Calls.{shut, close_answer}
use Rattle.tariff.specs.Counting.{count}
use Rattle.tariff.specs.Events.{event_of}
use Rattle.tariff.specs.Lines.{line_at, week_at}
use Rattle.tariff.specs.Season.{Season, day_at, standing, standing_events, standing_hours, hours_of_week, site_at, nomination_for}
use Rattle.tariff.specs.Statement.{outcome}
use Rattle.tariff.specs.Tables.{Table, Hourly}
use Rattle.tariff.specs.declared.statement.HourLine.{HourLine}
use Rattle.tariff.specs.declared.statement.WeekLine.{WeekLine}
use Rattle.tariff.specs.declared.statement.Statement.{Statement}

-- hour h of day d lies in the event that stands on that day
pub record InStandingEvent (s : Season) (d h : ℕ) : Type 0 where
  pub stands_that_day : standing s d ≡ true
  pub begun : (event_of (day_at s d)).start ≤ h
  pub not_over : h < (event_of (day_at s d)).start + (event_of (day_at s d)).length

-- one of the first n lines is of hour h of day d
abbrev pub HasLine : Statement → ℕ → ℕ → ℕ → Type 0
HasLine x n d h = (k : ℕ) × (k < n) × ((line_at x k).day ≡ d) × ((line_at x k).hour ≡ h)

-- the hour of one line comes before that of another: on an earlier day, or earlier on the same day
abbrev pub Earlier : HourLine → HourLine → Type 0
Earlier l m = (l.day < m.day) ⊎ ((l.day ≡ m.day) × (l.hour < m.hour))

-- every figure of the line of an hour is zero
pub record ZeroHour (l : HourLine) : Type 0 where
  pub event : l.event ≡ 0
  pub day : l.day ≡ 0
  pub hour : l.hour ≡ 0
  pub base : l.base ≡ 0
  pub adjusted : l.adjusted ≡ 0
  pub reduction : l.reduction ≡ 0
  pub shortfall : l.shortfall ≡ 0
  pub energy : l.energy ≡ 0
  pub adjustment : l.adjustment ≡ 0

-- every figure of the line of a week is zero
pub record ZeroWeek (l : WeekLine) : Type 0 where
  pub nomination : l.nomination ≡ 0
  pub hours : l.hours ≡ 0
  pub counted : l.counted ≡ 0
  pub days : l.days ≡ 0
  pub capacity : l.capacity ≡ 0

-- a line is that of a week, counted from 1: the site's nomination for the week, its hours of standing events, its programme days
pub record OfWeek (s : Season) (site week : ℕ) (l : WeekLine) : Type 0 where
  pub nomination : l.nomination ≡ nomination_for (site_at s site) week
  pub hours : l.hours ≡ hours_of_week s week
  pub days : l.days ≡ programme_days s.year week

-- what the lines of a statement are that answered n hours
pub record EachHourOnce (s : Season) (site : ℕ) (x : Statement) (n : ℕ) : Type 0 where
  -- there are 60 lines for hours and 10 for weeks, used or not
  pub sixty : length x.hours ≡ 60
  pub ten : length x.weeks ≡ 10
  -- n is the season's number of standing hours, for which there is room, and what the closing of the season answered
  pub number : n ≡ standing_hours s
  pub room : n ≤ 60
  pub closing : (before : Season) → before.closed ≡ false → shut before ≡ s → close_answer before ≡ Ok (standing_events s, n)
  -- the first n lines are of hours of the summer; an hour has such a line exactly when it lies in the event that stands on its day
  pub of_summer : (k : ℕ) → k < n → ((line_at x k).day < 76) × ((line_at x k).hour < 24)
  pub exactly : Hourly (λ d h. (InStandingEvent s d h → HasLine x n d h) × (HasLine x n d h → InStandingEvent s d h))
  -- they rise by day and hour, and so no two are of one hour
  pub rising : (j k : ℕ) → j < k → k < n → Earlier (line_at x j) (line_at x k)
  pub once : (j k : ℕ) → j < n → k < n → (line_at x j).day ≡ (line_at x k).day → (line_at x j).hour ≡ (line_at x k).hour → j ≡ k
  -- each has its event's number, one more than the events that stand on earlier days; the first line is of event 1
  pub numbered : (k : ℕ) → k < n → (line_at x k).event ≡ count (standing s) (line_at x k).day + 1
  pub first_event : 0 < n → (line_at x 0).event ≡ 1
  -- every later line is zero
  pub later_lines : (k : ℕ) → n ≤ k → k < 60 → ZeroHour (line_at x k)
  -- the first week lines are those of weeks 1 to the last, for which there is room, and every later one is zero
  pub week_room : last_week s.year ≤ 10
  pub weeks : (k : ℕ) → k < last_week s.year → OfWeek s site (k + 1) (week_at x k)
  pub later_weeks : (k : ℕ) → last_week s.year ≤ k → k < 10 → ZeroWeek (week_at x k)
  -- the hours of a week are as many as the first n lines with a day of that week
  pub week_hours : (k : ℕ) → k < last_week s.year → (week_at x k).hours ≡ count (λ j. in_week s.year (k + 1) (line_at x j).day) n

-- Of a record that a statement filled, the first lines are exactly the hours of the standing events, in order, each once, and the
-- week lines are those of the season's weeks. The other lines are zero.
abbrev pub EveryEventHourOnce : Season → Type 0
EveryEventHourOnce s = (site : ℕ) (t : Table) (x : Statement) (n : ℕ) → outcome s site t ≡ Ok (x, n) → EachHourOnce s site x n

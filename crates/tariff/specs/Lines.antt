-- Two lists of measured hours, and two statements, compared line by line.
use Rattle.std.specs.Prelude.{◌≡◌, ℕ, ◌≤◌, Ok, Err, ◌≢◌, slice_index_or}
use Rattle.tariff.specs.Pay.{no_hour, no_week}
use Rattle.tariff.specs.Statement.{Outcome}
use Rattle.tariff.specs.declared.statement.MeasuredHour.{MeasuredHour}
use Rattle.tariff.specs.declared.statement.HourLine.{HourLine}
use Rattle.tariff.specs.declared.statement.WeekLine.{WeekLine}
use Rattle.tariff.specs.declared.statement.Statement.{Statement}

-- an hour line of a statement by its place, counted from 0
abbrev pub line_at : Statement → ℕ → HourLine
line_at x k = slice_index_or x.hours k no_hour

-- a week line by its place, counted from 0
abbrev pub week_at : Statement → ℕ → WeekLine
week_at x k = slice_index_or x.weeks k no_week

-- the same hour of the same event at the same baselines, with no lower reduction and no higher shortfall
pub record ReducedNoLess (l m : MeasuredHour) : Type 0 where
  pub event : m.event ≡ l.event
  pub day : m.day ≡ l.day
  pub hour : m.hour ≡ l.hour
  pub base : m.base ≡ l.base
  pub adjusted : m.adjusted ≡ l.adjusted
  pub reduction : l.reduction ≤ m.reduction
  pub shortfall : m.shortfall ≤ l.shortfall

-- the same hour of the same event at the same baselines: no lower reduction and energy, no higher shortfall and adjustment
pub record LineNoWorse (l m : HourLine) : Type 0 where
  pub event : m.event ≡ l.event
  pub day : m.day ≡ l.day
  pub hour : m.hour ≡ l.hour
  pub base : m.base ≡ l.base
  pub adjusted : m.adjusted ≡ l.adjusted
  pub reduction : l.reduction ≤ m.reduction
  pub shortfall : m.shortfall ≤ l.shortfall
  pub energy : l.energy ≤ m.energy
  pub adjustment : m.adjustment ≤ l.adjustment

-- the same nomination, event hours and programme days: no lower counted sum and capacity
pub record WeekNoWorse (v w : WeekLine) : Type 0 where
  pub nomination : w.nomination ≡ v.nomination
  pub hours : w.hours ≡ v.hours
  pub days : w.days ≡ v.days
  pub counted : v.counted ≤ w.counted
  pub capacity : v.capacity ≤ w.capacity

-- no line is worse, no more is charged, and no less is earned, left and paid
pub record NoWorse (x y : Statement) : Type 0 where
  pub lines : (k : ℕ) → LineNoWorse (line_at x k) (line_at y k)
  pub weeks : (k : ℕ) → WeekNoWorse (week_at x k) (week_at y k)
  pub incentive : x.incentive ≤ y.incentive
  pub charged : y.charged ≤ x.charged
  pub net : x.net ≤ y.net
  pub paid : x.paid ≤ y.paid

-- the same hour of the same event, and outside one day the same line, field by field
pub record LineKept (day : ℕ) (l m : HourLine) : Type 0 where
  pub same_event : m.event ≡ l.event
  pub same_day : m.day ≡ l.day
  pub same_hour : m.hour ≡ l.hour
  pub same_line : (l.day ≢ day) → m ≡ l

-- every line is of the same hour, and every line of another day is equal
abbrev pub OthersKept : ℕ → Statement → Statement → Type 0
OthersKept day x y = (k : ℕ) → LineKept day (line_at x k) (line_at y k)

-- both requests are answered, with the same number of hours and statements that compare so, or both are refused with the same
-- refusal, whole
abbrev pub Both : (Statement → Statement → Type 0) → Outcome → Outcome → Type 0
Both P (Ok x) (Ok y) = (x.1 ≡ y.1) × P x.0 y.0
Both P (Ok x) (Err f) = ⊥
Both P (Err e) (Ok y) = ⊥
Both P (Err e) (Err f) = e ≡ f

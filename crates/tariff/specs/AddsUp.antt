-- The figures of a statement add up.
use Rattle.std.specs.Prelude.{◌≡◌, ℕ, ◌+◌, ◌-◌, ◌*◌, ◌/◌, ◌<◌, ◌≤◌, min, Ok, sum_by, filter}
use Rattle.tariff.specs.Calendar.{week_of, in_week, last_week}
use Rattle.tariff.specs.Lines.{line_at, week_at}
use Rattle.tariff.specs.Season.{Season}
use Rattle.tariff.specs.Statement.{outcome}
use Rattle.tariff.specs.Tables.{Table}
use Rattle.tariff.specs.declared.statement.HourLine.{HourLine}
use Rattle.tariff.specs.declared.statement.WeekLine.{WeekLine}
use Rattle.tariff.specs.declared.statement.Statement.{Statement}

-- the figures of an hour's line: in events 1 to 3 no energy, and 200 millicents for each Wh short; from event 4 on 16 millicents for
-- each Wh of the reduction, and 25 for each Wh short
pub record HourAddsUp (l : HourLine) : Type 0 where
  pub energy_to_3 : l.event ≤ 3 → l.energy ≡ 0
  pub energy_from_4 : 4 ≤ l.event → l.energy ≡ 16 * l.reduction
  pub adjustment_to_3 : l.event ≤ 3 → l.adjustment ≡ 200 * l.shortfall
  pub adjustment_from_4 : 4 ≤ l.event → l.adjustment ≡ 25 * l.shortfall

-- the figures of a week's line: where the week has no event hours, 65,000 millicents for each kW nominated and each programme day;
-- else 325 for each Wh of the mean counted reduction of an hour, for as many fifths of a week as it has programme days, rounded down
pub record WeekAddsUp (l : WeekLine) : Type 0 where
  pub without_hours : l.hours ≡ 0 → l.capacity ≡ 65000 * l.nomination * l.days
  pub with_hours : 0 < l.hours → l.capacity ≡ 325 * l.counted * l.days / (5 * l.hours)

-- what the figures of a statement are that answered n hours in the season of a year: each from other figures of the same record
pub record AddsUp (year : ℕ) (x : Statement) (n : ℕ) : Type 0 where
  -- the incentive is all capacity and all energy, and all adjustments are charged; lines that are not used hold zeros
  pub incentive : x.incentive ≡ sum_by (λ l. l.capacity) x.weeks + sum_by (λ l. l.energy) x.hours
  pub charged : x.charged ≡ sum_by (λ l. l.adjustment) x.hours
  -- no more is taken than the incentive, and the net is paid in whole cents
  pub taken : x.taken ≡ min x.charged x.incentive
  pub net : x.net ≡ x.incentive - x.taken
  pub paid : x.paid ≡ x.net / 1000
  -- line by line
  pub lines : (k : ℕ) → k < 60 → HourAddsUp (line_at x k)
  pub weeks : (k : ℕ) → k < 10 → WeekAddsUp (week_at x k)
  -- an hour falls short by what its reduction lacks of its week's nomination
  pub shortfalls : (k : ℕ) → k < n → (line_at x k).shortfall ≡ 1000 * (week_at x (week_of year (line_at x k).day - 1)).nomination - (line_at x k).reduction
  -- a week counts the reductions of its hours, each at most at 120 percent of its nomination
  pub counted :
      (k : ℕ) → k < last_week year →
      (week_at x k).counted ≡ sum_by (λ l. min l.reduction (1200 * (week_at x k).nomination)) (filter (λ l. in_week year (k + 1) l.day) x.hours)

-- The figures of a record that a statement filled add up.
abbrev pub TheStatementAddsUp : Season → Type 0
TheStatementAddsUp s = (site : ℕ) (t : Table) (x : Statement) (n : ℕ) → outcome s site t ≡ Ok (x, n) → AddsUp s.year x n

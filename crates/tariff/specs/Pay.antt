-- What measured hours pay and cost, in millicents. Only what was measured counts here, with the year's weeks and the site's nominations.
use Rattle.std.specs.Prelude.{ℕ, ◌+◌, ◌-◌, ◌*◌, ◌/◌, min, cond, List, ◌++◌, map, length, replicate, sum_by, filter, ◌==◌, nat_le}
use Rattle.std.specs.List.{range_with_len}
use Rattle.tariff.specs.Calendar.{in_week, last_week, programme_days}
use Rattle.tariff.specs.Season.{nomination_for}
use Rattle.tariff.specs.declared.season.Site.{Site}
use Rattle.tariff.specs.declared.statement.MeasuredHour.{MeasuredHour}
use Rattle.tariff.specs.declared.statement.HourLine.{HourLine}
use Rattle.tariff.specs.declared.statement.WeekLine.{WeekLine}
use Rattle.tariff.specs.declared.statement.Statement.{Statement}

-- what an hour is charged for a shortfall: less from event 4 on
abbrev pub adjustment_for : ℕ → ℕ → ℕ
adjustment_for event short = cond (nat_le event 3) (200 * short) (25 * short)

-- what an hour's reduction is paid for: nothing in events 1 to 3
abbrev pub energy_for : ℕ → ℕ → ℕ
energy_for event reduction = cond (nat_le event 3) 0 (16 * reduction)

-- the counted reduction: what counts of a reduction for a week's capacity, at most 120 percent of the nomination
abbrev pub counted_reduction : ℕ → ℕ → ℕ
counted_reduction nominated reduction = min reduction (1200 * nominated)

-- what a week pays for capacity: its nomination, its event hours, their counted reductions together, and its programme days
abbrev pub capacity_for : ℕ → ℕ → ℕ → ℕ → ℕ
capacity_for nominated hours sum days = cond (hours == 0) (65000 * nominated * days) (325 * sum * days / (5 * hours))

-- the line of an hour
abbrev pub priced : MeasuredHour → HourLine
priced m =
    record {
      event = m.event;
      day = m.day;
      hour = m.hour;
      base = m.base;
      adjusted = m.adjusted;
      reduction = m.reduction;
      shortfall = m.shortfall;
      energy = energy_for m.event m.reduction;
      adjustment = adjustment_for m.event m.shortfall;
    }

-- the measured hours of a week
unfoldable pub hours_in_week : ℕ → ℕ → List MeasuredHour → List MeasuredHour
hours_in_week year w hours = filter (λ m. in_week year w m.day) hours

-- the counted reductions of some hours together, at one nomination
unfoldable pub counted_sum : ℕ → List MeasuredHour → ℕ
counted_sum nominated hours = sum_by (λ m. counted_reduction nominated m.reduction) hours

-- the line of a week with a nomination, from the measured hours of that week and its programme days
abbrev pub week_line_of : ℕ → List MeasuredHour → ℕ → WeekLine
week_line_of nominated hours days =
    record {
      nomination = nominated;
      hours = length hours;
      counted = counted_sum nominated hours;
      days = days;
      capacity = capacity_for nominated (length hours) (counted_sum nominated hours) days;
    }

-- the line of week w, from all measured hours
abbrev pub week_line : ℕ → Site → List MeasuredHour → ℕ → WeekLine
week_line year x hours w = week_line_of (nomination_for x w) (hours_in_week year w hours) (programme_days year w)

-- weeks 1 to the last
unfoldable pub week_lines : ℕ → Site → List MeasuredHour → List WeekLine
week_lines year x hours = map (week_line year x hours) (range_with_len 1 (last_week year))

-- an hour line that is not used is zero
abbrev pub no_hour : HourLine
no_hour = record { event = 0; day = 0; hour = 0; base = 0; adjusted = 0; reduction = 0; shortfall = 0; energy = 0; adjustment = 0 }

-- and so is a week line
abbrev pub no_week : WeekLine
no_week = record { nomination = 0; hours = 0; counted = 0; days = 0; capacity = 0 }

-- a list brought to n entries by entries that are not used; no list of more than n is ever filled: a season has at most 60
-- standing hours and 10 weeks
abbrev pub filled : {A : Type 0} → A → ℕ → List A → List A
filled a n xs = xs ++ replicate (n - length xs) a

-- all capacity and all energy
unfoldable pub incentive_of : List HourLine → List WeekLine → ℕ
incentive_of hours weeks = sum_by (λ w. w.capacity) weeks + sum_by (λ l. l.energy) hours

-- all adjustments
unfoldable pub charged_of : List HourLine → ℕ
charged_of hours = sum_by (λ l. l.adjustment) hours

-- a statement of some lines, an incentive and the adjustments charged: no more is taken than the incentive, and whole cents are paid
abbrev pub written : List HourLine → List WeekLine → ℕ → ℕ → Statement
written hours weeks incentive charged =
    record {
      hours = filled no_hour 60 hours;
      weeks = filled no_week 10 weeks;
      incentive = incentive;
      charged = charged;
      taken = min charged incentive;
      net = incentive - min charged incentive;
      paid = (incentive - min charged incentive) / 1000;
    }

-- the statement of a site with these measured hours in the season of a year
unfoldable pub paid_for : ℕ → Site → List MeasuredHour → Statement
paid_for year x hours =
    written (map priced hours) (week_lines year x hours) (incentive_of (map priced hours) (week_lines year x hours)) (charged_of (map priced hours))

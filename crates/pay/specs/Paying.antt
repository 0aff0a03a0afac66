-- What measured hours pay and cost, where each is given with its week, and the weeks with their programme days.
use Rattle.std.specs.Prelude.{◌≡◌, ℕ, ◌-◌, ◌/◌, ◌≤◌, min, List, map, filter, nat_eq, slice_index}
use Rattle.std.specs.List.{range_with_len, AllByRecursion}
use Rattle.tariff.specs.Calendar.{week_of, last_week, programme_days}
use Rattle.tariff.specs.Pay.{priced, week_line_of, incentive_of, charged_of, written, paid_for}
use Rattle.tariff.specs.declared.season.Site.{Site}
use Rattle.tariff.specs.declared.statement.HourLine.{HourLine}
use Rattle.tariff.specs.declared.statement.MeasuredHour.{MeasuredHour}
use Rattle.tariff.specs.declared.statement.Statement.{Statement}
use Rattle.tariff.specs.declared.statement.WeekLine.{WeekLine}
use Rattle.pay.specs.declared.placed.PlacedHour.{PlacedHour}

-- what was measured, without the weeks
abbrev pub measured_list : List PlacedHour → List MeasuredHour
measured_list hours = map (λ p. p.measured) hours

-- what was measured in a week
unfoldable pub measured_in_week : ℕ → List PlacedHour → List MeasuredHour
measured_in_week w hours = measured_list (filter (λ p. nat_eq p.week w) hours)

-- the lines of the hours
unfoldable pub hour_lines_of : List PlacedHour → List HourLine
hour_lines_of hours = map priced (measured_list hours)

-- the line of a week, from the nominations and the programme days of the weeks, week 1 first
abbrev pub week_line_in : List ℕ → List ℕ → List PlacedHour → ℕ → WeekLine
week_line_in nominations days hours w = week_line_of (slice_index nominations (w - 1)) (measured_in_week w hours) (slice_index days (w - 1))

-- the lines of weeks 1 to the last
unfoldable pub week_lines_of : List ℕ → List ℕ → ℕ → List PlacedHour → List WeekLine
week_lines_of nominations days last hours = map (week_line_in nominations days hours) (range_with_len 1 last)

-- the statement of some hours
unfoldable pub statement_from : List PlacedHour → List ℕ → List ℕ → ℕ → Statement
statement_from hours nominations days last =
    written (hour_lines_of hours) (week_lines_of nominations days last hours)
    (incentive_of (hour_lines_of hours) (week_lines_of nominations days last hours)) (charged_of (hour_lines_of hours))

-- lists of hour lines and week lines with an incentive and the adjustments charged: no more is taken than the incentive, and whole
-- cents are paid
abbrev pub totalled : List HourLine → List WeekLine → ℕ → ℕ → Statement
totalled hours weeks incentive charged =
    record {
      hours = hours;
      weeks = weeks;
      incentive = incentive;
      charged = charged;
      taken = min charged incentive;
      net = incentive - min charged incentive;
      paid = (incentive - min charged incentive) / 1000;
    }

-- the weeks of the hours, the nominations, the programme days and the last week are those of a year and a site
pub record OfYear (year : ℕ) (x : Site) (hours : List PlacedHour) (nominations days : List ℕ) (last : ℕ) : Type 0 where
  pub in_weeks : AllByRecursion (λ p. p.week ≡ week_of year p.measured.day) hours
  pub of_site : nominations ≡ x.weeks
  pub to_last : last ≡ last_week year
  pub of_weeks : (w : ℕ) → 1 ≤ w → w ≤ last → slice_index days (w - 1) ≡ programme_days year w

-- with those a statement is the tariff's own
abbrev pub PaidAsTheTariffSays : List PlacedHour → List ℕ → List ℕ → ℕ → Statement → Type 0
PaidAsTheTariffSays hours nominations days last r =
    (year : ℕ) (x : Site) → OfYear year x hours nominations days last → r ≡ paid_for year x (measured_list hours)

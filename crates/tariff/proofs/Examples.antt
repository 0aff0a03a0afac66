-- The worked examples come out as stated.
use Rattle.std.proofs.Common.{refl}
use Rattle.tariff.specs.Calendar.{weekday, workweek_day, holiday, business, first_monday, monday, week_of, last_week, programme_day, programme_days, deadline}
use Rattle.tariff.specs.Counting.{count}
use Rattle.tariff.specs.Events.{announced_before, event_hours_before, hours_before, standing_before, week_hours_before}
use Rattle.tariff.specs.Calls.{run}
use Rattle.tariff.specs.Comparison.{latest, comparison_days}
use Rattle.tariff.specs.Measure.{moved_within}
use Rattle.tariff.specs.Examples.{OfCalendars, OfCalls, OfComparisonDays, OfBaselines, OfMoney, WorkedExamples}

of_calendars : OfCalendars
unfolding count weekday workweek_day holiday first_monday week_of last_week programme_day programme_days
of_calendars = (refl, refl, refl, refl, refl, refl, refl, refl)

of_calls : OfCalls
unfolding count weekday workweek_day holiday business first_monday monday week_of last_week deadline announced_before standing_before event_hours_before hours_before week_hours_before run
of_calls = (refl, refl, refl, refl, refl, refl, refl, refl)

of_comparison_days : OfComparisonDays
unfolding count weekday workweek_day holiday business first_monday week_of announced_before standing_before event_hours_before hours_before week_hours_before run latest comparison_days
of_comparison_days = refl

of_baselines : OfBaselines
unfolding moved_within
of_baselines = (refl, refl, refl, refl, refl)

of_money : OfMoney
of_money = (refl, refl, refl, refl, refl, refl)

pub worked_examples_lem : WorkedExamples
worked_examples_lem = (of_calendars, of_calls, of_comparison_days, of_baselines, of_money)

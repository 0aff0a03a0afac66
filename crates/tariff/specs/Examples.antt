-- Worked examples of the tariff: the definitions, computed on plain figures.
use Rattle.std.specs.Prelude.{◌≡◌, [], ◌∷◌, pos, negsuc, Ok, Err}
use Rattle.tariff.specs.declared.call.SeasonRefusal.TheVariants.{NominationTooLate, HoursOutside, NoticeOutside}
use Rattle.tariff.specs.declared.call.Call.TheVariants.{Enrol, Announce}
use Rattle.tariff.specs.Adjustment.{day_of_adjustment, held}
use Rattle.tariff.specs.Calendar.{last_week, programme_days, holiday}
use Rattle.tariff.specs.Calls.{run, nominate_answer, announce_answer}
use Rattle.tariff.specs.Comparison.{comparison_days}
use Rattle.tariff.specs.Measure.{adjusted_from, reduction_from, shortfall_of}
use Rattle.tariff.specs.Pay.{adjustment_for, energy_for, capacity_for}
use Rattle.tariff.specs.Refusals.{season_refusal_number}
use Rattle.tariff.specs.Season.{Season, opened, never_opened}

-- 2015: nine weeks, a first week of five programme days, and July 3 in place of July 4, a Saturday.
-- 2019: ten weeks, of which the first, whose June 15 is a Saturday, has no programme day, and the last has four.
-- 2021: July 5 in place of July 4, a Sunday, and a first week of four programme days.
abbrev pub OfCalendars : Type 0
OfCalendars =
    (last_week 2015 ≡ 9) × (programme_days 2015 1 ≡ 5) × (holiday 2015 ≡ 32)
    × (last_week 2019 ≡ 10) × (programme_days 2019 1 ≡ 0) × (programme_days 2019 10 ≡ 4)
    × (holiday 2021 ≡ 34) × (programme_days 2021 1 ≡ 4)

-- one site, enrolled at 60 kW as the summer opens
abbrev pub one_site : Season
one_site = run (opened never_opened 2015) (Enrol 0 0 60 ∷ [])

-- A figure for week 2 is taken until 10:00 on Thursday, June 18, and not a minute later.
-- At noon on June 15 an event from 14:00 to 18:00 is taken; one from 17:00 to 21:00 ends too late, and 16:00 is more than three hours ahead.
abbrev pub OfCalls : Type 0
OfCalls =
    (nominate_answer one_site 25080 1 2 60 ≡ Ok 2) × (nominate_answer one_site 25081 1 2 60 ≡ Err NominationTooLate) × (season_refusal_number NominationTooLate ≡ 11)
    × (announce_answer one_site 20880 14 4 ≡ Ok 1) × (announce_answer one_site 20880 17 4 ≡ Err HoursOutside) × (season_refusal_number HoursOutside ≡ 15)
    × (announce_answer one_site 20880 16 4 ≡ Err NoticeOutside) × (season_refusal_number NoticeOutside ≡ 16)

-- An event of June 15 is no comparison day of June 16: those are the ten business days before it.
abbrev pub OfComparisonDays : Type 0
OfComparisonDays =
    comparison_days (run (opened never_opened 2015) (Announce 20880 14 4 ∷ [])) 15 ≡ 11 ∷ 10 ∷ 9 ∷ 8 ∷ 7 ∷ 4 ∷ 3 ∷ 2 ∷ 1 ∷ 0 ∷ []

-- Three times an original baseline of 305 kWh, in all three hours: 290 and 310 kWh before the notice lower it by 5 kWh, to 300,
-- and a load of 250 kWh is then a reduction of 50. 400 and 400 kWh would raise it by 95 kWh, and are held at a fifth, 61.
abbrev pub OfBaselines : Type 0
OfBaselines =
    (day_of_adjustment 290000 310000 915000 915000 ≡ negsuc 149999) × (adjusted_from 290000 310000 915000 915000 915000 ≡ 9000000)
    × (reduction_from 9000000 250000 ≡ 50000)
    × (held 915000 (day_of_adjustment 400000 400000 915000 915000) ≡ pos 1830000) × (adjusted_from 400000 400000 915000 915000 915000 ≡ 10980000)

-- A reduction of 50 kWh at 60 kW: 10 kWh short, at the higher rate in event 3 and the lower in event 4, which pays for the energy too.
-- A week of 60 kW with four event hours, in which 199 kWh counted, and weeks of 40 kW with none, of five days and of one.
abbrev pub OfMoney : Type 0
OfMoney =
    (adjustment_for 3 (shortfall_of 60 50000) ≡ 2000000) × (adjustment_for 4 (shortfall_of 60 50000) ≡ 250000) × (energy_for 4 50000 ≡ 800000)
    × (capacity_for 60 4 199000 5 ≡ 16168750) × (capacity_for 40 0 0 5 ≡ 13000000) × (capacity_for 40 0 0 1 ≡ 2600000)

-- The worked examples come out as stated.
abbrev pub WorkedExamples : Type 0
WorkedExamples = OfCalendars × OfCalls × OfComparisonDays × OfBaselines × OfMoney

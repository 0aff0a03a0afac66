-- Sums over measured hours and weeks, as chains come to them and as the tariff has them.
use Rattle.std.proofs.Common.{◌≡◌, ℕ, ◌+◌, ◌-◌, ◌≤◌, List, length, get_or, sum_by, filter, nat_eq, sym, refl, ap, ◌∙◌, ap₂, arith}
use lib.ListN.{length-map}
use Rattle.std.proofs.lemmas.List.Sums.{sum_by-le, length-filter, count_by-le-length}
use Rattle.tariff.specs.Pay.{energy_for, adjustment_for, capacity_for, counted_reduction, counted_sum, charged_of, incentive_of, priced, filled, no_hour, no_week}
use Rattle.tariff.specs.declared.statement.HourLine.{HourLine}
use Rattle.tariff.specs.declared.statement.MeasuredHour.{MeasuredHour}
use Rattle.tariff.specs.declared.statement.WeekLine.{WeekLine}
use Rattle.tariff.proofs.Pointwise.{sumBy_map}
use Rattle.tariff.proofs.RecordFilled.{sumBy_filled}
use Rattle.pay.specs.declared.placed.PlacedHour.{PlacedHour}
use Rattle.pay.specs.Paying.{measured_list, measured_in_week, hour_lines_of, week_line_in, week_lines_of, totalled, statement_from}

abbrev pub energy_in : PlacedHour → ℕ
energy_in p = energy_for p.measured.event p.measured.reduction

abbrev pub adjustment_in : PlacedHour → ℕ
adjustment_in p = adjustment_for p.measured.event p.measured.shortfall

abbrev pub counted_in : ℕ → PlacedHour → ℕ
counted_in nominated p = counted_reduction nominated p.measured.reduction

abbrev pub those_in : ℕ → List PlacedHour → List PlacedHour
those_in w hours = filter (λ p. nat_eq p.week w) hours

-- ---- what the hours of a list come to at most

energy_low : (p : PlacedHour) → energy_in p ≤ 1920000000
energy_low p = grind (arith, p.reduced)

counted_low : (nominated : ℕ) (p : PlacedHour) → counted_in nominated p ≤ 120000000
counted_low nominated p = grind (arith, p.reduced)

pub energy_few : (hours : List PlacedHour) → length hours ≤ 60 → sum_by energy_in hours ≤ 115200000000
energy_few hours l = omega (arith, sum_by-le energy_in 1920000000 hours (λ k d i. energy_low (get_or hours k d)))

those_few : (w : ℕ) (hours : List PlacedHour) → length (those_in w hours) ≤ length hours
those_few w hours = omega (arith, length-filter (λ (p : PlacedHour). nat_eq p.week w) hours, count_by-le-length (λ (p : PlacedHour). nat_eq p.week w) hours)

pub counted_few : (nominated w : ℕ) (hours : List PlacedHour) → length hours ≤ 60 → sum_by (counted_in nominated) (those_in w hours) ≤ 7200000000
counted_few nominated w hours l =
    let those : List PlacedHour = those_in w hours in
    omega (arith, those_few w hours, sum_by-le (counted_in nominated) 120000000 those (λ k d i. counted_low nominated (get_or those k d)))

-- ---- the tariff's own sums

pub energy_sum : (hours : List PlacedHour) → sum_by energy_in hours ≡ sum_by (λ l. l.energy) (hour_lines_of hours)
unfolding hour_lines_of
energy_sum hours = sumBy_map (λ (m : MeasuredHour). energy_for m.event m.reduction) (λ p. p.measured) hours ∙ sumBy_map (λ (l : HourLine). l.energy) priced (measured_list hours)

pub adjustment_sum : (hours : List PlacedHour) → sum_by adjustment_in hours ≡ charged_of (hour_lines_of hours)
unfolding hour_lines_of charged_of
adjustment_sum hours = sumBy_map (λ (m : MeasuredHour). adjustment_for m.event m.shortfall) (λ p. p.measured) hours ∙ sumBy_map (λ (l : HourLine). l.adjustment) priced (measured_list hours)

counted_is : (nominated w : ℕ) (hours : List PlacedHour) → sum_by (counted_in nominated) (those_in w hours) ≡ counted_sum nominated (measured_in_week w hours)
unfolding counted_sum measured_in_week
counted_is nominated w hours = sumBy_map (λ (m : MeasuredHour). counted_reduction nominated m.reduction) (λ p. p.measured) (those_in w hours)

hours_are : (w : ℕ) (hours : List PlacedHour) → length (those_in w hours) ≡ length (measured_in_week w hours)
unfolding measured_in_week
hours_are w hours = sym (length-map (those_in w hours) (λ p. p.measured))

-- the figures of a week make its line
pub week_line_is : (nominations days : List ℕ) (hours : List PlacedHour) (k n d count counted capacity : ℕ) → n ≡ get_or nominations k 0 → d ≡ get_or days k 0 → count ≡ length (those_in (k + 1) hours) → counted ≡ sum_by (counted_in n) (those_in (k + 1) hours) → capacity ≡ capacity_for n count counted d → record { nomination = n; hours = count; counted = counted; days = d; capacity = capacity } ≡ week_line_in nominations days hours (k + 1)
week_line_is nominations days hours k n d count counted capacity a b e g h =
    let at : (k + 1) - 1 ≡ k = omega arith in
    cc (at, h, a, b, e ∙ hours_are (k + 1) hours, g ∙ counted_is n (k + 1) hours)

-- lines and totals together are the statement
pub totalled_is : (hours : List PlacedHour) (nominations days : List ℕ) (last : ℕ) (ls : List HourLine) (ws : List WeekLine) (paid energy charged : ℕ) → ls ≡ filled no_hour 60 (hour_lines_of hours) → ws ≡ filled no_week 10 (week_lines_of nominations days last hours) → paid ≡ sum_by (λ w. w.capacity) ws → energy ≡ sum_by (λ l. l.energy) (hour_lines_of hours) → charged ≡ charged_of (hour_lines_of hours) → totalled ls ws (paid + energy) charged ≡ statement_from hours nominations days last
unfolding statement_from incentive_of
totalled_is hours nominations days last ls ws paid energy charged l w p e c =
    let weeks : List WeekLine = week_lines_of nominations days last hours in
    let capacity : WeekLine → ℕ = λ x. x.capacity in
    let all : paid ≡ sum_by capacity weeks = p ∙ ap (sum_by capacity) w ∙ sumBy_filled no_week capacity refl 10 weeks in
    let sum : paid + energy ≡ incentive_of (hour_lines_of hours) weeks = ap₂ ◌+◌ all e in
    ap₂ (λ (hs : List HourLine) (vs : List WeekLine). totalled hs vs (paid + energy) charged) l w
    ∙ ap₂ (λ (m n : ℕ). totalled (filled no_hour 60 (hour_lines_of hours)) (filled no_week 10 weeks) m n) sum c

-- Paying: reductions no lower, with shortfalls no higher and all else equal, raise no adjustment charged and lower no net.
use Rattle.std.proofs.Common.{◌≡◌, ℕ, zero, suc, ◌*◌, ◌/◌, ◌≤◌, List, map, length, sym, refl, ap, le_refl, mul-le-mul_right, mul-le-mul_left, div-mul-le_self, arith}
use native.Mathlib.Nat.{div-zero}
use Rattle.std.specs.List.{range_with_len, AllZip}
use Rattle.std.proofs.lemmas.Nat.{le-div}
use Rattle.std.proofs.lemmas.List.Elements.{length_all_zip}
use Rattle.std.proofs.lemmas.Bool.Decides.{nat_tests}
use Rattle.tariff.specs.Calendar.{in_week, last_week, programme_days}
use Rattle.tariff.specs.Laws.{ReducingNoLessNeverCosts}
use Rattle.tariff.specs.Lines.{ReducedNoLess, LineNoWorse, WeekNoWorse, NoWorse, line_at, week_at}
use Rattle.tariff.specs.Pay.{adjustment_for, energy_for, counted_reduction, capacity_for, priced, hours_in_week, counted_sum, week_line, week_lines, no_hour, no_week, filled, incentive_of, charged_of, paid_for}
use Rattle.tariff.specs.Season.{nomination_for}
use Rattle.tariff.specs.declared.season.Site.{Site}
use Rattle.tariff.specs.declared.statement.MeasuredHour.{MeasuredHour}
use Rattle.tariff.specs.declared.statement.HourLine.{HourLine}
use Rattle.tariff.specs.declared.statement.WeekLine.{WeekLine}
use Rattle.tariff.proofs.Pointwise.{each_map, each_mapped, each_kept, each_filled, each_at, each_sum, each_sum_back}
use Rattle.tariff.proofs.Ranking.{all_counting}

-- ---- rates

div_le : (m n k : ℕ) → m ≤ n → m / k ≤ n / k
div_le m n zero h = omega (arith, div-zero m, div-zero n)
div_le m n (suc k) h = le-div (m / suc k) n (suc k) (omega arith) (omega (arith, div-mul-le_self m (suc k)))

adjustment_le : (e m n : ℕ) → m ≤ n → adjustment_for e m ≤ adjustment_for e n
adjustment_le e m n h = grind (arith, nat_tests)

energy_le : (e m n : ℕ) → m ≤ n → energy_for e m ≤ energy_for e n
energy_le e m n h = grind (arith, nat_tests)

capacity_le : (f hours m n days : ℕ) → m ≤ n → capacity_for f hours m days ≤ capacity_for f hours n days
capacity_le f hours m n days h =
    let paid = div_le (325 * m * days) (325 * n * days) (5 * hours) (mul-le-mul_right days (mul-le-mul_left _ h)) in
    grind (arith, nat_tests)

-- ---- lines

line_self : (l : HourLine) → LineNoWorse l l
line_self l = record { event = refl; day = refl; hour = refl; base = refl; adjusted = refl; reduction = le_refl _; shortfall = le_refl _; energy = le_refl _; adjustment = le_refl _ }

week_self : (w : WeekLine) → WeekNoWorse w w
week_self w = record { nomination = refl; hours = refl; days = refl; counted = le_refl _; capacity = le_refl _ }

priced_no_worse : (l m : MeasuredHour) → ReducedNoLess l m → LineNoWorse (priced l) (priced m)
priced_no_worse l m r = record {
  event = r.event;
  day = r.day;
  hour = r.hour;
  base = r.base;
  adjusted = r.adjusted;
  reduction = r.reduction;
  shortfall = r.shortfall;
  energy = rw r.event (energy_le l.event l.reduction m.reduction r.reduction);
  adjustment = rw r.event (adjustment_le l.event m.shortfall l.shortfall r.shortfall);
}

module _ (year : ℕ) (x : Site) (hours more : List MeasuredHour) (each : AllZip ReducedNoLess hours more) where
  lines_no_worse : AllZip LineNoWorse (map priced hours) (map priced more)
  lines_no_worse = each_mapped ReducedNoLess LineNoWorse priced priced_no_worse hours more each

  in_week_no_less : (w : ℕ) → AllZip ReducedNoLess (hours_in_week year w hours) (hours_in_week year w more)
  unfolding hours_in_week
  in_week_no_less w = each_kept ReducedNoLess (λ m. in_week year w m.day) (λ l m r. ap (in_week year w) r.day) hours more each

  counted_more : (n w : ℕ) → counted_sum n (hours_in_week year w hours) ≤ counted_sum n (hours_in_week year w more)
  unfolding counted_sum
  counted_more n w =
      each_sum ReducedNoLess (λ m. counted_reduction n m.reduction) (λ m. counted_reduction n m.reduction) (λ l m r. omega (arith, r.reduction))
      (hours_in_week year w hours) (hours_in_week year w more) (in_week_no_less w)

  week_no_worse : (w : ℕ) → WeekNoWorse (week_line year x hours w) (week_line year x more w)
  week_no_worse w =
      let n : ℕ = nomination_for x w in
      let many : length (hours_in_week year w hours) ≡ length (hours_in_week year w more) = length_all_zip ReducedNoLess _ _ (in_week_no_less w) in
      record {
        nomination = refl;
        hours = sym many;
        days = refl;
        counted = counted_more n w;
        capacity = rw many (capacity_le n (length (hours_in_week year w more)) _ _ (programme_days year w) (counted_more n w));
      }

  weeks_no_worse : AllZip WeekNoWorse (week_lines year x hours) (week_lines year x more)
  unfolding week_lines
  weeks_no_worse =
      each_map WeekNoWorse (week_line year x hours) (week_line year x more) (range_with_len 1 (last_week year))
      (all_counting _ 1 (last_week year) (λ w _ _. week_no_worse w))

  charged_no_more : charged_of (map priced more) ≤ charged_of (map priced hours)
  unfolding charged_of
  charged_no_more = each_sum_back LineNoWorse (λ l. l.adjustment) (λ l. l.adjustment) (λ l m b. b.adjustment) (map priced hours) (map priced more) lines_no_worse

  incentive_no_less : incentive_of (map priced hours) (week_lines year x hours) ≤ incentive_of (map priced more) (week_lines year x more)
  unfolding incentive_of
  incentive_no_less =
      let e = each_sum LineNoWorse (λ l. l.energy) (λ l. l.energy) (λ l m b. b.energy) (map priced hours) (map priced more) lines_no_worse in
      let c = each_sum WeekNoWorse (λ w. w.capacity) (λ w. w.capacity) (λ v w b. b.capacity) (week_lines year x hours) (week_lines year x more) weeks_no_worse in
      omega arith

  pub no_worse : NoWorse (paid_for year x hours) (paid_for year x more)
  unfolding paid_for
  no_worse =
      let lines : (k : ℕ) → LineNoWorse (line_at (paid_for year x hours) k) (line_at (paid_for year x more) k) = λ k.
      each_at LineNoWorse (filled no_hour 60 (map priced hours)) (filled no_hour 60 (map priced more)) k no_hour (line_self no_hour)
      (each_filled LineNoWorse no_hour 60 (map priced hours) (map priced more) (line_self no_hour) lines_no_worse) in
      let weeks : (k : ℕ) → WeekNoWorse (week_at (paid_for year x hours) k) (week_at (paid_for year x more) k) = λ k.
      each_at WeekNoWorse (filled no_week 10 (week_lines year x hours)) (filled no_week 10 (week_lines year x more)) k no_week (week_self no_week)
      (each_filled WeekNoWorse no_week 10 (week_lines year x hours) (week_lines year x more) (week_self no_week) weeks_no_worse) in
      let p = charged_no_more in
      let q = incentive_no_less in
      record { lines = lines; weeks = weeks; incentive = q; charged = p; net = omega arith; paid = omega arith }

pub reducing_no_less_never_costs_lem : ReducingNoLessNeverCosts
reducing_no_less_never_costs_lem = no_worse

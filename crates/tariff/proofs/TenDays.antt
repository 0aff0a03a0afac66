-- Every event is compared with the ten latest comparable days before it.
use Rattle.std.proofs.Common.{◌≡◌, ℕ, zero, suc, ◌+◌, ◌%◌, ◌<◌, Bool, true, false, not, ◌&&◌, eqb, ltb, refl, ◌∙◌, inl, inr, arith}
use Rattle.std.specs.List.{ContainsAt as Has}
use Rattle.std.proofs.lemmas.Bool.{cases_Bool}
use Rattle.std.proofs.lemmas.Bool.Decides.{nat_tests}
use Rattle.tariff.specs.Calendar.{weekday, workweek_day, holiday, business}
use Rattle.tariff.specs.Comparison.{comparable, comparison_days}
use Rattle.tariff.specs.Counting.{count}
use Rattle.tariff.specs.Season.{Season, standing}
use Rattle.tariff.specs.Sound.{Sound}
use Rattle.tariff.specs.TenDays.{Late, ComparisonDaysAreLatest, TenComparisonDays}
use Rattle.tariff.proofs.Latest.{latest_length, latest_falling, latest_late, late_latest}
use Rattle.tariff.proofs.Runs.{standing_fit}
use Rattle.tariff.proofs.Totals.{count_same, count_least}

pub comparison_days_are_latest : ComparisonDaysAreLatest
unfolding comparison_days
comparison_days_are_latest s d =
    (latest_falling (comparable s) _ d, λ k. (late k, λ l. late_latest (comparable s) k _ d l.before (grind (arith, nat_tests)) (omega (arith, l.few_between))))
  where
    late : (k : ℕ) → Has (comparison_days s d) k → Late s d k
    late k h =
        let l = latest_late (comparable s) k _ d h in
        let e : comparable s k ≡ true = l.1 in
        record { before = l.0; on_business = grind (arith, nat_tests); no_event = grind (arith, nat_tests); few_between = omega (arith, l.2) }

-- ---- the two weeks before June 15

weekday_on : (year k : ℕ) → weekday year k ≡ (weekday year 0 + k) % 7
unfolding weekday
weekday_on year k = omega arith

weekday_low : (year : ℕ) → weekday year 0 < 7
unfolding weekday
weekday_low year = omega arith

holiday_late : (year k : ℕ) → k < 14 → eqb k (holiday year) ≡ false
unfolding holiday
holiday_late year k h = grind (arith, nat_tests)

-- two weeks hold ten days of workweeks, whichever day they begin on
ten_weekdays : (r : ℕ) → r < 7 → count (λ k. ltb ((r + k) % 7) 5) 14 ≡ 10
unfolding count
ten_weekdays zero h = refl
ten_weekdays (suc zero) h = refl
ten_weekdays (suc (suc zero)) h = refl
ten_weekdays (suc (suc (suc zero))) h = refl
ten_weekdays (suc (suc (suc (suc zero)))) h = refl
ten_weekdays (suc (suc (suc (suc (suc zero))))) h = refl
ten_weekdays (suc (suc (suc (suc (suc (suc zero)))))) h = refl
ten_weekdays (suc (suc (suc (suc (suc (suc (suc r))))))) h = let z : ⊥ = omega arith in absurd z

module _ (s : Season) (sound : Sound s) where
  early_free : (k : ℕ) → k < 14 → standing s k ≡ false
  early_free k h =
      elim (cases_Bool (standing s k)) [
        | inl e ↦ let f = standing_fit s k sound e in let z : ⊥ = omega arith in absurd z
        | inr e ↦ e
      ]

  early_comparable : (k : ℕ) → k < 14 → comparable s k ≡ ltb ((weekday s.year 0 + k) % 7) 5
  unfolding business workweek_day
  early_comparable k h = rw (early_free k h, holiday_late s.year k h, weekday_on s.year k) (and_trues (ltb ((weekday s.year 0 + k) % 7) 5))
    where
      and_trues : (b : Bool) → ((b && not false) && not false) ≡ b
      and_trues true = refl
      and_trues false = refl

  early_ten : count (comparable s) 14 ≡ 10
  early_ten = count_same (comparable s) (λ k. ltb ((weekday s.year 0 + k) % 7) 5) 14 early_comparable ∙ ten_weekdays (weekday s.year 0) (weekday_low s.year)

pub ten_comparison_days : TenComparisonDays
unfolding comparison_days
ten_comparison_days s sound d stood =
    let f = standing_fit s d sound stood in
    simp latest_length (omega (arith, early_ten s sound, count_least (comparable s) 14 d f.opens))

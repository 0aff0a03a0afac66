-- Two tables that hold the same on every day with no standing event give the same original baselines, and the same adjusted
-- baselines for an event if they hold the same in the two hours before its notice.
use Rattle.std.proofs.Common.{◌≡◌, ℕ, ◌+◌, ◌-◌, ◌<◌, false, List, map, length, get_or, sum_by, ap, ◌∙◌, arith}
use Rattle.std.specs.List.{AllByRecursion}
use Rattle.std.proofs.ByRecursion.{All-get_or, All-map, All-weaker}
use Rattle.std.proofs.lemmas.List.{length-map}
use Rattle.std.proofs.lemmas.Bool.Decides.{nat_tests}
use Rattle.tariff.specs.Baseline.{afternoon, highest_of, base_of}
use Rattle.tariff.specs.Comparison.{comparable, comparison_days}
use Rattle.tariff.specs.Highest.{three_highest}
use Rattle.tariff.specs.Measure.{adjusted_of}
use Rattle.tariff.specs.Season.{Season, standing}
use Rattle.tariff.specs.Tables.{Table, load, load_of}
use Rattle.tariff.proofs.Latest.{latest_pass}
use Rattle.tariff.proofs.Places.{places_within}
use Rattle.tariff.proofs.Pointwise.{sumBy_same, map_same}
use Rattle.tariff.proofs.Summing.{total_same}

-- a day of the summer with no standing event
abbrev pub Free : Season → ℕ → Type 0
Free s k = (k < 76) × (standing s k ≡ false)

pub comparison_free : (s : Season) (d : ℕ) → d < 76 → AllByRecursion (Free s) (comparison_days s d)
unfolding comparison_days
comparison_free s d h =
    latest_pass (comparable s) (Free s) _ d (λ k l e. (omega arith, grind (arith, nat_tests)))

-- the three highest are days of those compared
pub all_highest : (P : ℕ → Type 0) (t : Table) (days : List ℕ) → AllByRecursion P days → AllByRecursion P (highest_of t days)
unfolding highest_of
all_highest P t days h =
    let totals : List ℕ = map (afternoon t) days in
    All-map P (λ place. get_or days place 0) (three_highest totals)
    (All-weaker (λ k. k < length totals) (λ k. P (get_or days k 0)) (λ k l. All-get_or P days k 0 (rw length-map at l) h) (three_highest totals) (places_within totals))

module _ (s : Season) (t u : Table) (same : (k h : ℕ) → k < 76 → h < 24 → standing s k ≡ false → t k h ≡ u k h) where
  afternoon_same : (k : ℕ) → Free s k → afternoon t k ≡ afternoon u k
  unfolding afternoon
  afternoon_same k f = total_same _ _ 6 (λ h l. ap load_of (same k (14 + h) f.0 (omega arith) f.1))

  -- over days with no standing event
  module _ (days : List ℕ) (free : AllByRecursion (Free s) days) where
    highest_same : highest_of t days ≡ highest_of u days
    unfolding highest_of
    highest_same =
        ap (λ totals. map (λ place. get_or days place 0) (three_highest totals))
        (map_same (afternoon t) (afternoon u) days (All-weaker (Free s) _ afternoon_same days free))

    pub base_of_same : (h : ℕ) → h < 24 → base_of t days h ≡ base_of u days h
    unfolding base_of
    base_of_same h m =
        sumBy_same (λ k. load t k h) (λ k. load u k h) (highest_of t days) (All-weaker (Free s) _ (λ k f. ap load_of (same k h f.0 m f.1)) _ (all_highest (Free s) t days free))
        ∙ ap (sum_by (λ k. load u k h)) highest_same

    pub adjusted_of_same : (d n h : ℕ) → n < 24 → h < 24 → t d (n - 2) ≡ u d (n - 2) → t d (n - 1) ≡ u d (n - 1) → adjusted_of t days d n h ≡ adjusted_of u days d n h
    unfolding adjusted_of
    adjusted_of_same d n h l m two one =
        let a = base_of_same h m in
        let b = base_of_same (n - 2) (omega arith) in
        let c = base_of_same (n - 1) (omega arith) in
        cc

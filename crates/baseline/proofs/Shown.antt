-- What was read of days gives the tariff's own totals and bases.
use Rattle.std.proofs.Common.{◌≡◌, ℕ, ◌+◌, ◌<◌, List, [], ◌∷◌, map, length, get_or, Some, None, Ok, Err, sum_by, Result, sym, refl, ap, ◌∙◌, ap₂, arith}
use lib.ListN.{length-map}
use Rattle.std.specs.List.{range_with_len, AllByRecursion}
use Rattle.std.proofs.lemmas.List.FromFn.{length-range_with_len, get_or-range_with_len}
use Rattle.std.proofs.ByRecursion.{All-take}
use Rattle.std.proofs.lemmas.List.{get_or-map}
use Rattle.std.proofs.lemmas.List.Sums.{sum_by-cons}
use Rattle.tariff.specs.Tables.{Table, load}
use Rattle.tariff.specs.Counting.{total}
use Rattle.tariff.specs.Highest.{total_at, ranked, three_highest}
use Rattle.tariff.specs.Faults.{comparison_fault}
use Rattle.tariff.specs.declared.fault.BaselineFault.{BaselineFault}
use Rattle.tariff.specs.Baseline.{afternoon, highest_of, base_of}
use Rattle.tariff.proofs.Pointwise.{map_same}
use Rattle.tariff.proofs.Ranking.{all_counting, all_ranked}
use Rattle.baseline.specs.Days.{day_loads, days_read, fault_or}
use Rattle.baseline.specs.Original.{original_of, original_read, original_from, OriginalOfLoads}
use Rattle.baseline.proofs.TenDays.{fault_none, fault_some}
use Rattle.baseline.specs.Sums.{afternoon_of, totals_of, load_at, sum_at, bases_of}

module _ (t : Table) where
  pub loads_at : (d h : ℕ) → h < 24 → get_or (day_loads t d) h 0 ≡ load t d h
  unfolding day_loads
  loads_at d h l =
      let long : length (range_with_len 0 24) ≡ 24 = length-range_with_len 0 24 in
      get_or-map (load t d) (range_with_len 0 24) h 0 0 (omega arith) ∙ ap (load t d) (get_or-range_with_len 0 24 h 0 l ∙ omega arith)

  afternoon_shown : (d : ℕ) → afternoon_of (day_loads t d) ≡ afternoon t d
  unfolding afternoon day_loads total
  afternoon_shown d = refl

  pub totals_shown : (days : List ℕ) → totals_of (map (day_loads t) days) ≡ map (afternoon t) days
  unfolding totals_of
  totals_shown [] = refl
  totals_shown (d ∷ days) = ap₂ ◌∷◌ (afternoon_shown d) (totals_shown days)

  load_shown : (days : List ℕ) (h p : ℕ) → h < 24 → p < length days → load_at (map (day_loads t) days) h p ≡ load t (get_or days p 0) h
  load_shown days h p l w = ap (λ loads. get_or loads h 0) (get_or-map (day_loads t) days p 0 [] w) ∙ loads_at (get_or days p 0) h l

  sum_shown : (days : List ℕ) (h : ℕ) → h < 24 → (places : List ℕ) → AllByRecursion (λ p. p < length days) places → sum_at (map (day_loads t) days) places h ≡ sum_by (λ d. load t d h) (map (λ p. get_or days p 0) places)
  unfolding sum_at
  sum_shown days h l [] w = refl
  sum_shown days h l (p ∷ places) w =
      sum_by-cons (load_at (map (day_loads t) days) h) p places ∙ ap₂ ◌+◌ (load_shown days h p l w.0) (sum_shown days h l places w.1) ∙ sym (sum_by-cons (λ d. load t d h) (get_or days p 0) (map (λ q. get_or days q 0) places))

  -- the places of the three highest are places of days
  places_within : (days : List ℕ) → AllByRecursion (λ p. p < length days) (three_highest (map (afternoon t) days))
  unfolding three_highest
  places_within days =
      let totals : List ℕ = map (afternoon t) days in
      let long : length totals ≡ length days = length-map days (afternoon t) in
      let f : ℕ → ℕ = total_at totals in
      All-take (λ p. p < length days) 3 (ranked f (range_with_len 0 (length totals))) (all_ranked (λ p. p < length days) f (range_with_len 0 (length totals)) (all_counting (λ p. p < length days) 0 (length totals) (λ k a b. omega arith)))

  pub bases_shown : (days : List ℕ) → bases_of (map (day_loads t) days) (three_highest (map (afternoon t) days)) ≡ map (base_of t days) (range_with_len 0 24)
  unfolding bases_of base_of highest_of
  bases_shown days =
      let places : List ℕ = three_highest (map (afternoon t) days) in
      map_same (sum_at (map (day_loads t) days) places) (λ h. sum_by (λ d. load t d h) (map (λ p. get_or days p 0) places)) (range_with_len 0 24) (all_counting _ 0 24 (λ h a b. sum_shown days h (omega arith) places (places_within days)))

  original_shown : (days : List ℕ) (loads : List (List ℕ)) → Ok loads ≡ days_read t days → Ok (original_from loads) ≡ original_read t days
  unfolding days_read original_read
  original_shown days loads e =
      let w = fault_none (comparison_fault t days) (map (day_loads t) days) loads e in
      let totals : totals_of loads ≡ map (afternoon t) days = ap totals_of w.1 ∙ totals_shown days in
      let highest : three_highest (totals_of loads) ≡ three_highest (map (afternoon t) days) = ap three_highest totals in
      let bases : bases_of loads (three_highest (totals_of loads)) ≡ map (base_of t days) (range_with_len 0 24) = ap₂ bases_of w.1 highest ∙ bases_shown days in
      let none : comparison_fault t days ≡ None = w.0 in
      cc

  original_gap : (days : List ℕ) (f : BaselineFault) → Err f ≡ days_read t days → Err f ≡ original_read t days
  unfolding days_read original_read
  original_gap days f e =
      let some : comparison_fault t days ≡ Some f = fault_some (comparison_fault t days) (map (day_loads t) days) f e in
      ap (λ o. fault_or o (original_of t days)) (sym some)

  -- what was read of days tells their original baseline
  pub original_told : (days : List ℕ) (r : Result (List (List ℕ)) BaselineFault) → r ≡ days_read t days → OriginalOfLoads t days r
  original_told days (Ok loads) e = original_shown days loads e
  original_told days (Err f) e = original_gap days f e

-- The three highest of some totals are only three places in one order, and the first three of a list in order are such.
use Rattle.std.proofs.Common.{◌≡◌, ◌≢◌, ℕ, zero, suc, ◌<◌, ◌≤◌, ◌⊎◌, false, eqb, List, [], ◌∷◌, length, get_or, sym, refl, ap, ◌∙◌, inl, inr, arith, rules}
use Rattle.std.specs.Cmp.{IsStrictWeakOrder}
use Rattle.std.specs.Ordering.{is_lt, nat_cmp, ordering_then}
use Rattle.std.specs.List.{IsDistinct, All}
use Rattle.std.specs.List.Sorted.{IsPermutation}
use Rattle.std.proofs.lemmas.Bool.Decides.{nat_tests}
use Rattle.std.proofs.lemmas.Map.Keys.{IsDistinct-IsPermutation, IsDistinct-from_apart, apart_from_distinct}
use Rattle.std.proofs.lemmas.List.Sorted.{sorted_far, ranks_by, All-permutation, Contains-permutation, length_permutation}
use Rattle.std.proofs.lemmas.List.{ext_get_or, get_or_default}
use Rattle.std.proofs.lemmas.Bool.{cases_eq, cases_lt, cases_order, eqb-false}
use Rattle.tariff.specs.Highest.{total_at, GoesBefore, Highest}
use Rattle.baseline.specs.Ranked.{before, firsts, Ranked}

before_orders : IsStrictWeakOrder before
before_orders = ranks_by {R = λ (x y : ℕ × ℕ). ordering_then (nat_cmp y.0 x.0) (nat_cmp x.1 y.1)} (search rules) (λ (x : ℕ × ℕ). x)

not_after : (s p t q : ℕ) → is_lt (ordering_then (nat_cmp s t) (nat_cmp q p)) ≡ false → p ≢ q → (t < s) ⊎ ((t ≡ s) × (p < q))
not_after s p t q h ne = elim (cases_order s t) [
  | inl e ↦ inr (sym e, grind (arith, nat_tests))
  | inr o ↦ elim o [ inl l ↦ absurd (grind (arith, nat_tests)) | inr l ↦ inl l ]
]

-- places below 3, one by one
three_cases : (P : ℕ → Type 0) → P 0 → P 1 → P 2 → (k : ℕ) → k < 3 → P k
three_cases P a b c zero l = a
three_cases P a b c (suc zero) l = b
three_cases P a b c (suc (suc zero)) l = c
three_cases P a b c (suc (suc (suc k))) l = let z : ⊥ = omega arith in absurd z

module _ (totals : List ℕ) where
  never_both : (a b : ℕ) → GoesBefore totals a b → GoesBefore totals b a → ⊥
  never_both a b (inl h) (inl k) = omega arith
  never_both a b (inl h) (inr k) = omega arith
  never_both a b (inr h) (inl k) = omega arith
  never_both a b (inr h) (inr k) = omega arith

  -- one of three highest goes before each place that is none of those up to it
  module _ (ps : List ℕ) (h : Highest totals ps) (k p : ℕ) (l : k < 3) (w : p < length totals) where
    goes_first : ((j : ℕ) → j < 3 → get_or ps j 0 ≡ p → k < j) → GoesBefore totals (get_or ps k 0) p
    goes_first past =
        let here : (j : ℕ) → j < 3 → get_or ps j 0 ≡ p → GoesBefore totals (get_or ps k 0) p = λ j m e. (rw e at (h.in_order k j (past j m e) m)) in
        elim (cases_eq (get_or ps 0 0) p) [
          | inl e ↦ here 0 (omega arith) e
          | inr a ↦ elim (cases_eq (get_or ps 1 0) p) [
            | inl e ↦ here 1 (omega arith) e
            | inr b ↦ elim (cases_eq (get_or ps 2 0) p) [
              | inl e ↦ here 2 (omega arith) e
              | inr c ↦ h.above_others p w (three_cases (λ j. get_or ps j 0 ≢ p) a b c) k l
            ]
          ]
        ]

  -- where two agree below k and not at k, what one has at k stands later in the other
  later : (ps qs : List ℕ) → Highest totals qs → (k : ℕ) → k < 3 → ((j : ℕ) → j < k → get_or ps j 0 ≡ get_or qs j 0) → get_or ps k 0 ≢ get_or qs k 0 → (j : ℕ) → j < 3 → get_or ps j 0 ≡ get_or qs k 0 → k < j
  later ps qs i k l same ne j m e =
      elim (cases_order j k) [
        | inl s ↦ absurd (ne (rw s at e))
        | inr o ↦ elim o [ inl b ↦ absurd (i.distinct j k b l (sym (same j b) ∙ e)) | inr a ↦ a ]
      ]

  module _ (ps qs : List ℕ) (h : Highest totals ps) (i : Highest totals qs) where
    next : (k : ℕ) → k < 3 → ((j : ℕ) → j < k → get_or ps j 0 ≡ get_or qs j 0) → get_or ps k 0 ≡ get_or qs k 0
    next k l same =
        elim (cases_eq (get_or ps k 0) (get_or qs k 0)) [
          | inl e ↦ e
          | inr ne ↦ absurd (never_both (get_or ps k 0) (get_or qs k 0)
              (goes_first ps h k (get_or qs k 0) l (i.within k l) (later ps qs i k l same ne))
              (goes_first qs i k (get_or ps k 0) l (h.within k l) (later qs ps h k l (λ j m. sym (same j m)) (λ e. ne (sym e)))))
        ]

    up_to : (n : ℕ) → n ≤ 3 → (j : ℕ) → j < n → get_or ps j 0 ≡ get_or qs j 0
    up_to zero l j m = let z : ⊥ = omega arith in absurd z
    up_to (suc n) l j m =
        elim (cases_eq j n) [ inl e ↦ rw e (next n (omega arith) (up_to n (omega arith))) | inr ne ↦ up_to n (omega arith) j (omega arith) ]

    -- the three highest are one list
    pub same_three : ps ≡ qs
    same_three = let a = h.three in let b = i.three in ext_get_or 0 ps qs (omega arith) (λ k l. up_to 3 (omega arith) k (omega arith))

  -- the first three places of a list of totals with their places, in order, that has every place
  module _ (xs : List (ℕ × ℕ)) (long : 3 ≤ length xs) (within : (k : ℕ) → k < length xs → (get_or xs k (0, 0)).1 < length totals) (order : (j k : ℕ) → j < k → k < length xs → GoesBefore totals (get_or xs j (0, 0)).1 (get_or xs k (0, 0)).1) (every : (p : ℕ) → p < length totals → (k : ℕ) × (k < length xs) × ((get_or xs k (0, 0)).1 ≡ p)) where
    at_place : (k : ℕ) → k < 3 → get_or (firsts xs) k 0 ≡ (get_or xs k (0, 0)).1
    at_place = three_cases (λ k. get_or (firsts xs) k 0 ≡ (get_or xs k (0, 0)).1) refl refl refl

    pub firsts_highest : Highest totals (firsts xs)
    firsts_highest = record {
      three = refl;
      within = λ k l. rw (at_place k l) (within k (omega arith));
      distinct = λ j k l m e.
          let same : (get_or xs j (0, 0)).1 ≡ (get_or xs k (0, 0)).1 = sym (at_place j (omega arith)) ∙ e ∙ at_place k m in
          let g = rw same at (order j k l (omega arith)) in
          never_both _ _ g g;
      in_order = λ j k l m. rw (at_place j (omega arith), at_place k m) (order j k l (omega arith));
      above_others = λ p w none k l.
          let i = every p w in
          elim (cases_lt i.0 3) [
            | inl b ↦ absurd (none i.0 b (at_place i.0 b ∙ i.2))
            | inr a ↦ rw (at_place k l) (rw i.2 at (order k i.0 (omega arith) i.1))
          ];
    }

  -- so the first three places of the totals with their places, sorted
  module _ (made xs : List (ℕ × ℕ)) (many : length made ≡ length totals) (at : (k : ℕ) → k < length totals → get_or made k (0, 0) ≡ (total_at totals k, k)) (perm : IsPermutation made xs) (up : Ranked xs) where
    long : length xs ≡ length totals
    long = length_permutation made xs perm ∙ many

    at_any : (k : ℕ) (d : ℕ × ℕ) → k < length totals → get_or made k d ≡ (total_at totals k, k)
    at_any k d l = get_or_default made k d (0, 0) (omega (arith, many)) ∙ at k l

    placed : All (λ (x : ℕ × ℕ). (x.0 ≡ total_at totals x.1) × (x.1 < length totals)) xs
    placed = All-permutation (λ (x : ℕ × ℕ). (x.0 ≡ total_at totals x.1) × (x.1 < length totals)) made xs perm (λ k d l. let w : k < length totals = omega (arith, many) in rw (at_any k d w) (refl, w))

    apart : IsDistinct (λ (x y : ℕ × ℕ). eqb x.1 y.1) xs
    apart = IsDistinct-IsPermutation (λ (x y : ℕ × ℕ). eqb x.1 y.1) (λ x y. grind (arith, nat_tests)) made xs perm (IsDistinct-from_apart (λ (x y : ℕ × ℕ). eqb x.1 y.1) made (λ i j d l m.
        let a : (get_or made i d).1 ≡ i = ap (λ (x : ℕ × ℕ). x.1) (at_any i d (omega (arith, many))) in
        let b : (get_or made j d).1 ≡ j = ap (λ (x : ℕ × ℕ). x.1) (at_any j d (omega (arith, many))) in
        grind (arith, nat_tests)))

    in_turn : (j k : ℕ) → j < k → k < length xs → GoesBefore totals (get_or xs j (0, 0)).1 (get_or xs k (0, 0)).1
    in_turn j k l m =
        let x = get_or xs j (0, 0) in
        let y = get_or xs k (0, 0) in
        let a = placed j (0, 0) (omega arith) in
        let b = placed k (0, 0) m in
        let ne : x.1 ≢ y.1 = eqb-false _ _ (apart_from_distinct (λ (x y : ℕ × ℕ). eqb x.1 y.1) xs j k (0, 0) apart l m) in
        rw (← a.0, ← b.0) (not_after x.0 x.1 y.0 y.1 (sorted_far before before_orders xs up j k (0, 0) (omega arith) m) ne)

    each_place : (p : ℕ) → p < length totals → (k : ℕ) × (k < length xs) × ((get_or xs k (0, 0)).1 ≡ p)
    each_place p w =
        let i = Contains-permutation made xs (total_at totals p, p) perm (p, omega (arith, many), at_any p _ w) in
        (i.0, i.1, ap (λ (x : ℕ × ℕ). x.1) (get_or_default xs i.0 (0, 0) (total_at totals p, p) i.1 ∙ i.2))

    pub sorted_highest : 3 ≤ length totals → Highest totals (firsts xs)
    sorted_highest h =
        firsts_highest xs (omega (arith, long)) (λ k l. (placed k (0, 0) l).1) in_turn each_place

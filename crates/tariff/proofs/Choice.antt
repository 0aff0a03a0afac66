-- The three highest are the highest.
use Rattle.std.proofs.Common.{◌≡◌, ℕ, zero, suc, ◌+◌, ◌<◌, ◌≤◌, List, [], ◌∷◌, length, get_or, take, ap, inl, inr, arith}
use Rattle.std.specs.List.{range_with_len, AllByRecursion}
use Rattle.std.proofs.lemmas.List.FromFn.{length-range_with_len}
use Rattle.std.proofs.lemmas.Bool.{cases_eq, leb-true, leb-false}
use Rattle.tariff.specs.Highest.{total_at, ranked, ranked_in, three_highest, GoesBefore, Highest}
use Rattle.tariff.proofs.Ranking.{In, all_in, in_counting, all_counting, in_ranked, all_ranked, all_ranked_in, by_way, length_ranked}

three_cases : (P : ℕ → Type 0) → P 0 → P 1 → P 2 → (k : ℕ) → k < 3 → P k
three_cases P a b c zero h = a
three_cases P a b c (suc zero) h = b
three_cases P a b c (suc (suc zero)) h = c
three_cases P a b c (suc (suc (suc k))) h = let z : ⊥ = omega arith in absurd z

three_pairs : (P : ℕ → ℕ → Type 0) → P 0 1 → P 0 2 → P 1 2 → (j k : ℕ) → j < k → k < 3 → P j k
three_pairs P a b c j zero h l = let z : ⊥ = omega arith in absurd z
three_pairs P a b c zero (suc zero) h l = a
three_pairs P a b c (suc j) (suc zero) h l = let z : ⊥ = omega arith in absurd z
three_pairs P a b c zero (suc (suc zero)) h l = b
three_pairs P a b c (suc zero) (suc (suc zero)) h l = c
three_pairs P a b c (suc (suc j)) (suc (suc zero)) h l = let z : ⊥ = omega arith in absurd z
three_pairs P a b c j (suc (suc (suc k))) h l = let z : ⊥ = omega arith in absurd z

module _ (totals : List ℕ) where
  abbrev f : ℕ → ℕ
  f = total_at totals

  apart : (a b : ℕ) → GoesBefore totals a b → a ≡ b → ⊥
  apart a b (inl h) e = let g : f a ≡ f b = ap f e in omega arith
  apart a b (inr h) e = omega arith

  -- each goes before all that follow it
  abbrev InOrder : List ℕ → Type 0
  InOrder [] = Unit {0}
  InOrder (x ∷ xs) = AllByRecursion (GoesBefore totals x) xs × InOrder xs

  -- a lower place that is no less goes before
  lower_first : (x y : ℕ) → f y ≤ f x → x < y → GoesBefore totals x y
  lower_first x y h l = elim (cases_eq (f y) (f x)) [ inl e ↦ inr (e, l) | inr e ↦ inl (omega arith) ]

  no_less : (y z : ℕ) → GoesBefore totals y z → f z ≤ f y
  no_less y z (inl h) = omega arith
  no_less y z (inr h) = omega arith

  all_after : (x y : ℕ) (zs : List ℕ) → f y ≤ f x → AllByRecursion (λ z. x < z) zs → AllByRecursion (GoesBefore totals y) zs → AllByRecursion (GoesBefore totals x) zs
  all_after x y [] h l b = tt
  all_after x y (z ∷ zs) h l b =
      let n : f z ≤ f y = no_less y z b.0 in
      (lower_first x z (omega arith) l.0, all_after x y zs h l.1 b.1)

  in_order_in : (x : ℕ) (ys : List ℕ) → AllByRecursion (λ y. x < y) ys → InOrder ys → InOrder (ranked_in f x ys)
  unfolding ranked_in
  in_order_in x [] l o = (tt, tt)
  in_order_in x (y ∷ ys) l o =
      by_way f x InOrder y ys
      (λ e. let h : f y ≤ f x = leb-true (f y) (f x) e in ((lower_first x y h l.0, all_after x y ys h l.1 o.0), o))
      (λ e. let h : f x < f y = leb-false (f y) (f x) e in (all_ranked_in f x (GoesBefore totals y) ys (inl h) o.0, in_order_in x ys l.1 o.1))

  ranked_in_order : (a n : ℕ) → InOrder (ranked f (range_with_len a n))
  unfolding ranked
  ranked_in_order a zero = tt
  ranked_in_order a (suc n) =
      in_order_in a (ranked f (range_with_len (a + 1) n)) (all_ranked (λ y. a < y) f (range_with_len (a + 1) n) (all_counting (λ y. a < y) (a + 1) n (λ k l m. omega arith))) (ranked_in_order (a + 1) n)

  -- the first three of a list in order that holds every place
  first_three : (l : List ℕ) → 3 ≤ length l → InOrder l → AllByRecursion (λ p. p < length totals) l → ((p : ℕ) → p < length totals → In p l) → Highest totals (take 3 l)
  first_three [] long o w every = let z : ⊥ = omega arith in absurd z
  first_three (a ∷ []) long o w every = let z : ⊥ = omega arith in absurd z
  first_three (a ∷ b ∷ []) long o w every = let z : ⊥ = omega arith in absurd z
  first_three (a ∷ b ∷ c ∷ rest) long o w every =
      let ab = o.0.0 in
      let ac = o.0.1.0 in
      let bc = o.1.0.0 in
      let places : List ℕ = a ∷ b ∷ c ∷ [] in
      let among : (p : ℕ) → p < length totals → ((j : ℕ) → j < 3 → get_or places j 0 ≡ p → ⊥) → In p rest =
      λ p l none.
      elim (every p l) [
        | inl e ↦ absurd (none 0 (omega arith) e)
        | inr i ↦ elim i [ inl e ↦ absurd (none 1 (omega arith) e) | inr j ↦ elim j [ inl e ↦ absurd (none 2 (omega arith) e) | inr k ↦ k ] ]
      ]
      in
      let past : (x p : ℕ) → AllByRecursion (GoesBefore totals x) rest → In p rest → GoesBefore totals x p =
      λ x p h i. all_in (GoesBefore totals x) p rest h i (GoesBefore totals x p) (λ y e g. rw e at g)
      in
      record {
        three = omega arith;
        within = three_cases (λ k. get_or places k 0 < length totals) w.0 w.1.0 w.1.1.0;
        distinct = three_pairs (λ j k. get_or places j 0 ≡ get_or places k 0 → ⊥) (apart a b ab) (apart a c ac) (apart b c bc);
        in_order = three_pairs (λ j k. GoesBefore totals (get_or places j 0) (get_or places k 0)) ab ac bc;
        above_others = λ p l none.
            let i = among p l none in
            three_cases (λ k. GoesBefore totals (get_or places k 0) p) (past a p o.0.1.1 i) (past b p o.1.0.1 i) (past c p o.1.1.0 i);
      }

pub three_highest_are_highest_lem : (totals : List ℕ) → 3 ≤ length totals → Highest totals (three_highest totals)
unfolding three_highest
three_highest_are_highest_lem totals long =
    let n : ℕ = length totals in
    let g : ℕ → ℕ = total_at totals in
    let many : length (ranked g (range_with_len 0 n)) ≡ length (range_with_len 0 n) = length_ranked g (range_with_len 0 n) in
    let count : length (range_with_len 0 n) ≡ n = length-range_with_len 0 n in
    first_three totals (ranked g (range_with_len 0 n)) (omega arith) (ranked_in_order totals 0 n)
    (all_ranked (λ p. p < n) g (range_with_len 0 n) (all_counting (λ p. p < n) 0 n (λ k l m. omega arith)))
    (λ p l. in_ranked g p (range_with_len 0 n) (in_counting p 0 n (omega arith) (omega arith)))

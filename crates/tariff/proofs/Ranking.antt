-- A ranking: what it holds, and how long it is.
use Rattle.std.proofs.Common.{◌≡◌, ℕ, zero, suc, ◌+◌, ◌<◌, ◌≤◌, true, false, leb, ◌⊎◌, List, [], ◌∷◌, length, refl, ap, ◌∙◌, inl, inr, arith}
use Rattle.std.specs.List.{range_with_len, AllByRecursion}
use Rattle.std.proofs.lemmas.Bool.{cases_eq, cond_both}
use Rattle.tariff.specs.Highest.{ranked, ranked_in}

pub all_counting : (P : ℕ → Type 0) (a n : ℕ) → ((k : ℕ) → a ≤ k → k < a + n → P k) → AllByRecursion P (range_with_len a n)
all_counting P a zero h = tt
all_counting P a (suc n) h = (h a (omega arith) (omega arith), all_counting P (a + 1) n (λ k l m. h k (omega arith) (omega arith)))

-- p stands in the list
abbrev pub In : ℕ → List ℕ → Type 0
In p [] = ⊥
In p (x ∷ xs) = (x ≡ p) ⊎ In p xs

pub in_counting : (p a n : ℕ) → a ≤ p → p < a + n → In p (range_with_len a n)
in_counting p a zero h k = let z : ⊥ = omega arith in absurd z
in_counting p a (suc n) h k =
    elim (cases_eq a p) [ inl e ↦ inl e | inr e ↦ inr (in_counting p (a + 1) n (omega arith) (omega arith)) ]

pub all_in : (P : ℕ → Type 0) (p : ℕ) (xs : List ℕ) → AllByRecursion P xs → In p xs → (Q : Type 0) → ((x : ℕ) → x ≡ p → P x → Q) → Q
all_in P p [] h i Q use-it = absurd i
all_in P p (x ∷ xs) h i Q use-it = elim i [ inl e ↦ use-it x e h.0 | inr j ↦ all_in P p xs h.1 j Q use-it ]

module _ (f : ℕ → ℕ) (x : ℕ) where
  -- either way, as a rule on the list
  pub by_way : (P : List ℕ → Type 0) (y : ℕ) (ys : List ℕ) → (leb (f y) (f x) ≡ true → P (x ∷ y ∷ ys)) → (leb (f y) (f x) ≡ false → P (y ∷ ranked_in f x ys)) → P (ranked_in f x (y ∷ ys))
  unfolding ranked_in
  by_way P y ys p q = cond_both (leb (f y) (f x)) (x ∷ y ∷ ys) (y ∷ ranked_in f x ys) P p q

  pub all_ranked_in : (P : ℕ → Type 0) (ys : List ℕ) → P x → AllByRecursion P ys → AllByRecursion P (ranked_in f x ys)
  unfolding ranked_in
  all_ranked_in P [] h k = (h, tt)
  all_ranked_in P (y ∷ ys) h k = by_way (AllByRecursion P) y ys (λ _. (h, k)) (λ _. (k.0, all_ranked_in P ys h k.1))

  pub in_ranked_in : (p : ℕ) (ys : List ℕ) → (x ≡ p) ⊎ In p ys → In p (ranked_in f x ys)
  unfolding ranked_in
  in_ranked_in p [] i = i
  in_ranked_in p (y ∷ ys) i =
      by_way (In p) y ys (λ _. i)
      (λ _.
      elim i [
        | inl e ↦ inr (in_ranked_in p ys (inl e))
        | inr j ↦ elim j [ inl e ↦ inl e | inr k ↦ inr (in_ranked_in p ys (inr k)) ]
      ])

  pub length_ranked_in : (ys : List ℕ) → length (ranked_in f x ys) ≡ suc (length ys)
  unfolding ranked_in
  length_ranked_in [] = refl
  length_ranked_in (y ∷ ys) =
      by_way (λ zs. length zs ≡ suc (suc (length ys))) y ys (λ _. refl) (λ _. ap suc (length_ranked_in ys))

pub all_ranked : (P : ℕ → Type 0) (f : ℕ → ℕ) (xs : List ℕ) → AllByRecursion P xs → AllByRecursion P (ranked f xs)
unfolding ranked
all_ranked P f [] h = tt
all_ranked P f (x ∷ xs) h = all_ranked_in f x P (ranked f xs) h.0 (all_ranked P f xs h.1)

pub in_ranked : (f : ℕ → ℕ) (p : ℕ) (xs : List ℕ) → In p xs → In p (ranked f xs)
unfolding ranked
in_ranked f p [] i = i
in_ranked f p (x ∷ xs) i =
    in_ranked_in f x p (ranked f xs) (elim i [ inl e ↦ inl e | inr j ↦ inr (in_ranked f p xs j) ])

pub length_ranked : (f : ℕ → ℕ) (xs : List ℕ) → length (ranked f xs) ≡ length xs
unfolding ranked
length_ranked f [] = refl
length_ranked f (x ∷ xs) = length_ranked_in f x (ranked f xs) ∙ ap suc (length_ranked f xs)

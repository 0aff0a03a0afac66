-- The first element of a list that gives something.
use Rattle.std.proofs.Common.{◌≡◌, ℕ, zero, suc, ◌-◌, ◌<◌, List, [], ◌∷◌, reverse, length, get_or, Some, None, Option, refl, ap, ◌∙◌, arith}
use Rattle.std.specs.List.{range_with_len}
use Rattle.std.proofs.lemmas.List.FromFn.{length-range_with_len, get_or-range_with_len}
use Rattle.std.proofs.lemmas.List.{get_or-reverse, length-reverse}
use Rattle.tariff.specs.Faults.{or_else, first_some}

module _ {A X : Type 0} (f : A → Option X) where
  pub some_here : (a : A) (rest : List A) (x : X) → f a ≡ Some x → first_some f (a ∷ rest) ≡ Some x
  unfolding first_some
  some_here a rest x e = ap (λ o. or_else o (first_some f rest)) e

  pub some_later : (a : A) (rest : List A) → f a ≡ None → first_some f (a ∷ rest) ≡ first_some f rest
  unfolding first_some
  some_later a rest e = ap (λ o. or_else o (first_some f rest)) e

  pub some_never : first_some f [] ≡ None
  unfolding first_some
  some_never = refl

module _ {A X : Type 0} (f : A → Option X) (d : A) where
  pub none_in : (xs : List A) → ((k : ℕ) → k < length xs → f (get_or xs k d) ≡ None) → first_some f xs ≡ None
  none_in [] h = some_never f
  none_in (x ∷ xs) h = some_later f x xs (h 0 (omega arith)) ∙ none_in xs (λ k l. h (suc k) (omega arith))

  pub first_in : (xs : List A) (i : ℕ) (y : X) → i < length xs → ((k : ℕ) → k < i → f (get_or xs k d) ≡ None) → f (get_or xs i d) ≡ Some y → first_some f xs ≡ Some y
  first_in [] i y l h e = absurd (omega arith)
  first_in (x ∷ xs) zero y l h e = some_here f x xs y e
  first_in (x ∷ xs) (suc i) y l h e =
      some_later f x xs (h 0 (omega arith)) ∙ first_in xs i y (omega arith) (λ k m. h (suc k) (omega arith)) e

  pub none_in_reverse : (xs : List A) → ((k : ℕ) → k < length xs → f (get_or xs k d) ≡ None) → first_some f (reverse xs) ≡ None
  none_in_reverse xs h =
      let long : length (reverse xs) ≡ length xs = length-reverse xs in
      none_in (reverse xs) (λ k l. ap f (get_or-reverse xs k d (omega arith)) ∙ h (length xs - 1 - k) (omega arith))

  pub first_in_reverse : (xs : List A) (i : ℕ) (y : X) → i < length xs → ((k : ℕ) → i < k → k < length xs → f (get_or xs k d) ≡ None) → f (get_or xs i d) ≡ Some y → first_some f (reverse xs) ≡ Some y
  first_in_reverse xs i y l h e =
      let long : length (reverse xs) ≡ length xs = length-reverse xs in
      let j : ℕ = length xs - 1 - i in
      let back : length xs - 1 - j ≡ i = omega arith in
      first_in (reverse xs) j y (omega arith) (λ k m. ap f (get_or-reverse xs k d (omega arith)) ∙ h (length xs - 1 - k) (omega arith) (omega arith))
      (ap f (get_or-reverse xs j d (omega arith) ∙ ap (λ k. get_or xs k d) back) ∙ e)

-- the numbers below n
module _ {X : Type 0} (f : ℕ → Option X) (n : ℕ) where
  counted : (k : ℕ) → k < n → f (get_or (range_with_len 0 n) k 0) ≡ f k
  counted k l = ap f (get_or-range_with_len 0 n k 0 l ∙ omega arith)

  pub none_counted : ((k : ℕ) → k < n → f k ≡ None) → first_some f (range_with_len 0 n) ≡ None
  none_counted h =
      let long : length (range_with_len 0 n) ≡ n = length-range_with_len 0 n in
      none_in f 0 (range_with_len 0 n) (λ k l. counted k (omega arith) ∙ h k (omega arith))

  pub first_counted : (i : ℕ) (x : X) → i < n → ((k : ℕ) → k < i → f k ≡ None) → f i ≡ Some x → first_some f (range_with_len 0 n) ≡ Some x
  first_counted i x l h e =
      let long : length (range_with_len 0 n) ≡ n = length-range_with_len 0 n in
      first_in f 0 (range_with_len 0 n) i x (omega arith) (λ k m. counted k (omega arith) ∙ h k m) (counted i l ∙ e)

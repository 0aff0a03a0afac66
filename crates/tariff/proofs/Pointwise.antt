-- Lists alike place by place, and what functions that agree on a list's elements make of it.
use Rattle.std.proofs.Common.{◌≡◌, ℕ, zero, suc, ◌+◌, ◌-◌, ◌≤◌, Bool, List, [], ◌∷◌, ◌++◌, map, length, get_or, replicate, sum_by, filter, Option, sym, refl, ap, ◌∙◌, ap₂, inl, inr, arith}
use mathlib.Core.List.{map-map}
use Rattle.std.specs.List.{AllZip, AllByRecursion, sum}
use Rattle.std.proofs.lemmas.List.Elements.{length_all_zip}
use Rattle.std.proofs.lemmas.List.Sums.{sum_by-cons, sum-map}
use Rattle.std.proofs.lemmas.Bool.{cases_Bool}
use Rattle.tariff.specs.Faults.{first_some}
use Rattle.tariff.specs.Pay.{filled}

-- ---- one element again and again

pub replicate_at : {X : Type 0} (z : X) (n k : ℕ) → get_or (replicate n z) k z ≡ z
replicate_at z zero k = refl
replicate_at z (suc n) zero = refl
replicate_at z (suc n) (suc k) = replicate_at z n k

-- ---- functions that agree

pub map_same : {A X : Type 0} (f g : A → X) (xs : List A) → AllByRecursion (λ a. f a ≡ g a) xs → map f xs ≡ map g xs
map_same f g [] h = refl
map_same f g (x ∷ xs) h = ap₂ ◌∷◌ h.0 (map_same f g xs h.1)

pub sumBy_same : {X : Type 0} (f g : X → ℕ) (xs : List X) → AllByRecursion (λ x. f x ≡ g x) xs → sum_by f xs ≡ sum_by g xs
sumBy_same f g xs h = sym (sum-map f xs) ∙ ap sum (map_same f g xs h) ∙ sum-map g xs

pub sumBy_map : {X Y : Type 0} (f : Y → ℕ) (g : X → Y) (xs : List X) → sum_by (λ x. f (g x)) xs ≡ sum_by f (map g xs)
sumBy_map f g xs = sym (sum-map (λ x. f (g x)) xs) ∙ ap sum (sym (map-map f g xs)) ∙ sum-map f (map g xs)

pub first_same : {A X : Type 0} (f g : A → Option X) (xs : List A) → AllByRecursion (λ a. f a ≡ g a) xs → first_some f xs ≡ first_some g xs
unfolding first_some
first_same f g [] h = refl
first_same f g (x ∷ xs) h = cc (h.0, first_same f g xs h.1)

-- ---- lists alike place by place

module _ {X : Type 0} (R : X → X → Type 0) where
  pub each_append : (xs ys us vs : List X) → AllZip R xs ys → AllZip R us vs → AllZip R (xs ++ us) (ys ++ vs)
  each_append [] [] us vs h k = k
  each_append [] (y ∷ ys) us vs h k = absurd h
  each_append (x ∷ xs) [] us vs h k = absurd h
  each_append (x ∷ xs) (y ∷ ys) us vs h k = (h.0, each_append xs ys us vs h.1 k)

  pub each_map : {A : Type 0} (f g : A → X) (zs : List A) → AllByRecursion (λ a. R (f a) (g a)) zs → AllZip R (map f zs) (map g zs)
  each_map f g [] h = tt
  each_map f g (z ∷ zs) h = (h.0, each_map f g zs h.1)

  each_replicate : (n : ℕ) (x : X) → R x x → AllZip R (replicate n x) (replicate n x)
  each_replicate zero x h = tt
  each_replicate (suc n) x h = (h, each_replicate n x h)

  pub each_filled : (a : X) (n : ℕ) (xs ys : List X) → R a a → AllZip R xs ys → AllZip R (filled a n xs) (filled a n ys)
  each_filled a n xs ys r h = each_append xs ys _ _ h (rw (length_all_zip R xs ys h) (each_replicate (n - length ys) a r))

  pub each_at : (xs ys : List X) (k : ℕ) (d : X) → R d d → AllZip R xs ys → R (get_or xs k d) (get_or ys k d)
  each_at [] [] k d r h = r
  each_at [] (y ∷ ys) k d r h = absurd h
  each_at (x ∷ xs) [] k d r h = absurd h
  each_at (x ∷ xs) (y ∷ ys) zero d r h = h.0
  each_at (x ∷ xs) (y ∷ ys) (suc k) d r h = each_at xs ys k d r h.1

  pub each_sum : (f g : X → ℕ) → ((x y : X) → R x y → f x ≤ g y) → (xs ys : List X) → AllZip R xs ys → sum_by f xs ≤ sum_by g ys
  each_sum f g le [] [] h = omega arith
  each_sum f g le [] (y ∷ ys) h = absurd h
  each_sum f g le (x ∷ xs) [] h = absurd h
  each_sum f g le (x ∷ xs) (y ∷ ys) h =
      omega (arith, sum_by-cons f x xs, sum_by-cons g y ys, le x y h.0, each_sum f g le xs ys h.1)

  -- the same of what stands right of a relation
  pub each_sum_back : (f g : X → ℕ) → ((x y : X) → R x y → g y ≤ f x) → (xs ys : List X) → AllZip R xs ys → sum_by g ys ≤ sum_by f xs
  each_sum_back f g le [] [] h = omega arith
  each_sum_back f g le [] (y ∷ ys) h = absurd h
  each_sum_back f g le (x ∷ xs) [] h = absurd h
  each_sum_back f g le (x ∷ xs) (y ∷ ys) h =
      omega (arith, sum_by-cons f x xs, sum_by-cons g y ys, le x y h.0, each_sum_back f g le xs ys h.1)

  -- a test that related elements pass alike keeps related lists
  pub each_kept : (p : X → Bool) → ((x y : X) → R x y → p y ≡ p x) → (xs ys : List X) → AllZip R xs ys → AllZip R (filter p xs) (filter p ys)
  each_kept p alike [] [] h = tt
  each_kept p alike [] (y ∷ ys) h = absurd h
  each_kept p alike (x ∷ xs) [] h = absurd h
  each_kept p alike (x ∷ xs) (y ∷ ys) h =
      rw (alike x y h.0) (elim (cases_Bool (p x)) [
        | inl e ↦ rw e (h.0, each_kept p alike xs ys h.1)
        | inr e ↦ rw e (each_kept p alike xs ys h.1)
      ])

-- relations carried over by a function
pub each_mapped : {X Y : Type 0} (R : X → X → Type 0) (S : Y → Y → Type 0) (f : X → Y) → ((x y : X) → R x y → S (f x) (f y)) → (xs ys : List X) → AllZip R xs ys → AllZip S (map f xs) (map f ys)
each_mapped R S f over [] [] h = tt
each_mapped R S f over [] (y ∷ ys) h = absurd h
each_mapped R S f over (x ∷ xs) [] h = absurd h
each_mapped R S f over (x ∷ xs) (y ∷ ys) h = (over x y h.0, each_mapped R S f over xs ys h.1)

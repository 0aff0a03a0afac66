-- The latest days that pass a test: each passes, they fall, and they are those with fewer passing days between.
use Rattle.std.proofs.Common.{◌≡◌, ℕ, zero, suc, ◌+◌, ◌-◌, ◌<◌, ◌≤◌, min, Bool, true, cond, ◌&&◌, ltb, ◌⊎◌, List, [], ◌∷◌, length, sym, refl, inl, inr, arith}
use Rattle.std.specs.List.{ContainsAt as Has, AllByRecursion}
use Rattle.std.proofs.ByRecursion.{has_append_right}
use Rattle.std.proofs.lemmas.Bool.{cond_both, cases_eq, and_parts}
use Rattle.std.proofs.lemmas.Bool.Decides.{nat_tests}
use Rattle.tariff.specs.Counting.{count}
use Rattle.tariff.specs.Comparison.{latest}
use Rattle.tariff.specs.TenDays.{Falling, between}

has_cases : (y : ℕ) (xs : List ℕ) (x : ℕ) → Has (y ∷ xs) x → (x ≡ y) ⊎ Has xs x
has_cases y xs x (zero, l, h) = inl (sym (h 0))
has_cases y xs x (suc k, l, h) = inr (k, omega arith, h)

module _ (p : ℕ → Bool) where
  pub latest_pass : (P : ℕ → Type 0) (wanted n : ℕ) → ((k : ℕ) → k < n → p k ≡ true → P k) → AllByRecursion P (latest p wanted n)
  unfolding latest
  latest_pass P wanted zero h = tt
  latest_pass P wanted (suc n) h =
      cond_both (p n && ltb 0 wanted) (n ∷ latest p (wanted - 1) n) (latest p wanted n) (AllByRecursion P)
      (λ e. (h n (omega arith) (and_parts (p n) (ltb 0 wanted) e).0, latest_pass P (wanted - 1) n (λ k l. h k (omega arith))))
      (λ _. latest_pass P wanted n (λ k l. h k (omega arith)))

  pub latest_length : (wanted n : ℕ) → length (latest p wanted n) ≡ min wanted (count p n)
  unfolding latest count
  latest_length wanted zero = omega arith
  latest_length wanted (suc n) =
      cond_both (p n && ltb 0 wanted) (n ∷ latest p (wanted - 1) n) (latest p wanted n) (λ xs. length xs ≡ min wanted (count p n + cond (p n) 1 0))
      (λ e. let ih = latest_length (wanted - 1) n in grind (arith, nat_tests))
      (λ e. let ih = latest_length wanted n in grind (arith, nat_tests))

  pub latest_falling : (wanted n : ℕ) → Falling (latest p wanted n)
  unfolding latest
  latest_falling wanted zero = tt
  latest_falling wanted (suc n) =
      cond_both (p n && ltb 0 wanted) (n ∷ latest p (wanted - 1) n) (latest p wanted n) Falling
      (λ _. (latest_pass (λ k. k < n) (wanted - 1) n (λ k l _. l), latest_falling (wanted - 1) n))
      (λ _. latest_falling wanted n)

  between_none : (k n : ℕ) → n ≤ suc k → between p k n ≡ 0
  unfolding count
  between_none k zero h = refl
  between_none k (suc n) h = let ih = between_none k n (omega arith) in grind (arith, nat_tests)

  pub latest_late : (k wanted n : ℕ) → Has (latest p wanted n) k → (k < n) × (p k ≡ true) × (between p k n < wanted)
  unfolding latest count
  latest_late k wanted zero = λ h. let z : ⊥ = omega (arith, h.1) in absurd z
  latest_late k wanted (suc n) =
      cond_both (p n && ltb 0 wanted) (n ∷ latest p (wanted - 1) n) (latest p wanted n)
      (λ xs. Has xs k → (k < suc n) × (p k ≡ true) × (between p k n + cond (ltb k n && p n) 1 0 < wanted))
      (λ e h. elim (has_cases n (latest p (wanted - 1) n) k h) [
        | inl q ↦ let none = between_none k n (omega arith) in (omega arith, rw q (grind (arith, nat_tests)), grind (arith, nat_tests))
        | inr m ↦ let ih = latest_late k (wanted - 1) n m in (omega arith, ih.1, grind (arith, nat_tests))
      ])
      (λ e h. let ih = latest_late k wanted n h in (omega arith, ih.1, grind (arith, nat_tests)))

  pub late_latest : (k wanted n : ℕ) → k < n → p k ≡ true → between p k n < wanted → Has (latest p wanted n) k
  unfolding latest count
  late_latest k wanted zero l pass few = let z : ⊥ = omega arith in absurd z
  late_latest k wanted (suc n) l pass few =
      cond_both (p n && ltb 0 wanted) (n ∷ latest p (wanted - 1) n) (latest p wanted n) (λ xs. Has xs k)
      (λ e. elim (cases_eq k n) [
        | inl q ↦ (0, omega arith, λ _. sym q)
        | inr q ↦ has_append_right (n ∷ []) (latest p (wanted - 1) n) k (late_latest k (wanted - 1) n (omega arith) pass (grind (arith, nat_tests)))
      ])
      (λ e. elim (cases_eq k n) [
        | inl q ↦ let here : p n ≡ true = rw q at pass in let z : ⊥ = grind (arith, nat_tests) in absurd z
        | inr q ↦ late_latest k wanted n (omega arith) pass (grind (arith, nat_tests))
      ])

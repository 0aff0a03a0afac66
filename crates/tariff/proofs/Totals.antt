-- Counts and sums over the first numbers, and how far one place can move them.
use Rattle.std.proofs.Common.{◌≡◌, ℕ, zero, suc, ◌+◌, ◌<◌, ◌≤◌, Bool, cond, refl, ap, ap₂, inl, inr, add-one, arith}
use Rattle.std.proofs.lemmas.Bool.{cases_eq}
use Rattle.tariff.specs.Counting.{count, total}

pub count_none : (p : ℕ → Bool) → count p 0 ≡ 0
unfolding count
count_none p = refl

pub count_more : (p : ℕ → Bool) (n : ℕ) → count p (n + 1) ≡ count p n + cond (p n) 1 0
unfolding count
count_more p n = ap (count p) (add-one n)

pub count_same : (p q : ℕ → Bool) (n : ℕ) → ((k : ℕ) → k < n → p k ≡ q k) → count p n ≡ count q n
unfolding count
count_same p q zero h = refl
count_same p q (suc n) h = ap₂ ◌+◌ (count_same p q n (λ k l. h k (omega arith))) (ap (λ (b : Bool). cond b 1 0) (h n (omega arith)))

pub count_least : (p : ℕ → Bool) (m n : ℕ) → m ≤ n → count p m ≤ count p n
unfolding count
count_least p m zero h = let z : m ≡ 0 = omega arith in rw z (omega arith)
count_least p m (suc n) h =
    elim (cases_eq m (suc n)) [
      | inl e ↦ rw e (omega arith)
      | inr e ↦ omega (arith, count_least p m n (omega arith))
    ]

pub total_none : (f : ℕ → ℕ) (n : ℕ) → ((d : ℕ) → f d ≡ 0) → total f n ≡ 0
unfolding total
total_none f zero h = refl
total_none f (suc n) h = omega (arith, total_none f n h, h n)

pub total_least : (f g : ℕ → ℕ) (n : ℕ) → ((d : ℕ) → d < n → f d ≤ g d) → total f n ≤ total g n
unfolding total
total_least f g zero h = omega arith
total_least f g (suc n) h = omega (arith, total_least f g n (λ d l. h d (omega arith)), h n (omega arith))

-- one place grows by at most `more`, and no other grows
pub total_bump : (f g : ℕ → ℕ) (k more n : ℕ) → ((d : ℕ) → (d ≡ k → ⊥) → f d ≤ g d) → f k ≤ g k + more → total f n ≤ total g n + more
unfolding total
total_bump f g k more zero h at = omega arith
total_bump f g k more (suc n) h at =
    elim (cases_eq n k) [
      | inl e ↦
          let here : f n ≤ g n + more = rw e at in
          omega (arith, total_least f g n (λ d l. h d (λ q. omega arith)))
      | inr e ↦ omega (arith, total_bump f g k more n h at, h n e)
    ]

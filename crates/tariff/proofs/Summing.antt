-- One number more in a sum, and a sum over a range.
use Rattle.std.proofs.Common.{◌≡◌, ℕ, zero, suc, ◌+◌, ◌<◌, sum_by, refl, ap, ap₂, add-one, zero-add, arith}
use Rattle.std.specs.List.{range_with_len}
use Rattle.std.proofs.lemmas.List.Sums.{sum_by-cons}
use Rattle.tariff.specs.Counting.{total}

pub total_zero : (f : ℕ → ℕ) → total f 0 ≡ 0
unfolding total
total_zero f = refl

pub total_more : (f : ℕ → ℕ) (n : ℕ) → total f (n + 1) ≡ total f n + f n
unfolding total
total_more f n = ap (total f) (add-one n)

pub total_same : (f g : ℕ → ℕ) (n : ℕ) → ((k : ℕ) → k < n → f k ≡ g k) → total f n ≡ total g n
unfolding total
total_same f g zero h = refl
total_same f g (suc n) h = ap₂ ◌+◌ (total_same f g n (λ k l. h k (omega arith))) (h n (omega arith))

-- on from a number, with those before it
range_on : (f : ℕ → ℕ) (a n : ℕ) → total f a + sum_by f (range_with_len a n) ≡ total f (a + n)
range_on f a zero = grind arith
range_on f a (suc n) =
    let end : total f (a + suc n) ≡ total f (a + 1 + n) = ap (total f) (omega arith) in
    omega (arith, sum_by-cons f a (range_with_len (a + 1) n), end, total_more f a, range_on f (a + 1) n)

pub range_total : (f : ℕ → ℕ) (n : ℕ) → sum_by f (range_with_len 0 n) ≡ total f n
range_total f n =
    let end : total f (0 + n) ≡ total f n = ap (total f) (zero-add n) in
    omega (arith, range_on f 0 n, total_zero f, end)

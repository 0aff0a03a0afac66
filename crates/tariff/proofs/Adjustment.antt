-- The adjusted baseline is ten times B plus the day-of adjustment, held between −2B and 2B.
use Rattle.std.proofs.Common.{◌≡◌, ℕ, ◌+◌, ◌-◌, ◌*◌, min, pos, ◌+ℤ◌, ◌-ℤ◌, neg_ℤ, ◌≤ℤ◌, arith}
use Rattle.std.proofs.lemmas.Int.{ints, clamps}
use Rattle.std.proofs.lemmas.Bool.Decides.{nat_tests}
use Rattle.tariff.specs.Adjustment.{TheAdjustmentIsHeld, held}
use Rattle.tariff.specs.Measure.{moved_within}

-- what is moved, in natural numbers
pub moved_is : (b up down : ℕ) → moved_within b up down + min (down - up) (2 * b) ≡ 10 * b + min (up - down) (2 * b)
unfolding moved_within
moved_is b up down = grind (arith, nat_tests)

module _ (b up down n : ℕ) (is : n + min (down - up) (2 * b) ≡ 10 * b + min (up - down) (2 * b)) where
  moved_held : pos n ≡ pos (10 * b) +ℤ held b (pos up -ℤ pos down)
  moved_held = omega (arith, ints, clamps)

  moved_upper : pos (2 * b) ≤ℤ (pos up -ℤ pos down) → n ≡ 12 * b
  moved_upper h = omega (arith, ints)

  moved_lower : (pos up -ℤ pos down) ≤ℤ neg_ℤ (pos (2 * b)) → n ≡ 8 * b
  moved_lower h = omega (arith, ints)

  moved_inside : neg_ℤ (pos (2 * b)) ≤ℤ (pos up -ℤ pos down) → (pos up -ℤ pos down) ≤ℤ pos (2 * b) → pos n ≡ pos (10 * b) +ℤ (pos up -ℤ pos down)
  moved_inside l h = omega (arith, ints)

  moved_none : b ≡ 0 → n ≡ 0
  moved_none h = omega arith

pub the_adjustment_is_held : TheAdjustmentIsHeld
the_adjustment_is_held p q p₃ q₃ b =
    let up : ℕ = 15 * (p + q) in
    let down : ℕ = 5 * (p₃ + q₃) in
    let n : ℕ = moved_within b up down in
    let is = moved_is b up down in
    record {
      sum = moved_held b up down n is;
      upper = moved_upper b up down n is;
      lower = moved_lower b up down n is;
      within = moved_inside b up down n is;
      none = moved_none b up down n is;
    }

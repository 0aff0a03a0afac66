-- The day-of adjustment as a whole number with a sign, in thirtieths of a Wh.
use Rattle.std.specs.Prelude.{◌≡◌, ℕ, ◌+◌, ◌*◌, ℤ, pos, ◌+ℤ◌, ◌-ℤ◌, neg_ℤ, ◌≤ℤ◌}
use Rattle.std.specs.Int.{int_max, int_min}
use Rattle.tariff.specs.Measure.{adjusted_from}

-- from the loads p and q of the two hours before the notice's hour, and the B of those hours
abbrev pub day_of_adjustment : ℕ → ℕ → ℕ → ℕ → ℤ
day_of_adjustment p q p₃ q₃ = pos (15 * (p + q)) -ℤ pos (5 * (p₃ + q₃))

-- held between −2b and 2b, for the B b of the event hour
abbrev pub held : ℕ → ℤ → ℤ
held b z = int_max (neg_ℤ (pos (2 * b))) (int_min z (pos (2 * b)))

-- The adjusted baseline is ten times B plus the day-of adjustment, held. It is twelve times B where the adjustment reaches 2B,
-- eight times B where it reaches −2B, moved by the adjustment itself in between, and 0 where B is 0.
pub record AdjustmentHeld (p q p₃ q₃ b : ℕ) : Type 0 where
  pub sum : pos (adjusted_from p q p₃ q₃ b) ≡ pos (10 * b) +ℤ held b (day_of_adjustment p q p₃ q₃)
  pub upper : pos (2 * b) ≤ℤ day_of_adjustment p q p₃ q₃ → adjusted_from p q p₃ q₃ b ≡ 12 * b
  pub lower : day_of_adjustment p q p₃ q₃ ≤ℤ neg_ℤ (pos (2 * b)) → adjusted_from p q p₃ q₃ b ≡ 8 * b
  pub within :
      neg_ℤ (pos (2 * b)) ≤ℤ day_of_adjustment p q p₃ q₃ → day_of_adjustment p q p₃ q₃ ≤ℤ pos (2 * b) →
      pos (adjusted_from p q p₃ q₃ b) ≡ pos (10 * b) +ℤ day_of_adjustment p q p₃ q₃
  pub none : b ≡ 0 → adjusted_from p q p₃ q₃ b ≡ 0

-- So it is whatever the loads and baselines.
abbrev pub TheAdjustmentIsHeld : Type 0
TheAdjustmentIsHeld = (p q p₃ q₃ b : ℕ) → AdjustmentHeld p q p₃ q₃ b

use Rattle.std.proofs.Common.{◌≡◌, ℕ, ◌*◌, pos, ◌+ℤ◌, sym, ap, ◌∙◌, arith}
use Rattle.std.proofs.lemmas.Int.{ints}
use Rattle.tariff.specs.Measure.{adjusted_from}
use Rattle.tariff.proofs.Adjustment.{the_adjustment_is_held}
use Rattle.baseline.proofs.adjusted.DayHour.adjusted.Goals as goal

pub returns-clause-value : goal.returns-clause-value
returns-clause-value c =
    let p : ℕ = c.args.first.load in
    let q : ℕ = c.args.second.load in
    let p₃ : ℕ = c.args.first.base in
    let q₃ : ℕ = c.args.second.base in
    let b : ℕ = c.args.self.base in
    let n : ℕ = adjusted_from p q p₃ q₃ b in
    let sum : pos (10 * b) +ℤ c.held_adjustment.result ≡ pos n =
    ap (λ z. pos (10 * b) +ℤ z) c.held_adjustment.ensures.value ∙ sym (the_adjustment_is_held p q p₃ q₃ b).sum in
    omega (arith, ints)

use Rattle.std.proofs.Common.{ℕ, rules}
use Rattle.std.proofs.lemmas.List.Sorted.{answers_always}
use Rattle.baseline.proofs.highest.order.Goals as goal

pub returns-clause-sorted : goal.returns-clause-sorted
returns-clause-sorted c =
    c.sort_unstable_by_key.ensures.sorted (λ (x : ℕ × ℕ). (record { 0 = x.0 }, x.1)) (answers_always _ _ _ (λ f a r g k. search rules))

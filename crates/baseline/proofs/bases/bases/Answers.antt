use Rattle.std.proofs.Common.{rules}
use Rattle.std.proofs.lemmas.List.FromFn.{fill_by_all}
use Rattle.baseline.specs.Sums.{sum_at, bases_of}
use Rattle.baseline.proofs.bases.bases.Goals as goal

pub returns-clause-value : goal.returns-clause-value
unfolding bases_of
returns-clause-value c =
    fill_by_all (sum_at c.args.days.now c.args.places) c.from_fn.result 24 0 c.from_fn.ensures.items.long (λ k h. search rules)

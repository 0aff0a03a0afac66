use Rattle.std.proofs.Common.{◌≡◌, Some, rules}
use Rattle.tariff.specs.Comparison.{comparison_days}
use Rattle.baseline.specs.declared.days.ComparisonDays.{ComparisonDays}
use Rattle.season.specs.View.{view}
use Rattle.statement.proofs.Days.{taken_found}
use Rattle.statement.proofs.events.comparison_of.Goals as goal

pub unwrap-requires : goal.unwrap-requires
unwrap-requires c =
    let found : c.comparison_days.result ≡ Some (comparison_days (view c.args.season.now) c.from.result) = search rules in
    taken_found (λ (x : ComparisonDays). x.days) c.comparison_days.result c.and_then.result c.from.result _ found c.comparison_days.ensures.before c.and_then.ensures

use Rattle.std.proofs.Common.{◌≡◌, take, ◌∙◌, arith, rules}
use Rattle.std.specs.List.{count_by}
use Rattle.tariff.specs.Events.{stands}
use Rattle.season.proofs.Days.{standing_in}
use Rattle.season.proofs.events.EventTable.standing_before.Goals as goal

pub returns-clause-is : goal.returns-clause-is
returns-clause-is c =
    let days = c.args.self.now.days in
    let counted : c.count.result ≡ count_by stands (take c.args.days days) = search rules in
    counted ∙ standing_in days c.args.days (omega arith)

use Rattle.std.proofs.Common.{◌≡◌, ap, ◌∙◌, arith, rules}
use Rattle.std.specs.List.{count_by}
use Rattle.tariff.specs.Events.{announced, announced_before}
use Rattle.season.proofs.Days.{announced_in}
use Rattle.season.proofs.events.EventTable.announcements.Goals as goal

pub returns-clause-is : goal.returns-clause-is
returns-clause-is c =
    let days = c.args.self.now.days in
    let counted : c.count.result ≡ count_by announced days = search rules in
    counted ∙ announced_in days ∙ ap (announced_before days) (omega arith)

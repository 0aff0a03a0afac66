use Rattle.std.proofs.Common.{◌≡◌, ap, ◌∙◌, arith, rules, tests}
use Rattle.std.proofs.lemmas.Iterator.{YieldsList-from_slice}
use Rattle.std.proofs.lemmas.Iterator.Adapters.{fits_from_length, at_most_from_yields_List}
use Rattle.std.specs.List.{sum_by}
use Rattle.tariff.specs.Events.{day_hours, hours_before}
use Rattle.season.proofs.Days.{hours_in}
use Rattle.season.proofs.events.EventTable.standing_hours.Goals as goal

pub sum-requires-clause-fits : goal.sum-requires-clause-fits
sum-requires-clause-fits c =
    fits_from_length _ _ 76 _ (at_most_from_yields_List (YieldsList-from_slice c.args.self.now.days cc) (omega arith)) c.map.ensures.closure (omega arith) (λ x r q k. search (rules, tests))

pub returns : goal.returns
returns c =
    let days = c.args.self.now.days in
    let summed : c.sum.result ≡ sum_by day_hours days = search rules in
    summed ∙ hours_in days ∙ ap (hours_before days) (omega arith)

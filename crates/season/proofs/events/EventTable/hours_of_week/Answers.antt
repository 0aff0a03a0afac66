use Rattle.std.proofs.Common.{filter, ◌∙◌, refl, arith, rules, tests}
use Rattle.std.proofs.lemmas.Iterator.{YieldsList-from_map, YieldsList-from_range}
use Rattle.std.proofs.lemmas.Iterator.Adapters.{fits_from_length, at_most_from_yields_List, at_most_from_Filter}
use Rattle.std.proofs.lemmas.Iterator.Consumers.{YieldsList-at, YieldsList-from_filter, sum_by_from_yields_List}
use Rattle.std.specs.List.{range_with_len}
use Rattle.tariff.specs.Calendar.{in_week}
use Rattle.tariff.specs.Events.{day_hours, day_in}
use Rattle.season.proofs.Days.{week_hours_in}
use Rattle.season.proofs.events.EventTable.hours_of_week.Goals as goal

pub sum-requires-clause-fits : goal.sum-requires-clause-fits
sum-requires-clause-fits c =
    fits_from_length _ _ 76 _ (at_most_from_Filter _ (at_most_from_yields_List (YieldsList-from_range 0 76 76 (cc) refl) (omega arith))) c.map.ensures.closure (omega arith) (λ x r q k. search (rules, tests))

pub returns : goal.returns
returns c =
    let days = c.args.self.now.days in
    let year = c.args.year in
    let week = c.args.week in
    sum_by_from_yields_List (λ d. day_hours (day_in days d)) (filter (in_week year week) (range_with_len 0 76)) c.map.result _ c.sum.ensures.ran
    (YieldsList-from_map _ (λ d. day_hours (day_in days d))
    (YieldsList-at c.map.ensures.source (YieldsList-from_filter _ (in_week year week) (YieldsList-from_range 0 76 76 (cc) refl) c.filter.ensures.closure (λ x r q k. search (rules, tests))))
    c.map.ensures.closure (λ x r q k. search (rules, tests)))
    ∙ week_hours_in year week days 76

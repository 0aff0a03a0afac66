use Rattle.std.proofs.Common.{sym, ap, ◌∙◌, rules, tests}
use Rattle.std.proofs.lemmas.Iterator.Adapters.{option_map_id}
use Rattle.std.proofs.lemmas.Iterator.Search.{find_from_yields_List}
use Rattle.std.specs.Option.{option_to_list}
use Rattle.tariff.specs.Comparison.{comparable}
use Rattle.season.specs.View.{view}
use Rattle.season.proofs.LatestDays.{YieldsList-from_range_back, latest_found}
use Rattle.season.proofs.season.Season.latest_comparable.Goals as goal

pub returns : goal.returns
returns c =
    let p = comparable (view c.args.self.now) in
    ap option_to_list (sym (option_map_id c.find.result) ∙ find_from_yields_List p _ _ c.find.result c.find.ensures.ran (YieldsList-from_range_back c.args.before (cc)) (λ x b q k. search (rules, tests)))
    ∙ latest_found p c.args.before

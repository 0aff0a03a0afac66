use Rattle.std.proofs.Common.{◌≡◌, ℕ, leb, ◌&&◌, List, [], ◌∷◌, refl, ap, ◌∙◌, rules, tests}
use Rattle.std.specs.List.{list_all}
use Rattle.std.proofs.lemmas.Iterator.{YieldsList-from_slice}
use Rattle.std.proofs.lemmas.Iterator.Search.{all_from_yields_List}
use Rattle.baseline.specs.Days.{within_summer}
use Rattle.baseline.proofs.days.all_within.Goals as goal

within_each : (days : List ℕ) → list_all (λ d. leb d 75) days ≡ within_summer days
within_each [] = refl
within_each (d ∷ days) = ap (λ b. leb d 75 && b) (within_each days)

pub returns-clause-value : goal.returns-clause-value
returns-clause-value c =
    let days = c.args.days.now in
    let all = all_from_yields_List (λ d. leb d 75) _ _ c.all.result c.all.ensures.ran (YieldsList-from_slice days cc) (λ x b q k. search (rules, tests)) in
    all ∙ within_each days

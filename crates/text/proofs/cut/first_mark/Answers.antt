use Rattle.std.proofs.Common.{◌≡◌, ◌∙◌, ap, true, false, get_or, arith, rules, tests}
use Rattle.std.proofs.lemmas.Iterator.{first_from_Range}
use Rattle.std.proofs.lemmas.List.{get_or_read}
use Rattle.std.specs.List.{position}
use Rattle.text.specs.Stops.{stops_at}
use Rattle.text.proofs.Cutting.{first_is}
use Rattle.text.proofs.cut.first_mark.Goals as goal

pub returns : goal.returns
returns c =
    let stops = stops_at c.args.mark in
    let bs = c.as_bytes-bytes.result.now in
    first_is stops bs c.find.result (first_from_Range _ _ _ _ (λ i. stops (get_or bs i 0) ≡ true) (λ i. stops (get_or bs i 0) ≡ false) c.find.ensures.ran
    (λ x q k. grind (arith, tests, get_or_read))
    (λ x q k. (search rules, grind (arith, tests, get_or_read))))
    ∙ ap (position stops) c.as_bytes-bytes.ensures.value

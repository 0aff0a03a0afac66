use Rattle.std.proofs.Common.{◌≡◌, ℕ, ◌<◌, [], map, length, get_or, sym, ◌∙◌, arith, rules}
use lib.ListN.{length-map}
use Rattle.std.proofs.lemmas.List.{ext_get_or, get_or-map}
use Rattle.baseline.specs.Sums.{afternoon_of, totals_of}
use Rattle.baseline.proofs.totals.totals.Goals as goal

pub returns : goal.returns
unfolding totals_of
returns c =
    let days = c.args.days.now in
    let sums = c.from_fn.result in
    let each : (k : ℕ) → k < 10 → get_or sums k 0 ≡ afternoon_of (get_or days k []) = λ k h. (let call = (c.from_fn.ensures.items.at k 0 h).2 in search rules) in
    let many : length sums ≡ 10 = c.from_fn.ensures.items.long in
    let long : length days ≡ length (map afternoon_of days) = sym (length-map days afternoon_of) in
    ext_get_or 0 sums (map afternoon_of days) (omega arith) (λ k h. each k (omega arith) ∙ sym (get_or-map afternoon_of days k [] 0 (omega arith)))

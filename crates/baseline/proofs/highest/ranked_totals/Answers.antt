use Rattle.std.proofs.Common.{◌≡◌, length, lit≤, rules, ◌≤◌}
use Rattle.tariff.specs.Highest.{Highest}
use Rattle.tariff.proofs.Choice.{three_highest_are_highest_lem}
use Rattle.baseline.specs.Ranked.{firsts}
use Rattle.baseline.proofs.Tops.{sorted_highest, same_three}
use Rattle.baseline.proofs.highest.ranked_totals.Goals as goal

pub returns : goal.returns
returns c =
    let totals = c.args.totals.now in
    let xs = c.ranked.result in
    let ten : length totals ≡ 10 = c.told-totals in
    let three : 3 ≤ length totals = rw ten (lit≤ tt) in
    let many : length c.placed.result ≡ length totals = search rules in
    let highest : Highest totals (firsts xs) = sorted_highest totals c.placed.result xs many (λ k l. c.placed.ensures k (rw ten at l)) c.ranked.ensures.same c.ranked.ensures.sorted three in
    record {
      value = same_three totals _ _ highest (three_highest_are_highest_lem totals three);
      highest = highest;
    }

-- The places of the three highest of some totals are places of totals.
use Rattle.std.proofs.Common.{ℕ, ◌<◌, List, length, arith}
use Rattle.std.specs.List.{range_with_len, AllByRecursion}
use Rattle.std.proofs.ByRecursion.{All-take}
use Rattle.tariff.specs.Highest.{ranked, three_highest, total_at}
use Rattle.tariff.proofs.Ranking.{all_counting, all_ranked}

pub places_within : (totals : List ℕ) → AllByRecursion (λ k. k < length totals) (three_highest totals)
unfolding three_highest
places_within totals =
    let P : ℕ → Type 0 = λ k. k < length totals in
    All-take P 3 (ranked (total_at totals) (range_with_len 0 (length totals))) (all_ranked P (total_at totals) (range_with_len 0 (length totals)) (all_counting P 0 (length totals) (λ k _ l. omega arith)))

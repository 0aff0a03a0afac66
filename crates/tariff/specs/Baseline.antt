-- The original baseline of an hour, from days to compare with, the latest of which stands first. Loads are in Wh.
use Rattle.std.specs.Prelude.{ℕ, ◌+◌, List, map, sum_by, slice_index}
use Rattle.tariff.specs.Counting.{total}
use Rattle.tariff.specs.Highest.{three_highest}
use Rattle.tariff.specs.Tables.{Table, load}

-- what a day drew from 14:00 to 20:00, in the six hours 14 to 19
unfoldable pub afternoon : Table → ℕ → ℕ
afternoon t d = total (λ k. load t d (14 + k)) 6

-- the three of some days that drew the most from 14:00 to 20:00: chosen by their totals alone
unfoldable pub highest_of : Table → List ℕ → List ℕ
highest_of t days = map (λ place. slice_index days place) (three_highest (map (afternoon t) days))

-- B of an hour: what the three highest days drew in it together, which is three times its original baseline
unfoldable pub base_of : Table → List ℕ → ℕ → ℕ
base_of t days h = sum_by (λ d. load t d h) (highest_of t days)

-- Sums over the loads of days that were read.
use Rattle.std.specs.Prelude.{ℕ, ◌<◌, ◌≤◌, List, [], map, take, drop, sum_by, sum, slice_index, slice_index_or}
use Rattle.std.specs.List.{range_with_len}

-- what a day drew from 14:00 to 20:00
abbrev pub afternoon_of : List ℕ → ℕ
afternoon_of loads = sum (take 6 (drop 14 loads))

-- the same of each of some days
unfoldable pub totals_of : List (List ℕ) → List ℕ
totals_of days = map afternoon_of days

-- the load of the day at a place in an hour
abbrev pub load_at : List (List ℕ) → ℕ → ℕ → ℕ
load_at days h place = slice_index (slice_index_or days place []) h

-- what the days at some places drew together in an hour
unfoldable pub sum_at : List (List ℕ) → List ℕ → ℕ → ℕ
sum_at days places h = sum_by (load_at days h) places

-- the same of each hour of the day
unfoldable pub bases_of : List (List ℕ) → List ℕ → List ℕ
bases_of days places = map (sum_at days places) (range_with_len 0 24)

-- no B of an hour is above 300,000,000 Wh
abbrev pub SmallBases : List ℕ → Type 0
SmallBases bases = (h : ℕ) → h < 24 → slice_index bases h ≤ 300000000

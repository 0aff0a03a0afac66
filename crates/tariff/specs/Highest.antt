-- The choice of the three highest of some totals, by their places. The totals are of days, the latest day's first.
use Rattle.std.specs.Prelude.{◌≡◌, ℕ, ◌<◌, ◌≤◌, cond, ◌⊎◌, List, [], ◌∷◌, length, take, ◌≢◌, nat_le, slice_index}
use Rattle.std.specs.List.{range_with_len}

abbrev pub total_at : List ℕ → ℕ → ℕ
total_at totals place = slice_index totals place

-- one element more, before the first whose measure does not exceed its own
unfoldable pub ranked_in : (ℕ → ℕ) → ℕ → List ℕ → List ℕ
ranked_in f x [] = x ∷ []
ranked_in f x (y ∷ ys) = cond (nat_le (f y) (f x)) (x ∷ y ∷ ys) (y ∷ ranked_in f x ys)

-- some elements by their measures: the highest first, and the earlier element first among equals
unfoldable pub ranked : (ℕ → ℕ) → List ℕ → List ℕ
ranked f [] = []
ranked f (x ∷ xs) = ranked_in f x (ranked f xs)

-- the places of the three highest of some totals, the highest first, and the lower place, which is the later day, first among equals
unfoldable pub three_highest : List ℕ → List ℕ
three_highest totals = take 3 (ranked (total_at totals) (range_with_len 0 (length totals)))

-- the day at one place goes before the day at another: its total is higher, or equal and it is the later day
abbrev pub GoesBefore : List ℕ → ℕ → ℕ → Type 0
GoesBefore totals a b = (total_at totals b < total_at totals a) ⊎ ((total_at totals b ≡ total_at totals a) × (a < b))

-- what makes three places the three highest of some totals
pub record Highest (totals places : List ℕ) : Type 0 where
  pub three : length places ≡ 3
  -- each is the place of a total
  pub within : (k : ℕ) → k < 3 → slice_index places k < length totals
  -- no place stands twice
  pub distinct : (j k : ℕ) → j < k → k < 3 → slice_index places j ≢ slice_index places k
  -- the highest stands first, and the later day first among equals
  pub in_order : (j k : ℕ) → j < k → k < 3 → GoesBefore totals (slice_index places j) (slice_index places k)
  -- a place that is none of them has a lower total than each of them, or an equal total and an earlier day
  pub above_others : (p : ℕ) → p < length totals → ((j : ℕ) → j < 3 → slice_index places j ≢ p) → (k : ℕ) → k < 3 → GoesBefore totals (slice_index places k) p

-- Of three totals and more, the places chosen are the three highest.
abbrev pub TheThreeHighestAreHighest : Type 0
TheThreeHighestAreHighest = (totals : List ℕ) → 3 ≤ length totals → Highest totals (three_highest totals)

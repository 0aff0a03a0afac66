-- The order of days by what they drew.
use Rattle.std.specs.Prelude.{◌≡◌, ℕ, ◌<◌, Bool, List, [], ◌∷◌, slice_index, slice_index_or}
use Rattle.std.specs.List.Sorted.{IsSortedBy}
use Rattle.std.specs.Ordering.{is_lt, nat_cmp, ordering_then}

-- a total with its place stands before another by the totals, falling, and then by the places
abbrev pub before : ℕ × ℕ → ℕ × ℕ → Bool
before x y = is_lt (ordering_then (nat_cmp y.0 x.0) (nat_cmp x.1 y.1))

-- such pairs stand in that order
abbrev pub Ranked : List (ℕ × ℕ) → Type 0
Ranked days = IsSortedBy before days

-- ten totals, each with its place
abbrev pub Placed : List ℕ → List (ℕ × ℕ) → Type 0
Placed totals days = (k : ℕ) → k < 10 → slice_index_or days k (0, 0) ≡ (slice_index totals k, k)

-- the first three places of totals with their places
abbrev pub firsts : List (ℕ × ℕ) → List ℕ
firsts xs = (slice_index_or xs 0 (0, 0)).1 ∷ (slice_index_or xs 1 (0, 0)).1 ∷ (slice_index_or xs 2 (0, 0)).1 ∷ []

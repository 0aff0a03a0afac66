-- Two tables of readings, compared hour by hour.
use Rattle.std.specs.Prelude.{◌≡◌, ℕ, ◌≤◌, true, false, ◌≢◌, Ok, Err}
use Rattle.tariff.specs.Season.{Season, in_event}
use Rattle.tariff.specs.Tables.{Table, Hourly, Reading}

-- both readings are loads, or both are the same gap
abbrev pub Alike : Reading → Reading → Type 0
Alike (Ok v) (Ok w) = Unit {0}
Alike (Ok v) (Err g) = ⊥
Alike (Err f) (Ok w) = ⊥
Alike (Err f) (Err g) = f ≡ g

-- of two loads, the second is no higher
abbrev pub NoMore : Reading → Reading → Type 0
NoMore (Ok v) (Ok w) = w ≤ v
NoMore (Ok v) (Err g) = Unit {0}
NoMore (Err f) r = Unit {0}

-- both tables hold loads in the same hours, and the same gaps in the others
abbrev pub SameGaps : Table → Table → Type 0
SameGaps t u = Hourly (λ d h. Alike (t d h) (u d h))

-- u is t with deeper cuts: it draws no more in any hour of a standing event, and the same in all other hours
pub record Deeper (s : Season) (t u : Table) : Type 0 where
  pub gaps : SameGaps t u
  pub cut : Hourly (λ d h. in_event s d h ≡ true → NoMore (t d h) (u d h))
  pub else_same : Hourly (λ d h. in_event s d h ≡ false → t d h ≡ u d h)

-- u is t but for loads of one day
pub record OnlyDay (day : ℕ) (t u : Table) : Type 0 where
  pub gaps : SameGaps t u
  pub else_same : Hourly (λ d h. (d ≢ day) → t d h ≡ u d h)

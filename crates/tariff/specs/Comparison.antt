-- Which days an event is compared with.
use Rattle.std.specs.Prelude.{ℕ, zero, suc, ◌-◌, Bool, cond, not, ◌&&◌, List, [], ◌∷◌, nat_lt}
use Rattle.tariff.specs.Calendar.{business}
use Rattle.tariff.specs.Season.{Season, standing}

-- the rule that says which days may be compared: business days that hold no standing event
abbrev pub comparable : Season → ℕ → Bool
comparable s d = business s.year d && not (standing s d)

-- the latest days before day d that pass a test, as many as are wanted, the latest first
unfoldable pub latest : (ℕ → Bool) → ℕ → ℕ → List ℕ
latest p wanted zero = []
latest p wanted (suc d) = cond (p d && nat_lt 0 wanted) (d ∷ latest p (wanted - 1) d) (latest p wanted d)

-- the ten latest comparable days before a day, the latest first
unfoldable pub comparison_days : Season → ℕ → List ℕ
comparison_days s d = latest (comparable s) 10 d

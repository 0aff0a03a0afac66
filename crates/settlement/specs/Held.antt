-- How many hours of a table hold a load.
use Rattle.std.specs.Prelude.{ℕ, Bool, true, false, Ok, Err}
use Rattle.tariff.specs.Counting.{count, total}
use Rattle.tariff.specs.Tables.{Table, Reading}

abbrev pub holds_load : Reading → Bool
holds_load (Ok w) = true
holds_load (Err g) = false

-- how many of the first n hours of a day hold a load
abbrev pub held_on_day : Table → ℕ → ℕ → ℕ
held_on_day t d n = count (λ h. holds_load (t d h)) n

-- how many hours of the first n days do
abbrev pub held_before : Table → ℕ → ℕ
held_before t n = total (λ d. held_on_day t d 24) n

-- how many of the 1,824 hours of the summer do
abbrev pub hours_held : Table → ℕ
hours_held t = held_before t 76

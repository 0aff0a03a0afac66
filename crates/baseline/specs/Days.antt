-- Which days may be compared with, and what it means to read them.
use Rattle.std.specs.Prelude.{ℕ, ◌<◌, ◌≤◌, Bool, true, cond, ◌&&◌, List, [], ◌∷◌, map, Some, None, Ok, Err, Option, Result, nat_le, slice_index}
use Rattle.std.specs.List.{range_with_len}
use Rattle.tariff.specs.Tables.{Table, load, Reading}
use Rattle.tariff.specs.Faults.{day_fault, comparison_fault}
use Rattle.tariff.specs.declared.fault.Use.{Use}
use Rattle.tariff.specs.declared.fault.HourGap.{HourGap}
use Rattle.tariff.specs.declared.fault.BaselineFault.{BaselineFault}

-- each is a day of the summer
abbrev pub within_summer : List ℕ → Bool
within_summer [] = true
within_summer (d ∷ ds) = nat_le d 75 && within_summer ds

-- days are taken as they are where each is a day of the summer, and not at all otherwise
abbrev pub days_taken : List ℕ → Option (List ℕ)
days_taken days = cond (within_summer days) (Some days) None

-- an hour's load, or its gap with what the hour is needed for and where it lies
abbrev pub hour_read : Use → ℕ → ℕ → Reading → Result ℕ HourGap
hour_read u d h (Ok w) = Ok w
hour_read u d h (Err g) = Err (record { gap = g; purpose = u; day = d; hour = h })

-- the loads of a day, hour by hour
unfoldable pub day_loads : Table → ℕ → List ℕ
day_loads t d = map (load t d) (range_with_len 0 24)

-- a fault, or else a value
abbrev pub fault_or : {A : Type 0} → Option BaselineFault → A → Result A BaselineFault
fault_or (Some f) a = Err f
fault_or None a = Ok a

-- the first gap of a day, or its loads
unfoldable pub day_read : Table → Use → ℕ → Result (List ℕ) BaselineFault
day_read t u d = fault_or (day_fault t u d) (day_loads t d)

-- the first gap of days to compare with, or their loads
unfoldable pub days_read : Table → List ℕ → Result (List (List ℕ)) BaselineFault
days_read t days = fault_or (comparison_fault t days) (map (day_loads t) days)

-- no load of a day is above 100,000,000 Wh
abbrev pub Small : List ℕ → Type 0
Small loads = (k : ℕ) → k < 24 → slice_index loads k ≤ 100000000

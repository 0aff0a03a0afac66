-- Which hour without a load stops a baseline: the first, in the order in which hours are needed.
use Rattle.std.specs.Prelude.{ℕ, List, [], ◌∷◌, reverse, Some, None, Option, Ok, Err}
use Rattle.std.specs.List.{range_with_len}
use Rattle.tariff.specs.Tables.{Table, Reading}
use Rattle.tariff.specs.declared.fault.Use.{Use}
use Rattle.tariff.specs.declared.fault.Use.TheVariants.{Comparison, EventDay}
use Rattle.tariff.specs.declared.fault.BaselineFault.{BaselineFault}
use Rattle.tariff.specs.declared.fault.BaselineFault.TheVariants.{HourWithoutLoad}

abbrev pub or_else : {X : Type 0} → Option X → Option X → Option X
or_else (Some x) o = Some x
or_else None o = o

-- what the first element of a list that gives something gives
unfoldable pub first_some : {A X : Type 0} → (A → Option X) → List A → Option X
first_some f [] = None
first_some f (a ∷ rest) = or_else (f a) (first_some f rest)

-- a reading that is no load is a fault, with what the hour is needed for, its day and its hour
abbrev pub hour_fault : Use → ℕ → ℕ → Reading → Option BaselineFault
hour_fault u d h (Ok w) = None
hour_fault u d h (Err g) = Some (HourWithoutLoad (record { gap = g; purpose = u; day = d; hour = h }))

-- all 24 hours of a day are needed, rising
unfoldable pub day_fault : Table → Use → ℕ → Option BaselineFault
day_fault t u d = first_some (λ h. hour_fault u d h (t d h)) (range_with_len 0 24)

-- of days to compare with, given the latest first, the earliest is needed first
unfoldable pub comparison_fault : Table → List ℕ → Option BaselineFault
comparison_fault t days = first_some (day_fault t Comparison) (reverse days)

-- the days to compare with come first, then the event's own day
unfoldable pub fault_over : Table → List ℕ → ℕ → Option BaselineFault
fault_over t days d = or_else (comparison_fault t days) (day_fault t EventDay d)

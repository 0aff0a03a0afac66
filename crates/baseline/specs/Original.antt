-- What ten days to compare with come to, by the tariff.
use Rattle.std.specs.Prelude.{◌≡◌, ℕ, List, map, Ok, Err, Result}
use Rattle.std.specs.List.{range_with_len}
use Rattle.tariff.specs.Tables.{Table}
use Rattle.tariff.specs.Highest.{three_highest}
use Rattle.tariff.specs.Baseline.{afternoon, base_of}
use Rattle.tariff.specs.Faults.{comparison_fault}
use Rattle.tariff.specs.declared.fault.BaselineFault.{BaselineFault}
use Rattle.baseline.specs.declared.original.OriginalBaseline.{OriginalBaseline}
use Rattle.baseline.specs.Days.{fault_or}
use Rattle.baseline.specs.Sums.{totals_of, bases_of}

-- the totals of the days, the places of the three highest, and B of each hour of the day
abbrev pub original_of : Table → List ℕ → OriginalBaseline
original_of t days =
    record { totals = map (afternoon t) days; highest = three_highest (map (afternoon t) days); bases = map (base_of t days) (range_with_len 0 24) }

-- the first hour that is needed and has no load, or the original baseline
unfoldable pub original_read : Table → List ℕ → Result OriginalBaseline BaselineFault
original_read t days = fault_or (comparison_fault t days) (original_of t days)

-- what loads that were read come to
abbrev pub original_from : List (List ℕ) → OriginalBaseline
original_from loads =
    record { totals = totals_of loads; highest = three_highest (totals_of loads); bases = bases_of loads (three_highest (totals_of loads)) }

-- the original baseline of days is that of their loads, and a gap among them stops it
abbrev pub OriginalOfLoads : Table → List ℕ → Result (List (List ℕ)) BaselineFault → Type 0
OriginalOfLoads t days (Ok loads) = Ok (original_from loads) ≡ original_read t days
OriginalOfLoads t days (Err f) = Err f ≡ original_read t days

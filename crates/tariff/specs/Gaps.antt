-- The numbers of gaps.
use Rattle.std.specs.Prelude.{ℕ}
use Rattle.tariff.specs.declared.reading.Gap.{Gap}
use Rattle.tariff.specs.declared.reading.Gap.TheVariants.{Missing, Over}
use Rattle.tariff.specs.declared.fault.BaselineFault.{BaselineFault}
use Rattle.tariff.specs.declared.fault.BaselineFault.TheVariants.{HourWithoutLoad}

-- an hour that is needed is missing, or over
abbrev pub gap_number : Gap → ℕ
gap_number (Missing n) = 25
gap_number Over = 26

-- a baseline's fault has the number of its hour's gap
abbrev pub baseline_fault_number : BaselineFault → ℕ
baseline_fault_number (HourWithoutLoad x) = gap_number x.gap

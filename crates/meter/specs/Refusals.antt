-- The numbers of what recording and meters refuse.
use Rattle.std.specs.Prelude.{ℕ}
use Rattle.tariff.specs.Gaps.{gap_number}
use Rattle.meter.specs.declared.refusal.RecordRefusal.{RecordRefusal}
use Rattle.meter.specs.declared.refusal.RecordRefusal.TheVariants.{NoSuchCell, LoadAboveLimit, CellTaken}
use Rattle.meter.specs.declared.refusal.MeterFault.{MeterFault}
use Rattle.meter.specs.declared.refusal.MeterFault.TheVariants.{NoSuchHour, NoLoad}

abbrev pub record_number : RecordRefusal → ℕ
record_number NoSuchCell = 22
record_number LoadAboveLimit = 23
record_number CellTaken = 24

-- a gap has the number that a statement which needs the hour is refused with
abbrev pub meter_number : MeterFault → ℕ
meter_number NoSuchHour = 22
meter_number (NoLoad g) = gap_number g

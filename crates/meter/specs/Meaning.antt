-- What a meter answers of its table.
use Rattle.std.specs.Prelude.{◌≡◌, ℕ, false, cond, Ok, Err, Result}
use Rattle.tariff.specs.Tables.{Table, in_summer, outside, Agree, Reading}
use Rattle.meter.specs.declared.refusal.MeterFault.{MeterFault}
use Rattle.meter.specs.declared.refusal.MeterFault.TheVariants.{NoSuchHour, NoLoad as HourHasNoLoad}

-- a reading with a gap as a fault of the meter
abbrev pub load_or_fault : Reading → Result ℕ MeterFault
load_or_fault (Ok w) = Ok w
load_or_fault (Err g) = Err (HourHasNoLoad g)

-- the answer to a question for any day and hour: outside the summer there is no such hour
abbrev pub asked : Table → ℕ → ℕ → Result ℕ MeterFault
asked t d h = cond (in_summer d h) (load_or_fault (t d h)) (Err NoSuchHour)

-- a table holds the one fixed value outside the summer
abbrev pub Spans : Table → Type 0
Spans t = (d h : ℕ) → in_summer d h ≡ false → t d h ≡ outside

-- Two meters that agree on the hours of the summer have the same meaning.
abbrev pub AgreeingMetersMeanTheSame : Type 0
AgreeingMetersMeanTheSame = (t u : Table) → Spans t → Spans u → Agree t u → t ≡ u

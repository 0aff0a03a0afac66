-- What wiping and recording answer, and what they leave in the table.
use Rattle.std.specs.Prelude.{ℕ, cond, ◌||◌, List, length, replicate, Ok, Err, Result, nat_le, nat_lt, slice_index, slice_set}
use Rattle.meter.specs.declared.kind.TableKind.{TableKind}
use Rattle.meter.specs.declared.kind.TableKind.TheVariants.{Hourly, Quarter}
use Rattle.meter.specs.declared.refusal.RecordRefusal.{RecordRefusal}
use Rattle.meter.specs.declared.refusal.RecordRefusal.TheVariants.{NoSuchCell, LoadAboveLimit, CellTaken}

-- what a cell holds that nothing was recorded in: the largest number of 32 bits, above either limit
abbrev pub unwritten : ℕ
unwritten = 4294967295

abbrev pub wiped : List ℕ → List ℕ
wiped cells = replicate (length cells) unwritten

-- how many cells the summer has: 76 days of 24 hours, or of 96 quarter-hours
abbrev pub span : TableKind → ℕ
span Hourly = 1824
span Quarter = 7296

-- the most watt-hours that a cell may hold
abbrev pub limit : TableKind → ℕ
limit Hourly = 100000000
limit Quarter = 25000000

-- the checks of a recording in their order, and what it answers: the cell
abbrev pub record_answer : List ℕ → TableKind → ℕ → ℕ → Result ℕ RecordRefusal
record_answer cells kind cell load =
    cond (nat_le (span kind) cell || nat_le (length cells) cell) (Err NoSuchCell)
    (cond (nat_lt (limit kind) load) (Err LoadAboveLimit)
    (cond (nat_le (slice_index cells cell) (limit kind)) (Err CellTaken) (Ok cell)))

-- an answered recording writes its one cell, and a refused one leaves the table as it was
abbrev pub kept_or_set : Result ℕ RecordRefusal → List ℕ → ℕ → List ℕ
kept_or_set (Ok cell) cells load = slice_set cells cell load
kept_or_set (Err r) cells load = cells

abbrev pub recorded : List ℕ → TableKind → ℕ → ℕ → List ℕ
recorded cells kind cell load = kept_or_set (record_answer cells kind cell load) cells load

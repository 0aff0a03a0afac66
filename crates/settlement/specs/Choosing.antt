-- Which meter stands at a place of a list of meters.
use Rattle.std.specs.Prelude.{◌≡◌, ℕ, zero, suc, ◌<◌, ◌≤◌, cond, List, length, take, Some, None, Ok, Err, vec_items, Option, Result, ◌==◌, slice_index_or}
use Rattle.tariff.specs.Tables.{Table, summer}
use Rattle.meter.specs.Cells.{hourly, quarterly, joined}
use Rattle.meter.specs.declared.kind.TableKind.{TableKind}
use Rattle.meter.specs.declared.kind.TableKind.TheVariants.{Hourly, Quarter}
use Rattle.settlement.specs.Chosen.{chosen_table}
use Rattle.settlement.specs.declared.fault.RunFault.{RunFault}
use Rattle.settlement.specs.declared.fault.RunFault.TheVariants.{NoSuchMeter, NoMemory}
use Rattle.settlement.specs.declared.chosen.ChosenMeter.{ChosenMeter}
use Rattle.settlement.specs.declared.results.ReadMeter.{ReadMeter}
use Rattle.settlement.specs.declared.results.ReadMeter.TheVariants.{Table as TableMeter, Pair}

-- the hours that the cells of a table of a kind mean
abbrev pub table_of : TableKind → List ℕ → ℕ → Table
table_of Hourly cells number = summer (hourly cells number)
table_of Quarter cells number = summer (quarterly cells number)

-- what two meters drew together
abbrev pub together : Table → Table → Table
together t u = summer (λ d h. joined (t d h) (u d h))

-- the same where both are there
abbrev pub both_tables : Option Table → Option Table → Option Table
both_tables (Some t) (Some u) = Some (together t u)
both_tables (Some t) None = None
both_tables None u = None

-- what stands past the end of a list of meters
abbrev pub no_meter : ReadMeter
no_meter = Pair 0 0

-- the table of a meter, where those before it have these tables: a pair's two are looked up among them
abbrev pub table_after : (ℕ → Option Table) → ReadMeter → Option Table
table_after before (TableMeter kind number cells) = Some (table_of kind (vec_items cells) number)
table_after before (Pair first second) = both_tables (before first) (before second)

-- the table of the meter at a place among the first n; none where the place is past these, or a pair names a place not before its own
unfoldable pub table_among : List ReadMeter → ℕ → ℕ → Option Table
table_among meters zero place = None
table_among meters (suc n) place =
    cond (place == n) (table_after (table_among meters n) (slice_index_or meters n no_meter)) (table_among meters n place)

-- the table of the meter at a place of a list
abbrev pub table_at : List ReadMeter → ℕ → Option Table
table_at meters place = table_among meters (length meters) place

-- what choosing gives, where this is the table: a meter with that table, or no such meter where there is none
abbrev pub ChosenFor : Option Table → Result ChosenMeter RunFault → Type 0
ChosenFor t (Ok m) = t ≡ Some (chosen_table m)
ChosenFor t (Err NoSuchMeter) = t ≡ None
ChosenFor t (Err NoMemory) = Unit {0}

-- A place of a list has the meter that stands there: its own table, or what the two before it drew together; past the end there is none.
abbrev pub PlacesMeanTheirMeters : Type 0
PlacesMeanTheirMeters =
    (meters : List ReadMeter) (place : ℕ) → (place < length meters → table_at meters place ≡ table_after (table_at (take place meters)) (slice_index_or meters place no_meter)) × (length meters ≤ place → table_at meters place ≡ None)

-- What is read aloud of a batch.
use Rattle.std.specs.Prelude.{◌≡◌, ℕ, ◌+◌, ◌*◌, List, [], ◌∷◌, length, Ok, Err, vec_items, sum_by}
use Rattle.tariff.specs.Season.{Season, season_event_hours}
use Rattle.tariff.specs.Tables.{Table}
use Rattle.batch.specs.declared.plan.Step.{Step}
use Rattle.settlement.specs.Choosing.{table_of}
use Rattle.settlement.specs.Held.{hours_held}
use Rattle.settlement.specs.Running.{outcomes_of, season_after, statements_of, statements_of_all}
use Rattle.settlement.specs.declared.results.Counts.{Counts}
use Rattle.settlement.specs.declared.results.Outcome.{Outcome}
use Rattle.settlement.specs.declared.results.Outcome.TheVariants.{Opened, Called, Metered, Stated, Compared}
use Rattle.settlement.specs.declared.results.ReadMeter.{ReadMeter}
use Rattle.settlement.specs.declared.results.ReadMeter.TheVariants.{Table as TableMeter, Pair}

-- the hours of a meter's own table that hold a load; a pair has no table of its own
abbrev pub hours_of_meter : ReadMeter → ℕ
hours_of_meter (TableMeter kind number cells) = hours_held (table_of kind (vec_items cells) number)
hours_of_meter (Pair first second) = 0

abbrev pub meter_hours_in : List ReadMeter → ℕ
meter_hours_in meters = sum_by hours_of_meter meters

-- the hour lines of the statements that a task wrote: a compare writes two statements
abbrev pub hours_out : Outcome → ℕ
hours_out (Opened r) = 0
hours_out (Called r) = 0
hours_out Metered = 0
hours_out (Stated (Ok hours)) = hours
hours_out (Stated (Err r)) = 0
hours_out (Compared (Ok hours)) = 2 * hours
hours_out (Compared (Err r)) = 0

abbrev pub event_hours_out : List Outcome → ℕ
event_hours_out outcomes = sum_by hours_out outcomes

-- the statements that it wrote
abbrev pub written_by : Outcome → ℕ
written_by (Opened r) = 0
written_by (Called r) = 0
written_by Metered = 0
written_by (Stated (Ok hours)) = 1
written_by (Stated (Err r)) = 0
written_by (Compared (Ok hours)) = 2
written_by (Compared (Err r)) = 0

abbrev pub statements_out : List Outcome → ℕ
statements_out outcomes = sum_by written_by outcomes

-- the counts of a batch whose season ended so, with these meters and these outcomes
abbrev pub counts_of : Season → List ReadMeter → List Outcome → Counts
counts_of s meters outcomes =
    record { sites = length s.sites; meter_hours = meter_hours_in meters; event_hours = event_hours_out outcomes; statements = statements_out outcomes }

-- ---- what the counts mean for the statements that are written

-- The statements out are the statements that were written, however the tasks run.
abbrev pub StatementsOutAreThoseWritten : Type 0
StatementsOutAreThoseWritten =
    (tables : ℕ → Table) (s : Season) (steps : List Step) → statements_out (outcomes_of tables s steps) ≡ length (statements_of_all tables s steps)

-- the lines that tasks write: each statement has one for each event hour of its season
unfoldable pub lines_written : (ℕ → Table) → Season → List Step → ℕ
lines_written tables s [] = 0
lines_written tables s (x ∷ xs) =
    length (statements_of tables s x.task) * length (season_event_hours s) + lines_written tables (season_after s x.task) xs

-- The event hours out are the hour lines of the statements that were written.
abbrev pub EventHoursOutAreLinesWritten : Type 0
EventHoursOutAreLinesWritten =
    (tables : ℕ → Table) (s : Season) (steps : List Step) → event_hours_out (outcomes_of tables s steps) ≡ lines_written tables s steps

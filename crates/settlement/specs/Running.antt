-- What comes of the tasks of a batch, one after another.
use Rattle.std.specs.Prelude.{◌≡◌, ℕ, Bool, true, false, ◌&&◌, List, [], ◌∷◌, ◌++◌, is_some, Ok, Err}
use Rattle.std.specs.Option.{unwrap_or}
use Rattle.tariff.specs.Calls.{open_answer, after_open, answer, next}
use Rattle.tariff.specs.Season.{Season}
use Rattle.tariff.specs.Statement as tariff
use Rattle.tariff.specs.Tables.{Table, outside}
use Rattle.tariff.specs.declared.statement.Statement.{Statement}
use Rattle.statement.specs.Compared.{Outcomes, both_of, hours_of_both}
use Rattle.batch.specs.declared.plan.Step.{Step}
use Rattle.batch.specs.declared.plan.Task.{Task}
use Rattle.batch.specs.declared.plan.Task.TheVariants.{Open, Call, Meter, Statement as StatementOf, Compare}
use Rattle.settlement.specs.Choosing.{table_at}
use Rattle.settlement.specs.declared.fault.RunFault.{RunFault}
use Rattle.settlement.specs.declared.fault.RunFault.TheVariants.{NoSuchMeter, NoMemory}
use Rattle.settlement.specs.declared.results.Outcome.{Outcome}
use Rattle.settlement.specs.declared.results.Outcome.TheVariants.{Opened, Called, Metered, Stated, Compared}
use Rattle.settlement.specs.declared.results.ReadMeter.{ReadMeter}

-- ---- the meters that tasks name

-- there is a meter at a place
abbrev pub is_there : List ReadMeter → ℕ → Bool
is_there meters place = is_some (table_at meters place)

-- the table of a place; asked only where there is a meter
abbrev pub tables_of : List ReadMeter → ℕ → Table
tables_of meters place = unwrap_or (table_at meters place) (λ d h. outside)

-- the meters that a task reads are there
abbrev pub has_meters : List ReadMeter → Task → Bool
has_meters meters (Open year) = true
has_meters meters (Call c) = true
has_meters meters (Meter place) = true
has_meters meters (StatementOf site place) = is_there meters place
has_meters meters (Compare site first second) = is_there meters first && is_there meters second

-- those that some tasks read are
unfoldable pub all_have_meters : List ReadMeter → List Step → Bool
all_have_meters meters [] = true
all_have_meters meters (x ∷ xs) = has_meters meters x.task && all_have_meters meters xs

-- ---- one task

-- the season that a task leaves
abbrev pub season_after : Season → Task → Season
season_after s (Open year) = after_open s year (open_answer s year)
season_after s (Call c) = next s c
season_after s (Meter place) = s
season_after s (StatementOf site place) = s
season_after s (Compare site first second) = s

-- what comes of a compare on two tables
abbrev pub compared_on : Season → ℕ → Table → Table → Outcomes
compared_on s site t u = both_of (tariff.outcome s site t) (tariff.outcome s site u)

-- what a task answers or is refused with, where its places have these tables
abbrev pub outcome_of : (ℕ → Table) → Season → Task → Outcome
outcome_of tables s (Open year) = Opened (open_answer s year)
outcome_of tables s (Call c) = Called (answer s c)
outcome_of tables s (Meter place) = Metered
outcome_of tables s (StatementOf site place) = Stated (tariff.hours_answered (tariff.outcome s site (tables place)))
outcome_of tables s (Compare site first second) = Compared (hours_of_both (compared_on s site (tables first) (tables second)))

-- the statement that is written: none where it was refused
abbrev pub written : tariff.Outcome → List Statement
written (Ok x) = x.0 ∷ []
written (Err r) = []

-- the two that a compare writes, the first meter's first
abbrev pub both_written : Outcomes → List Statement
both_written (Ok b) = b.first ∷ b.second ∷ []
both_written (Err r) = []

-- the statements that a task writes
abbrev pub statements_of : (ℕ → Table) → Season → Task → List Statement
statements_of tables s (Open year) = []
statements_of tables s (Call c) = []
statements_of tables s (Meter place) = []
statements_of tables s (StatementOf site place) = written (tariff.outcome s site (tables place))
statements_of tables s (Compare site first second) = both_written (compared_on s site (tables first) (tables second))

-- ---- tasks one after another

-- the season that they leave
unfoldable pub season_after_all : Season → List Step → Season
season_after_all s [] = s
season_after_all s (x ∷ xs) = season_after_all (season_after s x.task) xs

-- what comes of each, in their order
unfoldable pub outcomes_of : (ℕ → Table) → Season → List Step → List Outcome
outcomes_of tables s [] = []
outcomes_of tables s (x ∷ xs) = outcome_of tables s x.task ∷ outcomes_of tables (season_after s x.task) xs

-- the statements that they write, in their order
unfoldable pub statements_of_all : (ℕ → Table) → Season → List Step → List Statement
statements_of_all tables s [] = []
statements_of_all tables s (x ∷ xs) = statements_of tables s x.task ++ statements_of_all tables (season_after s x.task) xs

-- why tasks are stopped, where this tells whether their meters are there
abbrev pub StoppedFor : Bool → RunFault → Type 0
StoppedFor there NoSuchMeter = there ≡ false
StoppedFor there NoMemory = Unit {0}

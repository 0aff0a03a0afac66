-- The statements and the hour lines that tasks write are those that their outcomes count.
use Rattle.std.proofs.Common.{◌≡◌, ℕ, ◌+◌, ◌*◌, Bool, true, false, cond, not, [], ◌∷◌, length, Some, None, Ok, Err, Option, sym, refl, ◌∙◌, ap₂, arith}
use Rattle.std.proofs.lemmas.List.{length-append}
use Rattle.std.proofs.lemmas.List.Sums.{sum_by-cons}
use Rattle.tariff.specs.Season.{Season, season_event_hours, has_site, site_at}
use Rattle.tariff.specs.Statement as tariff
use Rattle.tariff.specs.Tables.{Table}
use Rattle.tariff.specs.declared.statement.Statement.{Statement}
use Rattle.tariff.specs.declared.statement.StatementRefusal.{StatementRefusal}
use Rattle.tariff.specs.declared.statement.StatementRefusal.TheVariants.{SeasonNotClosed, NoSuchSite}
use Rattle.statement.specs.Compared.{Outcomes, both_of, hours_of_both}
use Rattle.batch.specs.declared.plan.Task.{Task}
use Rattle.batch.specs.declared.plan.Task.TheVariants.{Open, Call, Meter, Statement as StatementOf, Compare}
use Rattle.settlement.specs.Counted.{EventHoursOutAreLinesWritten, StatementsOutAreThoseWritten, hours_out, lines_written, written_by}
use Rattle.settlement.specs.Running.{both_written, outcome_of, outcomes_of, season_after, statements_of, statements_of_all, written}
use Rattle.settlement.specs.declared.results.Outcome.TheVariants.{Stated, Compared}

-- ---- statements

one_written : (o : tariff.Outcome) → written_by (Stated (tariff.hours_answered o)) ≡ length (written o)
one_written (Ok x) = refl
one_written (Err r) = refl

two_written : (o : Outcomes) → written_by (Compared (hours_of_both o)) ≡ length (both_written o)
two_written (Ok b) = refl
two_written (Err r) = refl

task_written : (tables : ℕ → Table) (s : Season) (x : Task) → written_by (outcome_of tables s x) ≡ length (statements_of tables s x)
task_written tables s (Open year) = refl
task_written tables s (Call c) = refl
task_written tables s (Meter place) = refl
task_written tables s (StatementOf site place) = one_written (tariff.outcome s site (tables place))
task_written tables s (Compare site first second) =
    two_written (both_of (tariff.outcome s site (tables first)) (tariff.outcome s site (tables second)))

pub statements_counted : StatementsOutAreThoseWritten
unfolding outcomes_of statements_of_all
statements_counted tables s [] = refl
statements_counted tables s (x ∷ xs) =
    sum_by-cons written_by (outcome_of tables s x.task) (outcomes_of tables (season_after s x.task) xs)
    ∙ ap₂ ◌+◌ (task_written tables s x.task) (statements_counted tables (season_after s x.task) xs)
    ∙ sym (length-append (statements_of tables s x.task) (statements_of_all tables (season_after s x.task) xs))

-- ---- hour lines

-- the checks of a request in their order, over whatever they find
outcome_from : Bool → Bool → Option StatementRefusal → Statement × ℕ → tariff.Outcome
outcome_from early missing fault x = cond early (Err SeasonNotClosed) (cond missing (Err NoSuchSite) (tariff.refused_or fault x))

one_lined : (early missing : Bool) (fault : Option StatementRefusal) (x : Statement × ℕ) → hours_out (Stated (tariff.hours_answered (outcome_from early missing fault x))) ≡ length (written (outcome_from early missing fault x)) * x.1
unfolding outcome_from
one_lined true missing fault x = omega arith
one_lined false true fault x = omega arith
one_lined false false (Some r) x = omega arith
one_lined false false None x = omega arith

two_lined : (early missing : Bool) (f g : Option StatementRefusal) (x y : Statement × ℕ) → let o = both_of (outcome_from early missing f x) (outcome_from early missing g y) in hours_out (Compared (hours_of_both o)) ≡ length (both_written o) * x.1
unfolding outcome_from
two_lined true missing f g x y = omega arith
two_lined false true f g x y = omega arith
two_lined false false (Some r) g x y = omega arith
two_lined false false None (Some r) x y = omega arith
two_lined false false None None x y = omega arith

task_lined : (tables : ℕ → Table) (s : Season) (x : Task) → hours_out (outcome_of tables s x) ≡ length (statements_of tables s x) * length (season_event_hours s)
unfolding outcome_from
task_lined tables s (Open year) = omega arith
task_lined tables s (Call c) = omega arith
task_lined tables s (Meter place) = omega arith
task_lined tables s (StatementOf site place) =
    one_lined (not s.closed) (not (has_site s site)) (tariff.season_fault s (tables place)) (tariff.statement_of s (site_at s site) (tables place), length (season_event_hours s))
task_lined tables s (Compare site first second) =
    two_lined (not s.closed) (not (has_site s site)) (tariff.season_fault s (tables first)) (tariff.season_fault s (tables second)) (tariff.statement_of s (site_at s site) (tables first), length (season_event_hours s)) (tariff.statement_of s (site_at s site) (tables second), length (season_event_hours s))

pub lines_counted : EventHoursOutAreLinesWritten
unfolding outcomes_of lines_written
lines_counted tables s [] = refl
lines_counted tables s (x ∷ xs) =
    sum_by-cons hours_out (outcome_of tables s x.task) (outcomes_of tables (season_after s x.task) xs)
    ∙ ap₂ ◌+◌ (task_lined tables s x.task) (lines_counted tables (season_after s x.task) xs)

use Rattle.std.proofs.Common.{◌≡◌, ◌++◌, drop, vec_items}
use Rattle.season.specs.View.{view}
use Rattle.settlement.specs.Running.{all_have_meters, outcomes_of, season_after_all, statements_of_all, tables_of}
use Rattle.settlement.proofs.settle.Meters.do_steps.Given as goal

abbrev pub invariant-loop-step : goal.invariant-loop-step
invariant-loop-step l =
    let left = drop l.step-index l.steps in
    let tables = tables_of l.self.list.now in
    (all_have_meters l.self.list.now left ≡ all_have_meters l.self.list.now l.steps)
    × (season_after_all (view l.season) left ≡ season_after_all (view l.initial.season) l.steps)
    × (vec_items l.done.outcomes ++ outcomes_of tables (view l.season) left ≡ vec_items l.initial.done.outcomes ++ outcomes_of tables (view l.initial.season) l.steps)
    × (vec_items l.done.statements ++ statements_of_all tables (view l.season) left ≡ vec_items l.initial.done.statements ++ statements_of_all tables (view l.initial.season) l.steps)

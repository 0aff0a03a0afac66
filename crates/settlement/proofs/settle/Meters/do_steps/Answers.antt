use Rattle.std.proofs.lemmas.Result.{err_from_is_err_and}
use Rattle.settlement.proofs.Tasks.{there_more, there_all, stopped_here, season_more, season_all, outcomes_more, outcomes_all, statements_more, statements_all}
use Rattle.settlement.proofs.settle.Meters.do_steps.Goals as goal

pub returns-in_err-outcome-clause-stopped : goal.returns-in_err-outcome-clause-stopped
returns-in_err-outcome-clause-stopped c =
    let p = err_from_is_err_and c.from_residual.result c.from_residual.ensures.1 in
    rw (p.1, p.2) (stopped_here _ _ _ _ _ _ c.loop-step-test.true c.in_err-outcome.ensures.stopped c.loop-step.invariant.0)

pub loop-step-preserved : goal.loop-step-preserved
loop-step-preserved c =
    let inv = c.loop-step.invariant in
    let told = c.in_ok-outcome.ensures in
    let more = c.loop-step-test.true in (
      there_more _ _ _ _ _ more told.there inv.0,
      season_more _ _ _ _ _ _ more told.after inv.1,
      outcomes_more _ _ _ _ _ _ _ _ _ _ more told.after told.outcome c.in_ok-push.ensures.items inv.2,
      statements_more _ _ _ _ _ _ _ _ _ more told.after told.written inv.3,
    )

pub returns : goal.returns
returns c =
    let inv = c.loop-step.invariant in
    let past = c.loop-step-test.false in
    record {
      there = there_all _ _ _ _ past inv.0;
      outcomes = outcomes_all _ _ _ _ _ _ past inv.2;
      after = season_all _ _ _ _ past inv.1;
      written = statements_all _ _ _ _ _ _ past inv.3;
      stopped = tt;
    }

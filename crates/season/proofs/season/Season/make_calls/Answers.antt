use Rattle.std.proofs.Common.{◌+◌, ◌++◌, drop, ap, ◌∙◌, arith}
use Rattle.tariff.specs.Calls.{answers}
use Rattle.season.specs.View.{view}
use Rattle.season.proofs.Runs.{run_more, run_all, answers_more, answers_all}
use Rattle.season.proofs.season.Season.make_calls.Goals as goal

pub loop-call-preserved : goal.loop-call-preserved
loop-call-preserved c =
    let inv = c.loop-call.invariant in
    let answered = c.call-answer.ensures.answer in
    let after = c.call-answer.ensures.after in
    let cs = c.args.calls.now in
    let i = c.loop-call.call-index in (
      omega arith,
      run_more _ _ _ _ _ _ _ c.loop-call-test.true answered after inv.1,
      ap (λ xs. xs ++ answers (view c.call-answer.new.self) (drop (i + 1) cs)) c.push_reserved.ensures.items
          ∙ answers_more _ _ _ _ _ _ _ _ c.loop-call-test.true answered after inv.2,
    )

pub returns : goal.returns
returns c =
    let inv = c.loop-call.invariant in
    let past = c.loop-call-test.false in
    record { after = run_all _ _ _ _ past inv.1; answered = answers_all _ _ _ _ _ past inv.2 }

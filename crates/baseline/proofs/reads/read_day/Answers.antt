use Rattle.std.proofs.Common.{◌≡◌, Err, ap, ◌∙◌, arith}
use Rattle.std.proofs.lemmas.Result.{err_from_is_err_and}
use Rattle.baseline.specs.Days.{hour_read}
use Rattle.baseline.proofs.DayReads.{asked_of, day_read_whole, day_read_gap}
use Rattle.baseline.proofs.reads.read_day.Goals as goal

pub returns-in_err-load-clause-answer : goal.returns-in_err-load-clause-answer
returns-in_err-load-clause-answer g c =
    let t = g.M.Meter.table c.args.meter.now in
    let u = c.args.purpose in
    let d = c.args.day in
    let h = c.loop-hour.hour in
    let kept = c.loop-hour.invariant in
    let x = c.in_err-load.field-0.0 in
    let here : hour_read u d h (t d h) ≡ Err x = asked_of _ t u d h (Err x) kept.0 c.in_err-load.ensures.answer in
    let p = err_from_is_err_and c.from_residual.result c.from_residual.ensures.1 in
    p.1 ∙ ap Err p.2 ∙ day_read_gap t u d h c.loop-hour.load-items x (omega arith) kept.2 here

pub returns-clause-answer : goal.returns-clause-answer
returns-clause-answer g c =
    let t = g.M.Meter.table c.args.meter.now in
    let kept = c.loop-hour.invariant in
    day_read_whole t c.args.purpose c.args.day c.loop-hour.load-items kept.1 (λ k l. kept.2 k (omega arith))

use Rattle.std.proofs.Common.{◌≡◌, Ok, Err, ap, ◌∙◌, arith}
use Rattle.std.proofs.lemmas.Result.{err_from_is_err_and, IfOk-from_err}
use Rattle.tariff.specs.declared.fault.Use.TheVariants.{EventDay}
use Rattle.baseline.specs.Days.{day_read}
use Rattle.baseline.specs.Measuring.{loads_read}
use Rattle.baseline.proofs.TenDays.{read_of}
use Rattle.baseline.proofs.Measures.{gap_before, gap_own, whole, measured_told}
use Rattle.baseline.proofs.event.read_loads.Goals as goal

pub returns-in_err-original : goal.returns-in_err-original
returns-in_err-original g c =
    let t = g.M.Meter.table c.args.meter.now in
    let days = c.args.days.now.days in
    let e = c.args.event.now in
    let p = err_from_is_err_and c.from_residual.result c.from_residual.ensures.1 in
    let told : c.from_residual.result ≡ loads_read t days e.day = p.1 ∙ ap Err p.2 ∙ gap_before t days e.day _ c.in_err-original.ensures.answer in
    record {
      answer = told;
      measured = measured_told t days e (omega arith) (omega arith) c.from_residual.result told;
      small = IfOk-from_err c.from_residual.result _ c.from_residual.ensures.0;
      keeps = c.original_baseline.ensures.keeps;
    }

pub returns-in_err-own : goal.returns-in_err-own
returns-in_err-own g c =
    let t = g.M.Meter.table c.args.meter.now in
    let days = c.args.days.now.days in
    let e = c.args.event.now in
    let f = c.in_err-own.field-0.0 in
    let kept = c.original_baseline.ensures.keeps in
    let here : Err f ≡ day_read t EventDay e.day = read_of _ t EventDay e.day (Err f) kept c.in_err-own.ensures.answer in
    let p = err_from_is_err_and c.from_residual-in_err-own.result c.from_residual-in_err-own.ensures.1 in
    let told : c.from_residual-in_err-own.result ≡ loads_read t days e.day = p.1 ∙ ap Err p.2 ∙ gap_own t days e.day c.in_ok-original.original f c.in_ok-original.ensures.answer here in
    record {
      answer = told;
      measured = measured_told t days e (omega arith) (omega arith) c.from_residual-in_err-own.result told;
      small = IfOk-from_err c.from_residual-in_err-own.result _ c.from_residual-in_err-own.ensures.0;
      keeps = c.read_own.ensures.keeps ∙ kept;
    }

pub returns : goal.returns
returns g c =
    let t = g.M.Meter.table c.args.meter.now in
    let days = c.args.days.now.days in
    let e = c.args.event.now in
    let kept = c.original_baseline.ensures.keeps in
    let own = c.in_ok-own.own in
    let x = c.in_ok-original.original in
    let here : Ok own ≡ day_read t EventDay e.day = read_of _ t EventDay e.day (Ok own) kept c.in_ok-own.ensures.answer in
    let told : Ok (record { bases = x.bases; own = own }) ≡ loads_read t days e.day = whole t days e.day x own c.in_ok-original.ensures.answer here in
    record {
      answer = told;
      measured = measured_told t days e (omega arith) (omega arith) _ told;
      small = c.in_ok-original.ensures.bound;
      keeps = c.read_own.ensures.keeps ∙ kept;
    }

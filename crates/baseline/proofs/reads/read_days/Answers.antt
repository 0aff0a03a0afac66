use Rattle.std.proofs.Common.{◌≡◌, ℕ, ◌-◌, ◌<◌, length, get_or, Ok, Err, ap, ◌∙◌, arith, length-set}
use Rattle.std.proofs.lemmas.Result.{err_from_is_err_and, IfOk-from_err}
use Rattle.tariff.specs.declared.fault.Use.TheVariants.{Comparison}
use Rattle.baseline.specs.Days.{day_read, days_read}
use Rattle.baseline.proofs.Shown.{original_told}
use Rattle.baseline.proofs.TenDays.{read_of, got_more, days_whole, days_gap}
use Rattle.baseline.proofs.reads.read_days.Goals as goal

pub returns-in_err-read : goal.returns-in_err-read
returns-in_err-read g c =
    let t = g.M.Meter.table c.args.meter.now in
    let days = c.args.days.now in
    let i : ℕ = c.loop-place.place - 1 in
    let kept = c.loop-place.invariant in
    let f = c.in_err-read.field-0.0 in
    let here : Err f ≡ day_read t Comparison (get_or days i 0) =
    read_of _ t Comparison (get_or days i 0) (Err f) kept.0 c.in_err-read.ensures.answer in
    let p = err_from_is_err_and c.from_residual.result c.from_residual.ensures.1 in
    let told : c.from_residual.result ≡ days_read t days = p.1 ∙ ap Err p.2 ∙ days_gap t days c.loop-place.read i f c.told-days (omega arith) (λ k l. kept.2 k (omega arith)) here in
    record {
      answer = told;
      original = original_told t days c.from_residual.result told;
      bound = IfOk-from_err c.from_residual.result _ c.from_residual.ensures.0;
      keeps = c.read_day.ensures.keeps ∙ kept.0;
    }

pub loop-place-preserved : goal.loop-place-preserved
loop-place-preserved g c =
    let t = g.M.Meter.table c.args.meter.now in
    let days = c.args.days.now in
    let read = c.loop-place.read in
    let i : ℕ = c.loop-place.place - 1 in
    let kept = c.loop-place.invariant in
    let loads = c.in_ok-read.field-0 in
    let within : i < length read = omega arith in
    let here : Ok loads ≡ day_read t Comparison (get_or days i 0) =
    read_of _ t Comparison (get_or days i 0) (Ok loads) kept.0 c.in_ok-read.ensures.answer in (
      c.read_day.ensures.keeps ∙ kept.0,
      length-set read i loads ∙ kept.1,
      got_more t days read i loads within here c.in_ok-read.ensures.bound (λ k l. kept.2 k (omega arith)),
    )

pub returns : goal.returns
returns g c =
    let t = g.M.Meter.table c.args.meter.now in
    let days = c.args.days.now in
    let read = c.loop-place.read in
    let kept = c.loop-place.invariant in
    let told : Ok read ≡ days_read t days = days_whole t days read c.told-days kept.1 (λ k. kept.2 k (omega arith)) in
    record {
      answer = told;
      original = original_told t days (Ok read) told;
      bound = λ k l. (kept.2 k (omega arith) l).small;
      keeps = kept.0;
    }

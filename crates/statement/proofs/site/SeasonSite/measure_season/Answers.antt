use Rattle.std.proofs.Common.{◌≡◌, map, length, Some, Err, sym, refl, ap, ◌∙◌, subst, arith, below_more}
use Rattle.std.specs.List.{AllByRecursion}
use Rattle.std.proofs.lemmas.Result.{err_from_is_err_and}
use Rattle.tariff.specs.Events.{event_hours_before, hours_before}
use Rattle.tariff.specs.Measure.{measured}
use Rattle.tariff.specs.Statement.{day_refusal}
use Rattle.tariff.specs.Tables.{Table}
use Rattle.tariff.proofs.EventHours.{standing_none, hours_none, event_hours_none}
use Rattle.tariff.specs.declared.statement.StatementRefusal.TheVariants.{EventWithoutBaseline}
use Rattle.pay.specs.Listed.{listed}
use Rattle.pay.specs.Paying.{measured_list}
use Rattle.season.specs.View.{view}
use Rattle.statement.specs.Measured.{InYear, DayMeasured, SeasonTold}
use Rattle.statement.proofs.SeasonHours.{room_for_day, counts_more, hours_again, no_fault, first_fault, hours_counted}
use Rattle.statement.proofs.site.SeasonSite.measure_season.Goals as goal

pub loop-day-init : goal.loop-day-init
loop-day-init g c =
    let s = view c.args.self.now.season.now in
    let t = g.M.Meter.table c.args.meter.now in
    let none = c.none-list.ensures in (
      refl,
      omega (arith, standing_none s.days),
      ap length none ∙ sym (hours_none s.days),
      ap measured_list none ∙ sym (ap (map (measured s c.args.self.now.site.now t)) (event_hours_none s.days)),
      subst (AllByRecursion (InYear s.year)) (sym none) tt,
      λ k h. let z : ⊥ = omega arith in absurd z,
    )

pub measure_day-requires-clause-room : goal.measure_day-requires-clause-room
measure_day-requires-clause-room g c =
    room_for_day (view c.args.self.now.season.now) c.loop-day.day (length (listed c.loop-day.list)) (omega arith) c.stays_sound.ensures.overall c.loop-day.invariant.2

pub returns-in_err-number-clause-told : goal.returns-in_err-number-clause-told
returns-in_err-number-clause-told g c =
    let s = view c.args.self.now.season.now in
    let x = c.args.self.now.site.now in
    let t = g.M.Meter.table c.args.meter.now in
    let inv = c.loop-day.invariant in
    let d = c.loop-day.day in
    let f = c.in_err-number.field-0.0 in
    let p = err_from_is_err_and c.from_residual.result c.from_residual.ensures.1 in
    let is : c.from_residual.result ≡ Err (EventWithoutBaseline f) = p.1 ∙ ap Err p.2 in
    let here = subst (λ (u : Table). day_refusal s u d ≡ Some (EventWithoutBaseline f)) inv.0 c.in_err-number.ensures.told in
    subst (SeasonTold s x t) (sym is) (first_fault s t d (EventWithoutBaseline f) (omega arith) inv.5 here)

pub loop-day-preserved : goal.loop-day-preserved
loop-day-preserved g c =
    let s = view c.args.self.now.season.now in
    let x = c.args.self.now.site.now in
    let t = g.M.Meter.table c.args.meter.now in
    let inv = c.loop-day.invariant in
    let d = c.loop-day.day in
    let before = c.loop-day.list in
    let after = c.measure_day.new.list in
    let n = c.in_ok-number.number in
    let day : DayMeasured s x t d before after n = subst (λ (u : Table). DayMeasured s x u d before after n) inv.0 c.in_ok-number.ensures.told in (
      c.measure_day.ensures.keeps ∙ inv.0,
      day.number,
      counts_more s x t d n before after day inv.2,
      hours_again s x t d n before after day inv.3,
      day.weeks,
      below_more _ _ inv.5 day.answered,
    )

pub returns-clause-told : goal.returns-clause-told
returns-clause-told g c =
    let s = view c.args.self.now.season.now in
    let x = c.args.self.now.site.now in
    let t = g.M.Meter.table c.args.meter.now in
    let inv = c.loop-day.invariant in
    let list = c.loop-day.list in
    let end : c.loop-day.day ≡ 76 = omega arith in
    record {
      answered = no_fault s t (λ k h. inv.5 k (omega arith));
      counts = hours_counted s (length (listed list)) (inv.2 ∙ ap (hours_before s.days) end);
      hours = inv.3 ∙ ap (λ n. map (measured s x t) (event_hours_before s.days n)) end;
      weeks = inv.4;
    }

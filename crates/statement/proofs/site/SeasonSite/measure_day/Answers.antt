use Rattle.std.proofs.Common.{◌≡◌, ℕ, ◌+◌, Bool, false, cond, Err, sym, ap, ◌∙◌, subst, arith}
use Rattle.std.specs.List.{AllByRecursion}
use Rattle.std.proofs.lemmas.Result.{err_from_is_err_and}
use Rattle.tariff.specs.Events.{stands}
use Rattle.tariff.specs.Season.{day_at, standing}
use Rattle.tariff.specs.declared.season.Day.TheVariants.{Standing}
use Rattle.pay.specs.Listed.{listed}
use Rattle.season.specs.View.{view}
use Rattle.statement.specs.Measured.{InYear, DayMeasured, DayTold}
use Rattle.statement.proofs.DayByDay.{quiet_day, stands_none, stands_some, count_of, days_within, standing_day, standing_fault}
use Rattle.statement.proofs.SeasonHours.{standing_few}
use Rattle.statement.proofs.site.SeasonSite.measure_day.Goals as goal

pub returns-in_err-measured-clause-told : goal.returns-in_err-measured-clause-told
returns-in_err-measured-clause-told g c =
    let s = view c.args.self.now.season.now in
    let x = c.args.self.now.site.now in
    let t = g.M.Meter.table c.args.meter.now in
    let list = c.args.list.now in
    let f = c.in_err-measured.field-0.0 in
    let held : day_at s c.args.day ≡ Standing c.in-Some.event = sym (c.day-held.ensures.is ∙ ap (day_at s) c.from.ensures) ∙ stands_some c.day-held.result c.in-Some.event (sym c.standing.ensures ∙ c.in-Some.is) in
    let p = err_from_is_err_and c.from_residual.result c.from_residual.ensures.1 in
    let is : c.from_residual.result ≡ Err f = p.1 ∙ ap Err p.2 in
    let fault = standing_fault s x t c.args.day c.in-Some.event c.args.number held c.requires.number f c.in_err-measured.ensures.answer in
    subst (DayTold s x t c.args.day list list) (sym is) fault

pub push_event-requires-clause-room : goal.push_event-requires-clause-room
push_event-requires-clause-room g c =
    let s = view c.args.self.now.season.now in
    let t = g.M.Meter.table c.args.meter.now in
    let held : day_at s c.args.day ≡ Standing c.in-Some.event = sym (c.day-held.ensures.is ∙ ap (day_at s) c.from.ensures) ∙ stands_some c.day-held.result c.in-Some.event (sym c.standing.ensures ∙ c.in-Some.is) in
    let count = count_of s c.args.self.now.site.now t c.args.day c.in-Some.event c.args.number held c.requires.number c.in_ok-measured.measured c.in_ok-measured.ensures.answer in
    omega (arith, count, c.requires.room)

pub push_event-requires-clause-days : goal.push_event-requires-clause-days
push_event-requires-clause-days g c k h =
    let s = view c.args.self.now.season.now in
    let t = g.M.Meter.table c.args.meter.now in
    let held : day_at s c.args.day ≡ Standing c.in-Some.event = sym (c.day-held.ensures.is ∙ ap (day_at s) c.from.ensures) ∙ stands_some c.day-held.result c.in-Some.event (sym c.standing.ensures ∙ c.in-Some.is) in
    days_within s c.args.self.now.site.now t c.args.day c.in-Some.event c.args.number held c.requires.number c.in_ok-measured.measured c.in_ok-measured.ensures.answer c.requires.day k

pub next_number-next-requires : goal.next_number-next-requires
next_number-next-requires g c =
    let few = standing_few (view c.args.self.now.season.now).days c.args.day in
    omega (arith, few, c.requires.number)

pub returns-clause-told : goal.returns-clause-told
returns-clause-told g c =
    let s = view c.args.self.now.season.now in
    let x = c.args.self.now.site.now in
    let t = g.M.Meter.table c.args.meter.now in
    let m = c.in_ok-measured.measured in
    let after = c.push_event.new.list in
    let held : day_at s c.args.day ≡ Standing c.in-Some.event = sym (c.day-held.ensures.is ∙ ap (day_at s) c.from.ensures) ∙ stands_some c.day-held.result c.in-Some.event (sym c.standing.ensures ∙ c.in-Some.is) in
    let weeks = subst (λ (y : ℕ). AllByRecursion (InYear y) (listed after)) c.year.ensures c.push_event.ensures.weeks in
    let day = stands_some c.day-held.result c.in-Some.event (sym c.standing.ensures ∙ c.in-Some.is) in
    let more : c.next_number-next.result ≡ c.args.number + 1 = c.next_number-next.ensures ∙ ap (λ day. c.args.number + cond (stands day) 1 0) day in
    subst (DayMeasured s x t c.args.day c.args.list.now after) (sym more) (standing_day s x t c.args.day c.in-Some.event c.args.number held c.requires.number m c.args.list.now after c.in_ok-measured.ensures.answer c.push_event.ensures.counts c.push_event.ensures.hours weeks)

pub returns-in_default-clause-told : goal.returns-in_default-clause-told
returns-in_default-clause-told g c =
    let s = view c.args.self.now.season.now in
    let quiet = stands_none c.day-held.result (sym c.standing.ensures ∙ c.in_default.is) in
    let held : c.day-held.result ≡ day_at s c.args.day = c.day-held.ensures.is ∙ ap (day_at s) c.from.ensures in
    let none : standing s c.args.day ≡ false = ap stands (sym held) ∙ quiet in
    let more = ap (λ (b : Bool). c.args.number + cond b 1 0) quiet in
    let same : c.next_number-next.result ≡ c.args.number = omega (arith, c.next_number-next.ensures, more) in
    let t = g.M.Meter.table c.args.meter.now in
    let x = c.args.self.now.site.now in
    let list = c.args.list.now in
    subst (DayMeasured s x t c.args.day list list) (sym same) (quiet_day s x t c.args.day list c.args.number none c.requires.number c.requires.weeks)

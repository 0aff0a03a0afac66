use Rattle.std.proofs.Common.{◌≡◌, sym, ap, ◌∙◌, subst, arith, rules}
use Rattle.std.specs.List.{AllByRecursion}
use Rattle.tariff.specs.Events.{day_hours, day_in, event_hours_before}
use Rattle.tariff.proofs.EventHours.{event_hours_none, hours_none, hours_more, standing_none, standing_more}
use Rattle.season.specs.Hours.{Placed, hours_listed}
use Rattle.season.specs.View.{view}
use Rattle.season.proofs.HourLists.{day_listed, day_room, all_placed}
use Rattle.season.proofs.Sounds.{sound_of}
use Rattle.season.proofs.season.Season.hours_before.Goals as goal
use Rattle.season.proofs.season.Season.hours_before.Goals.{then-stands, else-stands}

pub push_day-requires-clause-room : goal.push_day-requires-clause-room
push_day-requires-clause-room c =
    let days = c.args.self.now.events.days in
    let d = c.loop-day.day in
    let held : c.day-held.result ≡ day_in days d = search rules in
    omega (arith, day_room days d (omega arith) c.args.self.now.full, ap day_hours held)

pub loop-day-preserved : goal.loop-day-preserved
loop-day-preserved c =
    let days = c.args.self.now.events.days in
    let d = c.loop-day.day in
    let held : c.day-held.result ≡ day_in days d = search rules in
    let inv = c.loop-day.invariant in
    record {
      few = elim c.if-stands.branch [ then-stands w ↦ omega (arith, w.numbered-is) | else-stands w ↦ omega (arith, w.numbered-is) ];
      numbers = search (rules, standing_more);
      counted = omega (arith, hours_more days d, ap day_hours held);
      listed = day_listed days d _ _ _ _ inv.numbers inv.listed held c.push_day.ensures.list;
    }

pub loop-day-init : goal.loop-day-init
loop-day-init c = search (rules, standing_none, hours_none, event_hours_none)

pub returns-clause-placed : goal.returns-clause-placed
returns-clause-placed c =
    let s = c.args.self.now in
    let n = c.args.days in
    let inv = c.loop-day.invariant in
    let end : c.loop-day.day ≡ n = omega arith in
    let is : hours_listed c.loop-day.hours.list ≡ event_hours_before s.events.days n = inv.listed ∙ ap (event_hours_before s.events.days) end in
    subst (AllByRecursion (Placed (view s))) (sym is) (all_placed (view s) n (sound_of s) c.requires)

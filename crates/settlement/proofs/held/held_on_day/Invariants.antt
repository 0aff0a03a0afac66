use Rattle.std.proofs.Common.{◌≡◌, ◌≤◌}
use Rattle.settlement.specs.Held.{held_on_day}
use Rattle.settlement.proofs.held.held_on_day.Given as goal

abbrev pub invariant-loop-hour : goal.invariant-loop-hour
invariant-loop-hour g l =
    let t = g.M.Meter.table in
    (t l.meter ≡ t l.initial.meter) × (l.found ≡ held_on_day (t l.initial.meter) l.day l.hour) × (l.found ≤ l.hour)

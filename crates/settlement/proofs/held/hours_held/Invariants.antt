use Rattle.std.proofs.Common.{◌≡◌, ◌*◌, ◌≤◌}
use Rattle.settlement.specs.Held.{held_before}
use Rattle.settlement.proofs.held.hours_held.Given as goal

abbrev pub invariant-loop-day : goal.invariant-loop-day
invariant-loop-day g l =
    let t = g.M.Meter.table in
    (t l.meter ≡ t l.initial.meter) × (l.found ≡ held_before (t l.initial.meter) l.day) × (l.found ≤ 24 * l.day)

use Rattle.std.proofs.Common.{◌≡◌, ℕ, ◌<◌, ◌≤◌, length}
use Rattle.baseline.proofs.TenDays.{Got}
use Rattle.baseline.proofs.reads.read_days.Given as goal

abbrev pub invariant-loop-place : goal.invariant-loop-place
invariant-loop-place g l =
    let t = g.M.Meter.table in
    (t l.meter ≡ t l.initial.meter) × (length l.read ≡ 10) × ((k : ℕ) → l.place ≤ k → k < 10 → Got (t l.initial.meter) l.days l.read k)

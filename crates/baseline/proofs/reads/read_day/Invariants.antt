use Rattle.std.proofs.Common.{◌≡◌, ℕ, ◌<◌, ◌≤◌, length, get_or}
use Rattle.baseline.proofs.DayReads.{Read}
use Rattle.baseline.proofs.reads.read_day.Given as goal

abbrev pub invariant-loop-hour : goal.invariant-loop-hour
invariant-loop-hour g l =
    let t = g.M.Meter.table in
    (t l.meter ≡ t l.initial.meter) × (length l.load-items ≡ 24) × Read (t l.initial.meter) l.day l.hour l.load-items × ((k : ℕ) → k < l.hour → get_or l.load-items k 0 ≤ 100000000)

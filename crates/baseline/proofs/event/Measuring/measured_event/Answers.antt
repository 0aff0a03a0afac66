use Rattle.std.proofs.Common.{◌≡◌, ℕ, ◌<◌, get_or, rules}
use Rattle.baseline.specs.Measuring.{no_measured, entry_from}
use Rattle.baseline.proofs.Measures.{event_told}
use Rattle.baseline.proofs.event.Measuring.measured_event.Goals as goal

pub returns-clause-value : goal.returns-clause-value
returns-clause-value c =
    let m = c.args.self.now in
    let e = m.event.now in
    let hours = c.from_fn.result in
    let each : (k : ℕ) → k < 4 → get_or hours k no_measured ≡ entry_from m.loads.now e m.nominated k = λ k h. (let call = (c.from_fn.ensures.items.at k no_measured h).2 in search rules) in
    event_told m.loads.now e m.nominated hours c.from_fn.ensures.items.long e.four_hours each

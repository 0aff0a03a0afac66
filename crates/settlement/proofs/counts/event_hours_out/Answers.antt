use Rattle.std.proofs.Common.{rules}
use Rattle.std.proofs.iter.runs.Made.{chains}
use Rattle.settlement.proofs.counts.event_hours_out.Goals as goal

pub returns : goal.returns
returns c = search (rules, chains)

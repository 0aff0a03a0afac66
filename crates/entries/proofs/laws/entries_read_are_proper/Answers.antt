use Rattle.entries.proofs.Sound.{read_proper}
use Rattle.entries.proofs.laws.entries_read_are_proper.Goals as goal

pub returns : goal.returns
returns c = read_proper

use Rattle.entries.proofs.Back.{one_line}
use Rattle.entries.proofs.laws.written_entries_are_one_line.Goals as goal

pub returns : goal.returns
returns c = one_line

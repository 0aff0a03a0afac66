use Rattle.entries.proofs.Back.{read_back}
use Rattle.entries.proofs.laws.written_entries_read_back.Goals as goal

pub returns : goal.returns
returns c = read_back

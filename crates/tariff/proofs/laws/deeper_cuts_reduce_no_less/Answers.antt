use Rattle.tariff.proofs.Cuts.{deeper_cuts_reduce_no_less_lem}
use Rattle.tariff.proofs.laws.deeper_cuts_reduce_no_less.Goals as goal

pub returns : goal.returns
returns c = deeper_cuts_reduce_no_less_lem

use Rattle.tariff.proofs.Adjustment.{the_adjustment_is_held}
use Rattle.tariff.proofs.laws.adjustment_is_held.Goals as goal

pub returns : goal.returns
returns c = the_adjustment_is_held

use Rattle.tariff.proofs.Choice.{three_highest_are_highest_lem}
use Rattle.tariff.proofs.laws.three_highest_are_highest.Goals as goal

pub returns : goal.returns
returns c = three_highest_are_highest_lem

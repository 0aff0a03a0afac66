use Rattle.tariff.proofs.Paid.{reducing_no_less_never_costs_lem}
use Rattle.tariff.proofs.laws.reducing_no_less_never_costs.Goals as goal

pub returns : goal.returns
returns c = reducing_no_less_never_costs_lem

use Rattle.tariff.proofs.DeeperCut.{deeper_cut_never_costs_lem, deeper_cut_never_costs_after_calls}
use Rattle.tariff.proofs.laws.deeper_cut_never_costs.Goals as goal

pub returns : goal.returns
returns c = record { sound = deeper_cut_never_costs_lem; called = deeper_cut_never_costs_after_calls }

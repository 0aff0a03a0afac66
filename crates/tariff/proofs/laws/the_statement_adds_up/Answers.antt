use Rattle.tariff.proofs.RecordSums.{the_statement_adds_up_lem, the_statement_adds_up_after}
use Rattle.tariff.proofs.laws.the_statement_adds_up.Goals as goal

pub returns : goal.returns
returns c = record { sound = the_statement_adds_up_lem; called = the_statement_adds_up_after }

use Rattle.tariff.proofs.SummerAlone.{only_the_summer_counts_lem, only_the_summer_counts_after_calls}
use Rattle.tariff.proofs.laws.only_the_summer_counts.Goals as goal

pub returns : goal.returns
returns c = record { sound = only_the_summer_counts_lem; called = only_the_summer_counts_after_calls }

use Rattle.tariff.proofs.HistoryRemembered.{the_season_remembers}
use Rattle.tariff.proofs.laws.the_season_remembers_what_was_taken.Goals as goal

pub returns : goal.returns
returns c = the_season_remembers

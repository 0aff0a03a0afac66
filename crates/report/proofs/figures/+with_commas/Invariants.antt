use Rattle.report.proofs.figures.+with_commas.Given as goal

abbrev pub decreases-with_commas : goal.decreases-with_commas
decreases-with_commas l = l.number

-- What a meter chosen at run time means.
use Rattle.tariff.specs.Tables.{Table, summer}
use Rattle.meter.specs.Cells.{hourly, quarterly, joined}
use Rattle.settlement.specs.declared.chosen.ChosenMeter.{ChosenMeter}
use Rattle.settlement.specs.declared.chosen.ChosenMeter.TheVariants.{Hourly, Quarter, Pair'}

-- the table of the meter that was chosen: that of the hourly or the quarter-hour meter, or what both meters of a pair drew together
abbrev pub chosen_table : ChosenMeter → Table
chosen_table (Hourly m) = summer (hourly m.cells.now m.number)
chosen_table (Quarter m) = summer (quarterly m.cells.now m.number)
chosen_table (Pair' p first second) = summer (λ d h. joined (chosen_table first d h) (chosen_table second d h))

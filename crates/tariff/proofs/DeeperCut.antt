-- A deeper cut never costs: it reduces no less, and reducing no less never costs.
use Rattle.tariff.specs.Calls.{run}
use Rattle.tariff.specs.Laws.{DeeperCutNeverCosts}
use Rattle.tariff.specs.Lines.{NoWorse}
use Rattle.tariff.specs.Measure.{measured_hours}
use Rattle.tariff.specs.Readings.{Deeper}
use Rattle.tariff.specs.Season.{Season, opened, site_at}
use Rattle.tariff.specs.Sound.{Sound, OfSoundSeasons, AfterAnyCalls}
use Rattle.tariff.specs.Statement.{statement_of}
use Rattle.tariff.specs.Tables.{Table}
use Rattle.tariff.specs.declared.season.Site.{Site}
use Rattle.tariff.proofs.Cuts.{deeper_cuts_reduce_no_less_lem}
use Rattle.tariff.proofs.Gaps.{both_answered}
use Rattle.tariff.proofs.Paid.{reducing_no_less_never_costs_lem}
use Rattle.tariff.proofs.Runs.{seasons_are_sound_lem}

statement_no_worse : (s : Season) → Sound s → (x : Site) (t u : Table) → Deeper s t u → NoWorse (statement_of s x t) (statement_of s x u)
unfolding statement_of
statement_no_worse s sound x t u deeper =
    reducing_no_less_never_costs_lem s.year x (measured_hours s x t) (measured_hours s x u) (deeper_cuts_reduce_no_less_lem s sound x t u deeper)

pub deeper_cut_never_costs_lem : OfSoundSeasons DeeperCutNeverCosts
deeper_cut_never_costs_lem s sound site t u deeper =
    both_answered NoWorse s site t u deeper.gaps (statement_no_worse s sound (site_at s site) t u deeper)

pub deeper_cut_never_costs_after_calls : AfterAnyCalls DeeperCutNeverCosts
deeper_cut_never_costs_after_calls old year low high calls =
    deeper_cut_never_costs_lem (run (opened old year) calls) (seasons_are_sound_lem old year low high calls)

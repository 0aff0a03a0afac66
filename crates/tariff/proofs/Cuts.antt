-- Measuring: deeper cuts give reductions no lower, at the same baselines.
use Rattle.std.proofs.Common.{◌≡◌, ℕ, ◌+◌, ◌-◌, ◌<◌, ◌≤◌, true, false, sym, refl, ◌∙◌, le_refl, arith, Ok, Err}
use Rattle.std.specs.List.{AllZip}
use Rattle.std.proofs.lemmas.Bool.Decides.{nat_tests}
use Rattle.tariff.specs.Baseline.{base_of}
use Rattle.tariff.specs.Comparison.{comparison_days}
use Rattle.tariff.specs.Events.{event_of, event_hour, event_number}
use Rattle.tariff.specs.Laws.{DeeperCutsReduceNoLess}
use Rattle.tariff.specs.Lines.{ReducedNoLess}
use Rattle.tariff.specs.Measure.{adjusted_of, reduction_of, notice_hour, measured, measured_hours}
use Rattle.tariff.specs.Readings.{Alike, NoMore, Deeper}
use Rattle.tariff.specs.Season.{Season, day_at, standing, season_event_hours}
use Rattle.tariff.specs.Sound.{Sound}
use Rattle.tariff.specs.Tables.{Table, load, load_of, Reading}
use Rattle.tariff.specs.declared.season.Site.{Site}
use Rattle.tariff.proofs.Baselines.{comparison_free, base_of_same, adjusted_of_same}
use Rattle.tariff.proofs.EventHours.{all_event_hours, in_event_is}
use Rattle.tariff.proofs.Pointwise.{each_map}
use Rattle.tariff.proofs.Runs.{standing_fit}

load_no_more : (v w : Reading) → Alike v w → NoMore v w → load_of w ≤ load_of v
load_no_more (Ok v) (Ok w) a h = h
load_no_more (Ok v) (Err g) a h = absurd a
load_no_more (Err f) (Ok w) a h = absurd a
load_no_more (Err f) (Err g) a h = le_refl _

module _ (s : Season) (x : Site) (t u : Table) (deeper : Deeper s t u) (sound : Sound s) where
  free_same : (k h : ℕ) → k < 76 → h < 24 → standing s k ≡ false → t k h ≡ u k h
  free_same k h l m e = deeper.else_same k h l m (in_event_is s k h ∙ grind (arith, nat_tests))

  before_same : (d h : ℕ) → standing s d ≡ true → h < (event_of (day_at s d)).start → t d h ≡ u d h
  before_same d h e l =
      let f = standing_fit s d sound e in
      deeper.else_same d h (omega arith) (omega arith) (in_event_is s d h ∙ grind (arith, nat_tests))

  -- of an hour of an event
  module _ (d h : ℕ) (e : standing s d ≡ true) (from : (event_of (day_at s d)).start ≤ h) (to : h < (event_of (day_at s d)).start + (event_of (day_at s d)).length) where
    event_base : base_of t (comparison_days s d) h ≡ base_of u (comparison_days s d) h
    event_base =
        let f = standing_fit s d sound e in
        base_of_same s t u free_same (comparison_days s d) (comparison_free s d (omega arith)) h (omega arith)

    event_adjusted : adjusted_of t (comparison_days s d) d (notice_hour s d) h ≡ adjusted_of u (comparison_days s d) d (notice_hour s d) h
    event_adjusted =
        let f = standing_fit s d sound e in
        adjusted_of_same s t u free_same (comparison_days s d) (comparison_free s d (omega arith)) d (notice_hour s d) h (omega arith) (omega arith)
        (before_same d (notice_hour s d - 2) e (omega arith)) (before_same d (notice_hour s d - 1) e (omega arith))

    event_load : load u d h ≤ load t d h
    event_load =
        let f = standing_fit s d sound e in
        let l : d < 76 = omega arith in
        let m : h < 24 = omega arith in
        load_no_more (t d h) (u d h) (deeper.gaps d h l m) (deeper.cut d h l m (in_event_is s d h ∙ grind (arith, nat_tests)))

    event_reduction : reduction_of t (comparison_days s d) d (notice_hour s d) h ≤ reduction_of u (comparison_days s d) d (notice_hour s d) h
    unfolding reduction_of
    event_reduction = omega (arith, event_adjusted, event_load)

    reduced_no_less : ReducedNoLess (measured s x t (event_hour (event_number s.days d) d h)) (measured s x u (event_hour (event_number s.days d) d h))
    reduced_no_less =
        let r = event_reduction in
        record {
          event = refl;
          day = refl;
          hour = refl;
          base = sym event_base;
          adjusted = sym event_adjusted;
          reduction = r;
          shortfall = omega arith;
        }

  pub all_reduced_no_less : AllZip ReducedNoLess (measured_hours s x t) (measured_hours s x u)
  all_reduced_no_less =
      each_map ReducedNoLess (measured s x t) (measured s x u) (season_event_hours s)
      (all_event_hours _ s.days 76 (λ d h _ e from to. reduced_no_less d h e from to))

pub deeper_cuts_reduce_no_less_lem : DeeperCutsReduceNoLess
deeper_cuts_reduce_no_less_lem s sound x t u deeper = all_reduced_no_less s x t u deeper sound

-- Tables that agree on the hours of the summer settle alike.
use Rattle.std.proofs.Common.{◌≡◌, refl, ap, subst, Ok, Err}
use Rattle.tariff.specs.Calls.{run}
use Rattle.tariff.specs.Events.{event_number}
use Rattle.tariff.specs.Laws.{OnlyTheSummerCounts}
use Rattle.tariff.specs.Measure.{measured}
use Rattle.tariff.specs.Pay.{paid_for}
use Rattle.tariff.specs.Readings.{Alike, SameGaps}
use Rattle.tariff.specs.Season.{Season, opened, season_event_hours, site_at}
use Rattle.tariff.specs.Sound.{Sound, OfSoundSeasons, AfterAnyCalls}
use Rattle.tariff.specs.Statement.{statement_of}
use Rattle.tariff.specs.Tables.{Table, Agree, Reading}
use Rattle.tariff.specs.declared.season.Site.{Site}
use Rattle.tariff.proofs.Measured.{measured_same}
use Rattle.tariff.proofs.EventHours.{all_event_hours}
use Rattle.tariff.proofs.Gaps.{season_alike}
use Rattle.tariff.proofs.Pointwise.{map_same}
use Rattle.tariff.proofs.Runs.{seasons_are_sound_lem}

alike_itself : (v : Reading) → Alike v v
alike_itself (Ok w) = tt
alike_itself (Err g) = refl

same_gaps : (t u : Table) → Agree t u → SameGaps t u
same_gaps t u same d h l m = subst (λ (r : Reading). Alike (t d h) r) (same d h l m) (alike_itself (t d h))

module _ (s : Season) (x : Site) (t u : Table) (same : Agree t u) (sound : Sound s) where
  statement_same : statement_of s x t ≡ statement_of s x u
  unfolding statement_of
  statement_same =
      ap (paid_for s.year x)
      (map_same (measured s x t) (measured s x u) (season_event_hours s)
      (all_event_hours _ s.days 76 (λ d h l e from to. measured_same s sound t u (λ k h' l' m _. same k h' l' m) x (event_number s.days d) d h e to (λ k m. same d k l m))))

pub only_the_summer_counts_lem : OfSoundSeasons OnlyTheSummerCounts
only_the_summer_counts_lem s sound site t u same =
    cc (season_alike s t u (same_gaps t u same), statement_same s (site_at s site) t u same sound)

pub only_the_summer_counts_after_calls : AfterAnyCalls OnlyTheSummerCounts
only_the_summer_counts_after_calls old year low high calls =
    only_the_summer_counts_lem (run (opened old year) calls) (seasons_are_sound_lem old year low high calls)

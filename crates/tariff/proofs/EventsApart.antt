-- The loads of one event's day show in no other event.
use Rattle.std.proofs.Common.{◌≡◌, ℕ, ◌+◌, ◌<◌, ◌≤◌, true, false, List, map, sym, refl, ap, subst, arith}
use Rattle.std.specs.List.{AllZip}
use Rattle.std.proofs.lemmas.Bool.{both_ways}
use Rattle.tariff.specs.Calls.{run}
use Rattle.tariff.specs.Events.{event_of, event_hour, event_number}
use Rattle.tariff.specs.Laws.{EventsStandApart}
use Rattle.tariff.specs.Lines.{LineKept, OthersKept}
use Rattle.tariff.specs.Measure.{measured, measured_hours}
use Rattle.tariff.specs.Pay.{priced, no_hour, filled, paid_for}
use Rattle.tariff.specs.Readings.{OnlyDay}
use Rattle.tariff.specs.Season.{Season, opened, day_at, standing, season_event_hours, site_at}
use Rattle.tariff.specs.Sound.{Sound, OfSoundSeasons, AfterAnyCalls}
use Rattle.tariff.specs.Statement.{statement_of}
use Rattle.tariff.specs.Tables.{Table}
use Rattle.tariff.specs.declared.season.Site.{Site}
use Rattle.tariff.specs.declared.statement.MeasuredHour.{MeasuredHour}
use Rattle.tariff.specs.declared.statement.HourLine.{HourLine}
use Rattle.tariff.proofs.Measured.{measured_same}
use Rattle.tariff.proofs.EventHours.{all_event_hours}
use Rattle.tariff.proofs.Gaps.{both_answered}
use Rattle.tariff.proofs.Pointwise.{each_map, each_mapped, each_filled, each_at}
use Rattle.tariff.proofs.Runs.{seasons_are_sound_lem, standing_fit}

-- what was measured in the same hour of the same event, and outside one day the same
record MeasuredKept (day : ℕ) (l m : MeasuredHour) : Type 0 where
  same_event : m.event ≡ l.event
  same_day : m.day ≡ l.day
  same_hour : m.hour ≡ l.hour
  same_measured : (l.day ≡ day → ⊥) → m ≡ l

priced_kept : (day : ℕ) (l m : MeasuredHour) → MeasuredKept day l m → LineKept day (priced l) (priced m)
priced_kept day l m k =
    record { same_event = k.same_event; same_day = k.same_day; same_hour = k.same_hour; same_line = λ away. ap priced (k.same_measured away) }

line_self : (day : ℕ) (l : HourLine) → LineKept day l l
line_self day l = record { same_event = refl; same_day = refl; same_hour = refl; same_line = λ _. refl }

module _ (s : Season) (x : Site) (t u : Table) (day : ℕ) (stood : standing s day ≡ true) (only : OnlyDay day t u) (sound : Sound s) where
  free_same : (k h : ℕ) → k < 76 → h < 24 → standing s k ≡ false → t k h ≡ u k h
  free_same k h l m e = only.else_same k h l m (λ q. both_ways (standing s day) (subst (λ j. standing s j ≡ false) q e) stood)

  hour_kept : (d h : ℕ) → standing s d ≡ true → (event_of (day_at s d)).start ≤ h → h < (event_of (day_at s d)).start + (event_of (day_at s d)).length
      → MeasuredKept day (measured s x t (event_hour (event_number s.days d) d h)) (measured s x u (event_hour (event_number s.days d) d h))
  hour_kept d h e from to = record {
    same_event = refl;
    same_day = refl;
    same_hour = refl;
    same_measured = λ away.
        let f = standing_fit s d sound e in
        sym (measured_same s sound t u free_same x (event_number s.days d) d h e to (λ k m. only.else_same d k (omega arith) m away));
  }

  all_kept : AllZip (MeasuredKept day) (measured_hours s x t) (measured_hours s x u)
  all_kept =
      each_map (MeasuredKept day) (measured s x t) (measured s x u) (season_event_hours s)
      (all_event_hours _ s.days 76 (λ d h _ e from to. hour_kept d h e from to))

  lines_kept : AllZip (LineKept day) (map priced (measured_hours s x t)) (map priced (measured_hours s x u))
  lines_kept = each_mapped (MeasuredKept day) (LineKept day) priced (priced_kept day) (measured_hours s x t) (measured_hours s x u) all_kept

  others_kept : OthersKept day (statement_of s x t) (statement_of s x u)
  unfolding statement_of paid_for
  others_kept k =
      let ls : List HourLine = map priced (measured_hours s x t) in
      let ms : List HourLine = map priced (measured_hours s x u) in
      each_at (LineKept day) (filled no_hour 60 ls) (filled no_hour 60 ms) k no_hour (line_self day no_hour)
      (each_filled (LineKept day) no_hour 60 ls ms (line_self day no_hour) lines_kept)

pub events_stand_apart_lem : OfSoundSeasons EventsStandApart
events_stand_apart_lem s sound site t u day stood only =
    both_answered (OthersKept day) s site t u only.gaps (others_kept s (site_at s site) t u day stood only sound)

pub events_stand_apart_after_calls : AfterAnyCalls EventsStandApart
events_stand_apart_after_calls old year low high calls =
    events_stand_apart_lem (run (opened old year) calls) (seasons_are_sound_lem old year low high calls)

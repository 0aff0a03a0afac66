-- Two tables that hold the same on every day with no standing event, and on an event's day in the event hour and the two hours
-- before the notice's, give the same measured hour.
use Rattle.std.proofs.Common.{◌≡◌, ℕ, ◌+◌, ◌-◌, ◌<◌, true, false, List, ap, arith}
use Rattle.tariff.specs.Comparison.{comparison_days}
use Rattle.tariff.specs.Events.{event_of, event_hour}
use Rattle.tariff.specs.Measure.{adjusted_of, reduction_of, notice_hour, measured}
use Rattle.tariff.specs.Season.{Season, day_at, standing}
use Rattle.tariff.specs.Sound.{Sound}
use Rattle.tariff.specs.Tables.{Table, load_of}
use Rattle.tariff.specs.declared.season.Site.{Site}
use Rattle.tariff.proofs.Baselines.{comparison_free, base_of_same, adjusted_of_same}
use Rattle.tariff.proofs.Runs.{standing_fit}

reduction_of_same : (t u : Table) (days : List ℕ) (d n h : ℕ) → t d h ≡ u d h → adjusted_of t days d n h ≡ adjusted_of u days d n h → reduction_of t days d n h ≡ reduction_of u days d n h
unfolding reduction_of
reduction_of_same t u days d n h p q = let v = ap load_of p in cc

module _ (s : Season) (sound : Sound s) (t u : Table) (free_same : (k h : ℕ) → k < 76 → h < 24 → standing s k ≡ false → t k h ≡ u k h) where
  -- on a day d on which the tables hold the same in each hour
  pub measured_same : (x : Site) (number d h : ℕ) → standing s d ≡ true → h < (event_of (day_at s d)).start + (event_of (day_at s d)).length
      → ((k : ℕ) → k < 24 → t d k ≡ u d k)
      → measured s x t (event_hour number d h) ≡ measured s x u (event_hour number d h)
  measured_same x number d h e to same =
      let f = standing_fit s d sound e in
      let m : h < 24 = omega arith in
      let free = comparison_free s d (omega arith) in
      let base = base_of_same s t u free_same (comparison_days s d) free h m in
      let adjusted = adjusted_of_same s t u free_same (comparison_days s d) free d (notice_hour s d) h (omega arith) m
      (same (notice_hour s d - 2) (omega arith)) (same (notice_hour s d - 1) (omega arith)) in
      let reduction = reduction_of_same t u (comparison_days s d) d (notice_hour s d) h (same h m) adjusted in
      cc

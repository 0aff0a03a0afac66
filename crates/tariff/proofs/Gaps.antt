-- Two tables with the same gaps are refused alike.
use Rattle.std.proofs.Common.{◌≡◌, ℕ, ◌<◌, Bool, true, false, cond, not, reverse, length, Some, None, Err, Option, refl, ap, arith, Ok}
use Rattle.std.specs.List.{range_with_len}
use Rattle.std.proofs.ByRecursion.{All-weaker, all_shuffled}
use Rattle.std.proofs.lemmas.List.Sorted.{IsPermutation-reverse}
use Rattle.tariff.specs.Comparison.{comparison_days}
use Rattle.tariff.specs.Events.{event_number}
use Rattle.tariff.specs.Faults.{hour_fault, day_fault, comparison_fault, fault_over}
use Rattle.tariff.specs.Lines.{Both}
use Rattle.tariff.specs.Readings.{Alike, SameGaps}
use Rattle.tariff.specs.Season.{Season, standing, season_event_hours, has_site, site_at}
use Rattle.tariff.specs.Statement.{event_fault, numbered, day_refusal, season_fault, Outcome, refused_or, outcome, statement_of}
use Rattle.tariff.specs.Tables.{Table, Reading}
use Rattle.tariff.specs.declared.fault.Use.{Use}
use Rattle.tariff.specs.declared.fault.Use.TheVariants.{Comparison, EventDay}
use Rattle.tariff.specs.declared.statement.Statement.{Statement}
use Rattle.tariff.specs.declared.statement.StatementRefusal.{StatementRefusal}
use Rattle.tariff.proofs.Pointwise.{first_same}
use Rattle.tariff.proofs.Ranking.{all_counting}
use Rattle.tariff.proofs.Baselines.{Free, comparison_free}

hour_alike : (p : Use) (d h : ℕ) (v w : Reading) → Alike v w → hour_fault p d h v ≡ hour_fault p d h w
hour_alike p d h (Ok v) (Ok w) a = refl
hour_alike p d h (Ok v) (Err g) a = absurd a
hour_alike p d h (Err f) (Ok w) a = absurd a
hour_alike p d h (Err f) (Err g) a = ap (λ k. hour_fault p d h (Err k)) a

module _ (s : Season) (t u : Table) (gaps : SameGaps t u) where
  day_alike : (p : Use) (d : ℕ) → d < 76 → day_fault t p d ≡ day_fault u p d
  unfolding day_fault
  day_alike p d l = first_same _ _ (range_with_len 0 24) (all_counting _ 0 24 (λ h _ m. hour_alike p d h (t d h) (u d h) (gaps d h l (omega arith))))

  comparison_alike : (d : ℕ) → d < 76 → comparison_fault t (comparison_days s d) ≡ comparison_fault u (comparison_days s d)
  unfolding comparison_fault
  comparison_alike d l =
      first_same (day_fault t Comparison) (day_fault u Comparison) (reverse (comparison_days s d))
      (all_shuffled _ _ _ (IsPermutation-reverse _) (All-weaker (Free s) _ (λ k f. day_alike Comparison k f.0) _ (comparison_free s d l)))

  event_alike : (d : ℕ) → d < 76 → event_fault s t d ≡ event_fault s u d
  unfolding event_fault fault_over
  event_alike d l = cc (comparison_alike d l, day_alike EventDay d l)

  pub season_alike : season_fault s t ≡ season_fault s u
  unfolding season_fault
  season_alike =
      first_same (day_refusal s t) (day_refusal s u) (range_with_len 0 76)
      (all_counting _ 0 76 (λ d _ m. ap (λ f. cond (standing s d) (numbered (event_number s.days d) f) None) (event_alike d (omega arith))))

both_if : (P : Statement → Statement → Type 0) (b : Bool) (e : StatementRefusal) (x y : Outcome) → Both P x y → Both P (cond b (Err e) x) (cond b (Err e) y)
both_if P true e x y h = refl
both_if P false e x y h = h

both_refused_or : (P : Statement → Statement → Type 0) (o : Option StatementRefusal) (n : ℕ) (x y : Statement) → P x y → Both P (refused_or o (x, n)) (refused_or o (y, n))
both_refused_or P (Some f) n x y h = refl
both_refused_or P None n x y h = (refl, h)

-- both requests are answered, or both are refused, whole
pub both_answered : (P : Statement → Statement → Type 0) (s : Season) (i : ℕ) (t u : Table) → SameGaps t u → P (statement_of s (site_at s i) t) (statement_of s (site_at s i) u) → Both P (outcome s i t) (outcome s i u)
both_answered P s i t u gaps h =
    let x : Statement = statement_of s (site_at s i) t in
    let y : Statement = statement_of s (site_at s i) u in
    let n : ℕ = length (season_event_hours s) in
    let z : Both P (refused_or (season_fault s t) (x, n)) (refused_or (season_fault s u) (y, n)) =
    rw (season_alike s t u gaps) (both_refused_or P (season_fault s u) n x y h) in
    both_if P (not s.closed) _ _ _ (both_if P (not (has_site s i)) _ _ _ z)

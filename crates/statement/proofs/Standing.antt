-- An event that is measured by its span, over its days, is measured as the tariff says.
use Rattle.std.proofs.Common.{◌≡◌, ℕ, ◌/◌, List, [], ◌∷◌, map, Ok, Err, Result, MatchResult, IsErrAnd, refl, ap, ◌∙◌}
use Rattle.std.specs.List.{range_with_len}
use Rattle.std.proofs.lemmas.Result.{err_from_is_err_and}
use Rattle.tariff.specs.Calendar.{minute_of, week_of}
use Rattle.tariff.specs.Comparison.{comparison_days}
use Rattle.tariff.specs.Events.{event_hour, event_of, hours_on}
use Rattle.tariff.specs.Faults.{fault_over}
use Rattle.tariff.specs.Measure.{measured, measured_of, notice_hour, nomination_on}
use Rattle.tariff.specs.Season.{Season, day_at, nomination_for}
use Rattle.tariff.specs.Statement.{event_fault}
use Rattle.tariff.specs.Tables.{Table}
use Rattle.tariff.specs.declared.fault.BaselineFault.{BaselineFault}
use Rattle.tariff.specs.declared.season.Day.TheVariants.{Standing}
use Rattle.tariff.specs.declared.season.Event.{Event}
use Rattle.tariff.specs.declared.season.Site.{Site}
use Rattle.baseline.specs.Days.{fault_or}
use Rattle.baseline.specs.Measuring.{event_of_hours, event_measured}
use Rattle.baseline.specs.declared.measured.MeasuredEvent.{MeasuredEvent}
use Rattle.tariff.specs.declared.statement.EventFault.{EventFault}
use Rattle.baseline.specs.declared.span.EventSpan.{EventSpan}
use Rattle.statement.specs.Measured.{with_number}

-- an event measured by plain numbers
plain : Table → List ℕ → ℕ → ℕ → ℕ → ℕ → ℕ → ℕ → Result MeasuredEvent BaselineFault
plain t days nominated number d notice start len =
    fault_or (fault_over t days d) (event_of_hours (map (measured_of t days notice nominated) (map (event_hour number d) (range_with_len start len))))

by_span : (t : Table) (days : List ℕ) (e : EventSpan) (nominated : ℕ) → event_measured t days e nominated ≡ plain t days nominated e.number e.day e.notice e.start e.length
unfolding event_measured plain
by_span t days e nominated = refl

hours_measured : (s : Season) (x : Site) (t : Table) (number d : ℕ) (hs : List ℕ) →
    map (measured_of t (comparison_days s d) (notice_hour s d) (nomination_on s x d)) (map (event_hour number d) hs) ≡ map (measured s x t) (map (event_hour number d) hs)
hours_measured s x t number d [] = refl
hours_measured s x t number d (h ∷ hs) = ap (λ rest. measured s x t (event_hour number d h) ∷ rest) (hours_measured s x t number d hs)

as_the_season_says : (s : Season) (x : Site) (t : Table) (number d : ℕ) (e : Event) →
    plain t (comparison_days s d) (nomination_on s x d) number d (notice_hour s d) e.start e.length ≡ fault_or (event_fault s t d) (event_of_hours (map (measured s x t) (hours_on number d (Standing e))))
unfolding plain event_fault
as_the_season_says s x t number d e =
    ap (λ hours. fault_or (fault_over t (comparison_days s d) d) (event_of_hours hours)) (hours_measured s x t number d (range_with_len e.start e.length))

pub span_measured : (s : Season) (x : Site) (t : Table) (number d : ℕ) (e : Event) (span : EventSpan) (days : List ℕ) (nominated : ℕ) →
    day_at s d ≡ Standing e →
    days ≡ comparison_days s d →
    nominated ≡ nomination_for x (week_of s.year d) →
    span.number ≡ number →
    span.day ≡ d →
    span.notice ≡ minute_of e.notice / 60 →
    span.start ≡ e.start →
    span.length ≡ e.length →
    event_measured t days span nominated ≡ fault_or (event_fault s t d) (event_of_hours (map (measured s x t) (hours_on number d (Standing e))))
span_measured s x t number d e span days nominated stands ed en e1 e2 e3 e4 e5 =
    let notice : notice_hour s d ≡ minute_of e.notice / 60 = ap (λ day. minute_of (event_of day).notice / 60) stands in
    let first = by_span t days span nominated in
    let last = as_the_season_says s x t number d e in
    let middle : plain t days nominated span.number span.day span.notice span.start span.length ≡ plain t (comparison_days s d) (nomination_on s x d) number d (notice_hour s d) e.start e.length = cc in
    first ∙ middle ∙ last

-- a fault that was given its event's number
pub numbered_by : (number : ℕ) (r : Result MeasuredEvent BaselineFault) (q : Result MeasuredEvent EventFault) (Gives : BaselineFault → EventFault → Type 0) → ((f : BaselineFault) (e : EventFault) → Gives f e → e ≡ record { event = number; fault = f }) → MatchResult r (λ m. q ≡ Ok m) (λ f. IsErrAnd q (Gives f)) → q ≡ with_number number r
numbered_by number (Ok m) q Gives own h = h
numbered_by number (Err f) q Gives own h = let p = err_from_is_err_and q h in p.1 ∙ ap Err (own f p.0 p.2)

-- Events measured from the loads that were read are measured as the tariff says.
use Rattle.std.proofs.Common.{◌≡◌, ℕ, zero, suc, ◌+◌, ◌-◌, ◌<◌, ◌≤◌, List, [], ◌∷◌, ◌++◌, map, length, get_or, take, replicate, Some, None, Ok, Err, Result, sym, refl, ap, ◌∙◌, ap₂, inl, inr, arith, length-append}
use Rattle.std.specs.List.{range_with_len, AllByRecursion}
use Rattle.std.proofs.lemmas.Bool.{cases_lt, cond-true, cond-false, lt-ltb, le-ltb}
use Rattle.std.proofs.lemmas.List.FromFn.{length-range_with_len, get_or-range_with_len, length-map-range_with_len, get_or-map-range_with_len}
use Rattle.std.proofs.lemmas.List.{ext_get_or, get_or-map, get_or_past, length-replicate, take_at}
use Rattle.tariff.specs.Baseline.{base_of}
use Rattle.tariff.specs.Faults.{or_else, day_fault, comparison_fault, fault_over}
use Rattle.tariff.specs.Measure.{adjusted_of, reduction_of, measured_of}
use Rattle.tariff.specs.Pay.{filled}
use Rattle.tariff.specs.Tables.{Table}
use Rattle.tariff.specs.declared.fault.BaselineFault.{BaselineFault}
use Rattle.tariff.specs.declared.fault.Use.TheVariants.{EventDay}
use Rattle.tariff.specs.declared.statement.MeasuredHour.{MeasuredHour}
use Rattle.tariff.proofs.Ranking.{all_counting}
use Rattle.baseline.specs.declared.loads.EventLoads.{EventLoads}
use Rattle.baseline.specs.declared.original.OriginalBaseline.{OriginalBaseline}
use Rattle.baseline.specs.declared.span.EventSpan.{EventSpan}
use Rattle.baseline.specs.Days.{day_read, day_loads, fault_or}
use Rattle.baseline.specs.Original.{original_of, original_read}
use Rattle.baseline.specs.Measuring.{no_measured, hour_of, span_hours, event_of_hours, event_measured, loads_of, loads_read, adjusted_in, measured_in, entry_from, event_from, MeasuredFromLoads}
use Rattle.baseline.proofs.TenDays.{fault_none, fault_some, read_whole, read_gap}
use Rattle.baseline.proofs.Shown.{loads_at}

-- ---- reading

module _ (t : Table) (days : List ℕ) (d : ℕ) where
  pub gap_before : (f : BaselineFault) → Err f ≡ original_read t days → Err f ≡ loads_read t days d
  unfolding original_read loads_read fault_over
  gap_before f e =
      let some : comparison_fault t days ≡ Some f = fault_some (comparison_fault t days) (original_of t days) f e in
      ap (λ o. fault_or (or_else o (day_fault t EventDay d)) (loads_of t days d)) (sym some)

  pub gap_own : (x : OriginalBaseline) (f : BaselineFault) → Ok x ≡ original_read t days → Err f ≡ day_read t EventDay d → Err f ≡ loads_read t days d
  unfolding original_read loads_read fault_over
  gap_own x f e g =
      let none : comparison_fault t days ≡ None = (fault_none (comparison_fault t days) (original_of t days) x e).0 in
      let some : day_fault t EventDay d ≡ Some f = read_gap t EventDay d f g in
      ap (λ o. fault_or o (loads_of t days d)) (sym some) ∙ ap (λ o. fault_or (or_else o (day_fault t EventDay d)) (loads_of t days d)) (sym none)

  pub whole : (x : OriginalBaseline) (own : List ℕ) → Ok x ≡ original_read t days → Ok own ≡ day_read t EventDay d → Ok (record { bases = x.bases; own = own }) ≡ loads_read t days d
  unfolding original_read loads_read fault_over
  whole x own e g =
      let w = fault_none (comparison_fault t days) (original_of t days) x e in
      let v = read_whole t EventDay d own g in
      let none : comparison_fault t days ≡ None = w.0 in
      let own-none : day_fault t EventDay d ≡ None = v.0 in
      let bases : x.bases ≡ map (base_of t days) (range_with_len 0 24) = ap (λ y. y.bases) w.1 in
      let same : own ≡ day_loads t d = v.1 in
      cc

-- ---- measuring

pub map_alike : {X Y Z : Type 0} (f g : Y → Z) (k : X → Y) (xs : List X) → AllByRecursion (λ x. f (k x) ≡ g (k x)) xs → map f (map k xs) ≡ map g (map k xs)
map_alike f g k [] e = refl
map_alike f g k (x ∷ xs) e = ap₂ ◌∷◌ e.0 (map_alike f g k xs e.1)

module _ (t : Table) (days : List ℕ) (d : ℕ) where
  bases_at : (h : ℕ) → h < 24 → get_or (map (base_of t days) (range_with_len 0 24)) h 0 ≡ base_of t days h
  bases_at h l =
      let long : length (range_with_len 0 24) ≡ 24 = length-range_with_len 0 24 in
      get_or-map (base_of t days) (range_with_len 0 24) h 0 0 (omega arith) ∙ ap (base_of t days) (get_or-range_with_len 0 24 h 0 l ∙ omega arith)

  adjusted_shown : (n h : ℕ) → n < 24 → h < 24 → adjusted_in (loads_of t days d) n h ≡ adjusted_of t days d n h
  unfolding adjusted_of
  adjusted_shown n h i l =
      let p = loads_at t d (n - 2) (omega arith) in
      let q = loads_at t d (n - 1) (omega arith) in
      let p₃ = bases_at (n - 2) (omega arith) in
      let q₃ = bases_at (n - 1) (omega arith) in
      let b = bases_at h l in
      cc

  measured_shown : (n nominated number h : ℕ) → n < 24 → h < 24 → measured_in (loads_of t days d) n nominated (record { event = number; day = d; hour = h }) ≡ measured_of t days n nominated (record { event = number; day = d; hour = h })
  unfolding reduction_of
  measured_shown n nominated number h i l =
      let b = bases_at h l in
      let a = adjusted_shown n h i l in
      let w = loads_at t d h l in
      cc

module _ (t : Table) (days : List ℕ) (e : EventSpan) where
  hours_shown : (nominated : ℕ) → e.notice < 24 → e.start + e.length ≤ 24 → map (measured_in (loads_of t days e.day) e.notice nominated) (span_hours e) ≡ map (measured_of t days e.notice nominated) (span_hours e)
  hours_shown nominated i l =
      map_alike (measured_in (loads_of t days e.day) e.notice nominated) (measured_of t days e.notice nominated) (hour_of e) (range_with_len e.start e.length)
      (all_counting (λ h. measured_in (loads_of t days e.day) e.notice nominated (hour_of e h) ≡ measured_of t days e.notice nominated (hour_of e h)) e.start e.length
      (λ h low high. measured_shown t days e.day e.notice nominated e.number h i (omega arith)))

  -- what was read for an event tells what is measured in it
  pub measured_told : e.notice < 24 → e.start + e.length ≤ 24 → (r : Result EventLoads BaselineFault) → r ≡ loads_read t days e.day → MeasuredFromLoads t days e r
  unfolding loads_read event_measured event_from
  measured_told i l (Ok x) q = λ nominated.
      let w = fault_none (fault_over t days e.day) (loads_of t days e.day) x q in
      ap Ok (ap (λ y. event_of_hours (map (measured_in y e.notice nominated) (span_hours e))) w.1 ∙ ap event_of_hours (hours_shown nominated i l))
      ∙ ap (λ o. fault_or o (event_of_hours (map (measured_of t days e.notice nominated) (span_hours e)))) (sym w.0)
  measured_told i l (Err f) q = λ nominated.
      ap (λ o. fault_or o (event_of_hours (map (measured_of t days e.notice nominated) (span_hours e)))) (sym (fault_some (fault_over t days e.day) (loads_of t days e.day) f q))

-- ---- an event's hours, one by one

map_map : {X Y Z : Type 0} (f : Y → Z) (g : X → Y) (xs : List X) → map (λ x. f (g x)) xs ≡ map f (map g xs)
map_map f g [] = refl
map_map f g (x ∷ xs) = ap (λ zs. f (g x) ∷ zs) (map_map f g xs)

-- a list brought to n entries has its own, and then the entry that is not used
filled_has : {X : Type 0} (d : X) (xs : List X) (m k : ℕ) → get_or (xs ++ replicate m d) k d ≡ get_or xs k d
filled_has d [] zero k = refl
filled_has d [] (suc m) zero = refl
filled_has d [] (suc m) (suc k) = filled_has d [] m k
filled_has d (x ∷ xs) m zero = refl
filled_has d (x ∷ xs) m (suc k) = filled_has d xs m k

module _ (x : EventLoads) (e : EventSpan) (nominated : ℕ) where
  abbrev hour_at : ℕ → MeasuredHour
  hour_at h = measured_in x e.notice nominated (hour_of e h)

  hour_of_range : (k : ℕ) → get_or (map hour_at (range_with_len e.start e.length)) k no_measured ≡ entry_from x e nominated k
  unfolding entry_from
  hour_of_range k =
      let long : length (map hour_at (range_with_len e.start e.length)) ≡ e.length = length-map-range_with_len hour_at e.start e.length in
      elim (cases_lt k e.length) [
        | inl l ↦ get_or-map-range_with_len hour_at e.start e.length k (e.start + k) no_measured l refl ∙ sym (cond-true _ _ _ (lt-ltb k e.length l))
        | inr g ↦ get_or_past _ k no_measured (omega arith) ∙ sym (cond-false _ _ _ (le-ltb k e.length g))
      ]

  -- four entries are the event's record
  module _ (hours : List MeasuredHour) (long : length hours ≡ 4) (four : e.length ≤ 4) (each : (k : ℕ) → k < 4 → get_or hours k no_measured ≡ entry_from x e nominated k) where
    abbrev all : List MeasuredHour
    all = map (measured_in x e.notice nominated) (span_hours e)

    pub event_told : record { hours = hours; count = e.length } ≡ event_from x e nominated
    unfolding event_from
    event_told =
        let same : map hour_at (range_with_len e.start e.length) ≡ all = map_map (measured_in x e.notice nominated) (hour_of e) (range_with_len e.start e.length) in
        let count : length all ≡ e.length = ap length (sym same) ∙ length-map-range_with_len hour_at e.start e.length in
        let entry : (k : ℕ) → entry_from x e nominated k ≡ get_or all k no_measured = λ k. sym (hour_of_range k) ∙ ap (λ ys. get_or ys k no_measured) same in
        let whole : hours ≡ filled no_measured 4 all = ext_get_or no_measured hours (filled no_measured 4 all) (omega (arith, length-append all (replicate (4 - length all) no_measured), length-replicate (4 - length all) no_measured)) (λ k l. each k (omega arith) ∙ entry k ∙ sym (filled_has no_measured all (4 - length all) k)) in
        ap₂ (λ (hs : List MeasuredHour) (n : ℕ). record { hours = hs; count = n }) whole (sym count)

-- the hours of an event's record, without the entries that are not used
pub hours_back : (hours : List MeasuredHour) → take (event_of_hours hours).count (event_of_hours hours).hours ≡ hours
hours_back hours = take_at hours (replicate (4 - length hours) no_measured) (length hours) refl

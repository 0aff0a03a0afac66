-- What one day leaves: nothing where no event stands, and else its hours or its fault.
use Rattle.std.proofs.Common.{◌≡◌, ℕ, zero, suc, ◌+◌, ◌-◌, ◌≤◌, false, cond, List, [], ◌∷◌, ◌++◌, map, length, get_or, take, replicate, Some, None, Ok, Err, Option, sym, refl, ap, ◌∙◌, subst, ap₂, append-nil, arith}
use lib.ListN.{length-map}
use Rattle.std.specs.List.{range_with_len, AllByRecursion}
use Rattle.std.proofs.lemmas.List.FromFn.{length-range_with_len}
use Rattle.std.proofs.ByRecursion.{All-append, All-weaker}
use Rattle.std.proofs.lemmas.Bool.{cond-true, cond-false}
use Rattle.tariff.specs.Events.{stands, standing_event, day_hours, event_number, event_hour, hours_on, standing_before}
use Rattle.tariff.specs.Measure.{measured}
use Rattle.tariff.specs.Pay.{filled}
use Rattle.tariff.specs.Season.{Season, day_at, standing}
use Rattle.tariff.specs.Statement.{event_fault, day_refusal, numbered}
use Rattle.tariff.specs.Tables.{Table}
use Rattle.tariff.proofs.EventHours.{standing_more}
use Rattle.tariff.specs.declared.fault.BaselineFault.{BaselineFault}
use Rattle.tariff.specs.declared.season.Day.{Day}
use Rattle.tariff.specs.declared.season.Day.TheVariants.{NoEvent, Standing, Revoked}
use Rattle.tariff.specs.declared.season.Event.{Event}
use Rattle.tariff.specs.declared.season.Site.{Site}
use Rattle.tariff.specs.declared.statement.EventFault.{EventFault}
use Rattle.tariff.specs.declared.statement.MeasuredHour.{MeasuredHour}
use Rattle.tariff.specs.declared.statement.StatementRefusal.TheVariants.{EventWithoutBaseline}
use Rattle.baseline.proofs.Measures.{hours_back}
use Rattle.baseline.specs.Days.{fault_or}
use Rattle.baseline.specs.Measuring.{event_of_hours, no_measured}
use Rattle.baseline.specs.declared.measured.MeasuredEvent.{MeasuredEvent}
use Rattle.pay.specs.Listed.{listed}
use Rattle.pay.specs.declared.list.HourList.{HourList}
use Rattle.statement.specs.Measured.{InYear, measured_of_list, with_number, standing_measured, DayMeasured}

numbered_none : {A : Type 0} (number : ℕ) (o : Option BaselineFault) (a m : A) → Ok m ≡ with_number number (fault_or o a) → (o ≡ None) × (m ≡ a)
numbered_none number (Some f) a m e = let z : ◌≡◌ {A = ℕ} 0 1 = cc in absurd (omega arith)
numbered_none number None a m e = (refl, cc)

numbered_some : {A : Type 0} (number : ℕ) (o : Option BaselineFault) (a : A) (f : EventFault) → Err f ≡ with_number number (fault_or o a) → (o ≡ Some f.fault) × (f.event ≡ number)
numbered_some number (Some g) a f e =
    let same : f ≡ record { event = number; fault = g } = cc in
    (ap Some (sym (ap (λ x. x.fault) same)), ap (λ x. x.event) same)
numbered_some number None a f e = let z : ◌≡◌ {A = ℕ} 0 1 = cc in absurd (omega arith)

-- the number of the next event
next_number_lem : (s : Season) (d : ℕ) (held : Day) → day_at s d ≡ held → event_number s.days (d + 1) ≡ standing_before s.days d + cond (stands held) 1 0 + 1
next_number_lem s d held e =
    ap (λ n. n + 1) (standing_more s.days d ∙ ap (λ day. standing_before s.days d + cond (stands day) 1 0) e)

-- a day on which no event stands
no_hours : (held : Day) → stands held ≡ false → (day_hours held ≡ 0) × ((n d : ℕ) → hours_on n d held ≡ [])
no_hours NoEvent h = (refl, λ n d. refl)
no_hours (Standing e) h = let z : ◌≡◌ {A = ℕ} 0 1 = cc in absurd (omega arith)
no_hours (Revoked e) h = (refl, λ n d. refl)

pub stands_none : (held : Day) → standing_event held ≡ None → stands held ≡ false
stands_none NoEvent h = refl
stands_none (Standing e) h = let z : ◌≡◌ {A = ℕ} 0 1 = cc in absurd (omega arith)
stands_none (Revoked e) h = refl

pub stands_some : (held : Day) (e : Event) → standing_event held ≡ Some e → held ≡ Standing e
stands_some NoEvent e h = let z : ◌≡◌ {A = ℕ} 0 1 = cc in absurd (omega arith)
stands_some (Standing x) e h = ap Standing cc
stands_some (Revoked x) e h = let z : ◌≡◌ {A = ℕ} 0 1 = cc in absurd (omega arith)

pub quiet_day : (s : Season) (x : Site) (t : Table) (d : ℕ) (list : HourList) (number : ℕ) →
    standing s d ≡ false →
    number ≡ event_number s.days d →
    AllByRecursion (InYear s.year) (listed list) →
    DayMeasured s x t d list list number
quiet_day s x t d list number none en weeks =
    let quiet = no_hours (day_at s d) none in
    let zero_more : ◌≡◌ {A = ℕ} (cond {A = ℕ} (standing s d) 1 0) 0 = cond-false {A = ℕ} (standing s d) 1 0 none in
    record {
      answered = cond-false (standing s d) _ _ none;
      number = omega (arith, zero_more, next_number_lem s d (day_at s d) refl);
      counts = omega (arith, quiet.0);
      hours = sym (ap (λ hs. measured_of_list list ++ map (measured s x t) hs) (quiet.1 (event_number s.days d) d) ∙ append-nil (measured_of_list list));
      weeks = weeks;
    }

-- the event of a day that stands
module _ (s : Season) (x : Site) (t : Table) (d : ℕ) (e : Event) (number : ℕ) (held : day_at s d ≡ Standing e) (en : number ≡ event_number s.days d) where
  hours_of_day : List MeasuredHour
  hours_of_day = map (measured s x t) (hours_on number d (Standing e))

  length_hours : length hours_of_day ≡ e.length
  unfolding hours_of_day
  length_hours = length-map (hours_on number d (Standing e)) (measured s x t) ∙ length-map (range_with_len e.start e.length) (event_hour number d) ∙ length-range_with_len e.start e.length

  all_days : (hs : List ℕ) → AllByRecursion (λ m. m.day ≡ d) (map (measured s x t) (map (event_hour number d) hs))
  all_days [] = tt
  all_days (h ∷ hs) = (refl, all_days hs)

  -- an event that stopped nothing
  pub measured_whole : (m : MeasuredEvent) → Ok m ≡ standing_measured s x t number d e → (event_fault s t d ≡ None) × (m ≡ event_of_hours (map (measured s x t) (hours_on number d (Standing e))))
  unfolding standing_measured
  measured_whole m p = numbered_none number (event_fault s t d) _ m p

  pub count_of : (m : MeasuredEvent) → Ok m ≡ standing_measured s x t number d e → m.count ≡ day_hours (day_at s d)
  unfolding hours_of_day
  count_of m p = ap (λ v. v.count) (measured_whole m p).1 ∙ length_hours ∙ sym (ap day_hours held)

  get_d_any : (P : MeasuredHour → Type 0) (xs : List MeasuredHour) (k : ℕ) (o : MeasuredHour) → P o → AllByRecursion P xs → P (get_or xs k o)
  get_d_any P [] k o h a = h
  get_d_any P (y ∷ ys) zero o h a = a.0
  get_d_any P (y ∷ ys) (suc k) o h a = get_d_any P ys k o h a.1

  all_unused : (P : MeasuredHour → Type 0) (o : MeasuredHour) (n : ℕ) → P o → AllByRecursion P (replicate n o)
  all_unused P o zero h = tt
  all_unused P o (suc n) h = (h, all_unused P o n h)

  pub days_within : (m : MeasuredEvent) → Ok m ≡ standing_measured s x t number d e → d ≤ 75 → (k : ℕ) → (get_or m.hours k no_measured).day ≤ 75
  days_within m p l k =
      let P : MeasuredHour → Type 0 = λ v. v.day ≤ 75 in
      let hs : List MeasuredHour = map (measured s x t) (map (event_hour number d) (range_with_len e.start e.length)) in
      let within : AllByRecursion P hs = All-weaker (λ v. v.day ≡ d) P (λ v same. omega arith) hs (all_days (range_with_len e.start e.length)) in
      let whole : AllByRecursion P (filled no_measured 4 hs) = All-append P hs (replicate (4 - length hs) no_measured) within (all_unused P no_measured (4 - length hs) (omega arith)) in
      subst (λ (v : MeasuredEvent). (get_or v.hours k no_measured).day ≤ 75) (sym (measured_whole m p).1) (get_d_any P (filled no_measured 4 hs) k no_measured (omega arith) whole)

  -- what its hours leave
  pub standing_day : (m : MeasuredEvent) (before after : HourList) → Ok m ≡ standing_measured s x t number d e →
      length (listed after) ≡ length (listed before) + m.count →
      measured_of_list after ≡ measured_of_list before ++ take m.count m.hours →
      AllByRecursion (InYear s.year) (listed after) →
      DayMeasured s x t d before after (number + 1)
  standing_day m before after p counts hours weeks =
      let whole = measured_whole m p in
      let hs : List MeasuredHour = map (measured s x t) (hours_on number d (Standing e)) in
      let taken : take m.count m.hours ≡ hs = ap (λ v. take v.count v.hours) whole.1 ∙ hours_back hs in
      let same : hs ≡ map (measured s x t) (hours_on (event_number s.days d) d (day_at s d)) = ap₂ (λ n day. map (measured s x t) (hours_on n d day)) en (sym held) in
      record {
        answered = cond-true (standing s d) _ _ (ap stands held) ∙ ap (numbered (event_number s.days d)) whole.0;
        number = omega (arith, next_number_lem s d (Standing e) held);
        counts = omega (arith, count_of m p);
        hours = hours ∙ ap (λ rest. measured_of_list before ++ rest) (taken ∙ same);
        weeks = weeks;
      }

  -- an event that stops the statement
  pub standing_fault : (f : EventFault) → Err f ≡ standing_measured s x t number d e → day_refusal s t d ≡ Some (EventWithoutBaseline f)
  unfolding standing_measured
  standing_fault f p =
      let w = numbered_some number (event_fault s t d) _ f p in
      cond-true (standing s d) _ _ (ap stands held) ∙ ap (numbered (event_number s.days d)) w.0 ∙ ap (λ n. Some (EventWithoutBaseline (record { event = n; fault = f.fault }))) (sym en ∙ sym w.1)

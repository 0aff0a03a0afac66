-- The hours of standing events: what holds of each of them, how many there are, and which hours of the summer they are.
use Rattle.std.proofs.Common.{◌≡◌, ℕ, zero, suc, ◌+◌, ◌<◌, ◌≤◌, Bool, true, false, cond, ◌&&◌, ◌||◌, eqb, ltb, leb, List, [], ◌∷◌, ◌++◌, map, length, filter, sym, refl, ap, ◌∙◌, ap₂, inl, inr, add-one, arith, length-append}
use Rattle.std.specs.List.{range_with_len, AllByRecursion}
use Rattle.std.proofs.lemmas.List.FromFn.{length-map-range_with_len}
use Rattle.std.proofs.lemmas.List.Elements.{filter-append}
use Rattle.std.proofs.ByRecursion.{All-append, All-map}
use Rattle.std.proofs.lemmas.Bool.{cases_Bool, cases_eq}
use Rattle.std.proofs.lemmas.Bool.Decides.{nat_tests}
use Rattle.tariff.specs.Calendar.{in_week}
use Rattle.tariff.specs.Counting.{total}
use Rattle.tariff.specs.Events.{stands, event_of, day_in, day_hours, standing_before, event_number, event_hour, hours_on, event_hours_before, hours_before, week_hours_before, among}
use Rattle.tariff.specs.Season.{Season, day_at, in_event}
use Rattle.tariff.specs.declared.season.EventHour.{EventHour}
use Rattle.tariff.specs.declared.season.Day.{Day}
use Rattle.tariff.specs.declared.season.Day.TheVariants.{NoEvent, Standing, Revoked}
use Rattle.tariff.proofs.Ranking.{all_counting}
use Rattle.tariff.proofs.Totals.{count_none, count_more}

-- ---- one day more in a count

pub standing_none : (days : List Day) → standing_before days 0 ≡ 0
unfolding standing_before
standing_none days = count_none (λ d. stands (day_in days d))

pub standing_more : (days : List Day) (n : ℕ) → standing_before days (n + 1) ≡ standing_before days n + cond (stands (day_in days n)) 1 0
unfolding standing_before
standing_more days n = count_more (λ d. stands (day_in days d)) n

-- ---- one day more in the hours

pub event_hours_none : (days : List Day) → event_hours_before days 0 ≡ []
unfolding event_hours_before
event_hours_none days = refl

pub event_hours_more : (days : List Day) (n : ℕ) → event_hours_before days (n + 1) ≡ event_hours_before days n ++ hours_on (event_number days n) n (day_in days n)
unfolding event_hours_before
event_hours_more days n = ap (event_hours_before days) (add-one n)

length_hours_on : (number d : ℕ) (x : Day) → length (hours_on number d x) ≡ day_hours x
length_hours_on number d NoEvent = refl
length_hours_on number d (Standing e) = length-map-range_with_len (event_hour number d) e.start e.length
length_hours_on number d (Revoked e) = refl

pub hours_none : (days : List Day) → hours_before days 0 ≡ 0
unfolding hours_before
hours_none days = ap length (event_hours_none days)

pub hours_more : (days : List Day) (n : ℕ) → hours_before days (n + 1) ≡ hours_before days n + day_hours (day_in days n)
unfolding hours_before
hours_more days n =
    ap length (event_hours_more days n) ∙ length-append (event_hours_before days n) (hours_on (event_number days n) n (day_in days n))
    ∙ ap (λ k. length (event_hours_before days n) + k) (length_hours_on (event_number days n) n (day_in days n))

-- the hours of one day lie in its week
kept_day : (p : ℕ → Bool) (number d : ℕ) (hs : List ℕ) → length (filter (λ (e : EventHour). p e.day) (map (event_hour number d) hs)) ≡ cond (p d) (length (map (event_hour number d) hs)) 0
kept_day p number d [] = elim (p d) as (λ b. ◌≡◌ {A = ℕ} 0 (cond b 0 0)) [ true ↦ refl | false ↦ refl ]
kept_day p number d (h ∷ hs) =
    let ih = kept_day p number d hs in
    elim (cases_Bool (p d)) [
      | inl e ↦ rw e (ap suc (rw e at ih))
      | inr e ↦ rw e (rw e at ih)
    ]

week_hours_on : (p : ℕ → Bool) (number d : ℕ) (x : Day) → length (filter (λ (e : EventHour). p e.day) (hours_on number d x)) ≡ cond (p d) (day_hours x) 0
week_hours_on p number d NoEvent = kept_day p number d []
week_hours_on p number d (Standing e) =
    kept_day p number d (range_with_len e.start e.length) ∙ ap (λ k. cond (p d) k 0) (length-map-range_with_len (event_hour number d) e.start e.length)
week_hours_on p number d (Revoked e) = kept_day p number d []

pub week_hours_none : (year w : ℕ) (days : List Day) → week_hours_before year w days 0 ≡ 0
unfolding week_hours_before
week_hours_none year w days = ap (λ ps. length (filter (λ p. in_week year w p.day) ps)) (event_hours_none days)

pub week_hours_more : (year w : ℕ) (days : List Day) (n : ℕ) → week_hours_before year w days (n + 1) ≡ week_hours_before year w days n + cond (in_week year w n) (day_hours (day_in days n)) 0
unfolding week_hours_before
week_hours_more year w days n =
    let p : EventHour → Bool = λ e. in_week year w e.day in
    let new : List EventHour = hours_on (event_number days n) n (day_in days n) in
    ap (λ ps. length (filter p ps)) (event_hours_more days n) ∙ ap length (filter-append p (event_hours_before days n) new)
    ∙ length-append (filter p (event_hours_before days n)) (filter p new)
    ∙ ap (λ k. length (filter p (event_hours_before days n)) + k) (week_hours_on (in_week year w) (event_number days n) n (day_in days n))

-- ---- how many hours there are, as sums over the days

pub hours_total : (days : List Day) (n : ℕ) → hours_before days n ≡ total (λ d. day_hours (day_in days d)) n
unfolding total
hours_total days zero = hours_none days
hours_total days (suc n) = ap (hours_before days) (sym (add-one n)) ∙ hours_more days n ∙ ap (λ k. k + day_hours (day_in days n)) (hours_total days n)

pub week_hours_total : (year w : ℕ) (days : List Day) (n : ℕ) → week_hours_before year w days n ≡ total (λ d. cond (in_week year w d) (day_hours (day_in days d)) 0) n
unfolding total
week_hours_total year w days zero = week_hours_none year w days
week_hours_total year w days (suc n) =
    ap (week_hours_before year w days) (sym (add-one n)) ∙ week_hours_more year w days n
    ∙ ap (λ k. k + cond (in_week year w n) (day_hours (day_in days n)) 0) (week_hours_total year w days n)

-- ---- what holds of every hour of a standing event

all_hours_on : (P : EventHour → Type 0) (number d : ℕ) (x : Day)
    → (stands x ≡ true → (h : ℕ) → (event_of x).start ≤ h → h < (event_of x).start + (event_of x).length → P (event_hour number d h))
    → AllByRecursion P (hours_on number d x)
all_hours_on P number d NoEvent f = tt
all_hours_on P number d (Standing e) f = All-map P (event_hour number d) (range_with_len e.start e.length) (all_counting _ e.start e.length (f refl))
all_hours_on P number d (Revoked e) f = tt

pub all_event_hours : (P : EventHour → Type 0) (days : List Day) (n : ℕ)
    → ((d h : ℕ) → d < n → stands (day_in days d) ≡ true → (event_of (day_in days d)).start ≤ h → h < (event_of (day_in days d)).start + (event_of (day_in days d)).length → P (event_hour (event_number days d) d h))
    → AllByRecursion P (event_hours_before days n)
unfolding event_hours_before
all_event_hours P days zero f = tt
all_event_hours P days (suc n) f =
    All-append P (event_hours_before days n) _ (all_event_hours P days n (λ d h l. f d h (omega arith)))
    (all_hours_on P (event_number days n) n (day_in days n) (λ e h from to. f n h (omega arith) e from to))

-- ---- which hours they are

-- an hour lies in the event that stands on a day
abbrev pub lies_in : Day → ℕ → Bool
lies_in x h = stands x && (leb (event_of x).start h && ltb h ((event_of x).start + (event_of x).length))

among_append : (ps qs : List EventHour) (d h : ℕ) → among (ps ++ qs) d h ≡ (among ps d h || among qs d h)
unfolding among
among_append [] qs d h = refl
among_append (p ∷ ps) qs d h = rw (among_append ps qs d h) (or_assoc (eqb p.day d && eqb p.hour h) (among ps d h) (among qs d h))
  where
    or_assoc : (a b c : Bool) → (a || (b || c)) ≡ ((a || b) || c)
    or_assoc true b c = refl
    or_assoc false b c = refl

among_counting : (number n start len d h : ℕ) → among (map (event_hour number n) (range_with_len start len)) d h ≡ (eqb n d && (leb start h && ltb h (start + len)))
unfolding among
among_counting number n start zero d h = grind (arith, nat_tests)
among_counting number n start (suc len) d h = rw (among_counting number n (start + 1) len d h) (grind (arith, nat_tests))

among_none : (b : Bool) (d h : ℕ) → among [] d h ≡ (b && false)
unfolding among
among_none true d h = refl
among_none false d h = refl

among_day : (number n : ℕ) (x : Day) (d h : ℕ) → among (hours_on number n x) d h ≡ (eqb n d && lies_in x h)
among_day number n NoEvent d h = among_none (eqb n d) d h
among_day number n (Standing e) d h = among_counting number n e.start e.length d h
among_day number n (Revoked e) d h = among_none (eqb n d) d h

among_before : (days : List Day) (n d h : ℕ) → among (event_hours_before days n) d h ≡ (ltb d n && lies_in (day_in days d) h)
unfolding event_hours_before
among_before days zero d h = among_none true d h ∙ none (lies_in (day_in days d) h)
  where
    none : (b : Bool) → false ≡ (ltb d 0 && b)
    none b = grind (arith, nat_tests)
among_before days (suc n) d h =
    among_append (event_hours_before days n) (hours_on (event_number days n) n (day_in days n)) d h
    ∙ ap₂ ◌||◌ (among_before days n d h) (among_day (event_number days n) n (day_in days n) d h)
    ∙ elim (cases_eq d n) [
      | inl e ↦ rw e (here (lies_in (day_in days n) h))
      | inr e ↦ elsewhere (lies_in (day_in days d) h) (lies_in (day_in days n) h) e
    ]
  where
    here : (b : Bool) → ((ltb n n && b) || (eqb n n && b)) ≡ (ltb n (suc n) && b)
    here b = grind (arith, nat_tests)

    elsewhere : (b c : Bool) → (d ≡ n → ⊥) → ((ltb d n && b) || (eqb n d && c)) ≡ (ltb d (suc n) && b)
    elsewhere b c e = grind (arith, nat_tests)

-- an hour of the summer is an hour of a standing event just where it lies in the event that stands on its day
pub in_event_is : (s : Season) (d h : ℕ) → in_event s d h ≡ (ltb d 76 && lies_in (day_at s d) h)
in_event_is s d h = among_before s.days 76 d h

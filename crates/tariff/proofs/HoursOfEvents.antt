-- The hours of the standing events: each lies in its event, none is left out, and they rise by day and hour.
use Rattle.std.proofs.Common.{◌≡◌, ℕ, zero, suc, ◌+◌, ◌-◌, ◌<◌, ◌≤◌, true, ◌⊎◌, List, [], ◌∷◌, ◌++◌, map, length, get_or, sym, refl, subst, inl, inr, arith}
use Rattle.std.specs.List.{range_with_len, ContainsAt as Has, AllByRecursion}
use Rattle.std.proofs.lemmas.List.FromFn.{length-map-range_with_len, get_or-map-range_with_len}
use Rattle.std.proofs.ByRecursion.{All-append, All-get_or, All-map, All-weaker, has_append_left, has_append_right}
use Rattle.std.proofs.lemmas.Bool.{cases_eq, false≢true}
use Rattle.tariff.specs.Events.{stands, event_of, day_in, event_number, event_hour, hours_on, event_hours_before}
use Rattle.tariff.specs.declared.season.EventHour.{EventHour}
use Rattle.tariff.specs.declared.season.Day.{Day}
use Rattle.tariff.specs.declared.season.Day.TheVariants.{NoEvent, Standing, Revoked}
use Rattle.tariff.proofs.Ranking.{all_counting}

-- ---- the hours of one day

-- an hour of a day's event
pub record On (number d : ℕ) (x : Day) (p : EventHour) : Type 0 where
  pub number_is : p.event ≡ number
  pub day_is : p.day ≡ d
  pub standing_then : stands x ≡ true
  pub begun : (event_of x).start ≤ p.hour
  pub not_over : p.hour < (event_of x).start + (event_of x).length

each_on : (number d : ℕ) (x : Day) → AllByRecursion (On number d x) (hours_on number d x)
each_on number d NoEvent = tt
each_on number d (Standing e) =
    All-map (On number d (Standing e)) (event_hour number d) (range_with_len e.start e.length)
    (all_counting (λ h. On number d (Standing e) (event_hour number d h)) e.start e.length (λ h l m. record { number_is = refl; day_is = refl; standing_then = refl; begun = l; not_over = m }))
each_on number d (Revoked e) = tt

has_on : (number d : ℕ) (x : Day) (h : ℕ) → stands x ≡ true → (event_of x).start ≤ h → h < (event_of x).start + (event_of x).length → Has (hours_on number d x) (event_hour number d h)
has_on number d NoEvent h e l m = absurd (false≢true e)
has_on number d (Standing v) h e l m =
    (h - v.start, omega (arith, length-map-range_with_len (event_hour number d) v.start v.length), λ o. get_or-map-range_with_len (event_hour number d) v.start v.length (h - v.start) h o (omega arith) (omega arith))
has_on number d (Revoked v) h e l m = absurd (false≢true e)

-- one event hour comes before another
abbrev pub Before : EventHour → EventHour → Type 0
Before p q = (p.day < q.day) ⊎ ((p.day ≡ q.day) × (p.hour < q.hour))

abbrev Rising : List EventHour → Type 0
Rising [] = Unit {0}
Rising (p ∷ ps) = AllByRecursion (Before p) ps × Rising ps

rising_append : (ps qs : List EventHour) → Rising ps → Rising qs → AllByRecursion (λ p. AllByRecursion (Before p) qs) ps → Rising (ps ++ qs)
rising_append [] qs a b c = b
rising_append (p ∷ ps) qs a b c = (All-append (Before p) ps qs a.0 c.0, rising_append ps qs a.1 b c.1)

rising_counting : (number d a n : ℕ) → Rising (map (event_hour number d) (range_with_len a n))
rising_counting number d a zero = tt
rising_counting number d a (suc n) = (
  All-map (Before (event_hour number d a)) (event_hour number d) (range_with_len (a + 1) n)
      (all_counting (λ h. Before (event_hour number d a) (event_hour number d h)) (a + 1) n (λ h l m. inr (refl, omega arith))),
  rising_counting number d (a + 1) n,
)

rising_on : (number d : ℕ) (x : Day) → Rising (hours_on number d x)
rising_on number d NoEvent = tt
rising_on number d (Standing e) = rising_counting number d e.start e.length
rising_on number d (Revoked e) = tt

rising_at : (ps : List EventHour) (j k : ℕ) (o : EventHour) → Rising ps → j < k → k < length ps → Before (get_or ps j o) (get_or ps k o)
rising_at [] j k o r l m = let z : ⊥ = omega arith in absurd z
rising_at (p ∷ ps) j zero o r l m = let z : ⊥ = omega arith in absurd z
rising_at (p ∷ ps) zero (suc k) o r l m = All-get_or (Before p) ps k o (omega arith) r.0
rising_at (p ∷ ps) (suc j) (suc k) o r l m = rising_at ps j k o r.1 (omega arith) (omega arith)

-- ---- the hours of the first days

module _ (days : List Day) where
  -- an hour of the event that stands on its day, one of the first n, with the event's number
  abbrev pub Listed : ℕ → EventHour → Type 0
  Listed n p = (p.day < n) × On (event_number days p.day) p.day (day_in days p.day) p

  listed : (n : ℕ) → AllByRecursion (Listed n) (event_hours_before days n)
  unfolding event_hours_before
  listed zero = tt
  listed (suc n) =
      All-append (Listed (suc n)) (event_hours_before days n) (hours_on (event_number days n) n (day_in days n))
      (All-weaker (Listed n) (Listed (suc n)) (λ p h. (omega arith, h.1)) (event_hours_before days n) (listed n))
      (All-weaker (On (event_number days n) n (day_in days n)) (Listed (suc n)) (λ p h. (omega arith, subst (λ (k : ℕ). On (event_number days k) k (day_in days k) p) (sym h.day_is) h)) (hours_on (event_number days n) n (day_in days n)) (each_on (event_number days n) n (day_in days n)))

  pub listed_at : (n k : ℕ) (o : EventHour) → k < length (event_hours_before days n) → Listed n (get_or (event_hours_before days n) k o)
  listed_at n k o l = All-get_or (Listed n) (event_hours_before days n) k o l (listed n)

  pub none_left_out : (n d h : ℕ) → d < n → stands (day_in days d) ≡ true → (event_of (day_in days d)).start ≤ h → h < (event_of (day_in days d)).start + (event_of (day_in days d)).length
      → Has (event_hours_before days n) (event_hour (event_number days d) d h)
  unfolding event_hours_before
  none_left_out zero d h b e l m = let z : ⊥ = omega arith in absurd z
  none_left_out (suc n) d h b e l m =
      elim (cases_eq d n) [
        | inl q ↦ rw (← q) (has_append_right (event_hours_before days d) (hours_on (event_number days d) d (day_in days d)) (event_hour (event_number days d) d h) (has_on (event_number days d) d (day_in days d) h e l m))
        | inr q ↦ has_append_left (event_hours_before days n) (hours_on (event_number days n) n (day_in days n)) (event_hour (event_number days d) d h) (none_left_out n d h (omega arith) e l m)
      ]

  rising_hours : (n : ℕ) → Rising (event_hours_before days n)
  unfolding event_hours_before
  rising_hours zero = tt
  rising_hours (suc n) =
      rising_append (event_hours_before days n) (hours_on (event_number days n) n (day_in days n)) (rising_hours n) (rising_on (event_number days n) n (day_in days n))
      (All-weaker (Listed n) (λ p. AllByRecursion (Before p) (hours_on (event_number days n) n (day_in days n)))
      (λ p h. All-weaker (On (event_number days n) n (day_in days n)) (Before p) (λ q g. inl (omega arith)) (hours_on (event_number days n) n (day_in days n)) (each_on (event_number days n) n (day_in days n)))
      (event_hours_before days n) (listed n))

  pub hours_rise : (n j k : ℕ) (o : EventHour) → j < k → k < length (event_hours_before days n) → Before (get_or (event_hours_before days n) j o) (get_or (event_hours_before days n) k o)
  hours_rise n j k o l m = rising_at (event_hours_before days n) j k o (rising_hours n) l m

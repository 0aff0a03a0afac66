-- The hours of standing events as they are listed: one hour more, one day more, and what is known of each hour.
use Rattle.std.proofs.Common.{◌≡◌, ℕ, zero, suc, ◌+◌, ◌-◌, ◌<◌, ◌≤◌, Bool, true, false, cond, List, [], ◌∷◌, ◌++◌, map, drop, set, replicate, sym, ap, ◌∙◌, inl, inr, add-one, arith}
use Rattle.std.specs.List.{AllByRecursion, range_with_len}
use Rattle.std.proofs.lemmas.List.FromFn.{map-range_with_len_more}
use Rattle.std.proofs.lemmas.List.{append_assoc, drop-drop, drop-set-lt, drop-replicate}
use Rattle.std.proofs.lemmas.Bool.{cases_eq}
use Rattle.tariff.specs.Events.{stands, day_hours, day_in, event_hours_before, hours_before, hours_on, standing_before}
use Rattle.tariff.specs.Season as model
use Rattle.tariff.specs.Sound.{Sound}
use Rattle.tariff.specs.declared.season.Day.{Day}
use Rattle.tariff.specs.declared.season.EventHour.{EventHour}
use Rattle.tariff.proofs.EventHours.{event_hours_more, hours_more, standing_none, standing_more, all_event_hours}
use Rattle.tariff.proofs.Runs.{standing_fit}
use Rattle.season.specs.Hours.{Placed}

-- an entry more is used
pub rest_more : {X : Type 0} (xs : List X) (n : ℕ) (v z : X) → drop n xs ≡ replicate (60 - n) z → drop (n + 1) (set xs n v) ≡ replicate (60 - (n + 1)) z
rest_more xs n v z h =
    drop-set-lt (n + 1) xs n v (omega arith) ∙ sym (drop-drop 1 n xs) ∙ ap (drop 1) h ∙ drop-replicate 1 (60 - n) z ∙ ap (λ k. replicate k z) (omega arith)

-- a list of hours that rise from a first one, one hour on
pub listed_more : {X : Type 0} (f : ℕ → X) (xs ys : List X) (a h : ℕ) → a ≤ h → ys ≡ xs ++ map f (range_with_len a (h - a)) → ys ++ f h ∷ [] ≡ xs ++ map f (range_with_len a (h + 1 - a))
listed_more f xs ys a h le e =
    ap (λ zs. zs ++ f h ∷ []) e ∙ append_assoc xs (map f (range_with_len a (h - a))) (f h ∷ [])
    ∙ ap (λ zs. xs ++ zs) (sym (map-range_with_len_more f a (h - a) h (omega arith)) ∙ ap (λ n. map f (range_with_len a n)) (omega arith))

-- one day more in the list
pub day_listed : (days : List Day) (d n : ℕ) (xs ys : List EventHour) (x : Day) → n ≡ standing_before days d → xs ≡ event_hours_before days d → x ≡ day_in days d → ys ≡ xs ++ hours_on (n + 1) d x → ys ≡ event_hours_before days (d + 1)
day_listed days d n xs ys x numbered so held e = cc (event_hours_more days d)

hours_least : (days : List Day) (m n : ℕ) → m ≤ n → hours_before days m ≤ hours_before days n
hours_least days m zero h = let z : m ≡ 0 = omega arith in rw z (omega arith)
hours_least days m (suc n) h =
    elim (cases_eq m (suc n)) [
      | inl e ↦ rw e (omega arith)
      | inr e ↦
          let step : hours_before days (suc n) ≡ hours_before days n + day_hours (day_in days n) = ap (hours_before days) (sym (add-one n)) ∙ hours_more days n in
          omega (arith, hours_least days m n (omega arith))
    ]

-- there is room for the hours of a day
pub day_room : (days : List Day) (d : ℕ) → d < 76 → hours_before days 76 ≤ 60 → hours_before days d + day_hours (day_in days d) ≤ 60
day_room days d lt full = omega (arith, hours_more days d, hours_least days (d + 1) 76 (omega arith))

standing_few : (days : List Day) (n : ℕ) → standing_before days n ≤ n
standing_few days zero = omega (arith, standing_none days)
standing_few days (suc n) =
    let step = ap (standing_before days) (sym (add-one n)) ∙ standing_more days n in
    let most = cond_most (stands (day_in days n)) in
    omega (arith, standing_few days n)
  where
    cond_most : (b : Bool) → cond b 1 0 ≤ 1
    cond_most true = omega arith
    cond_most false = omega arith

pub all_placed : (s : model.Season) (n : ℕ) → Sound s → n ≤ 76 → AllByRecursion (Placed s) (event_hours_before s.days n)
all_placed s n sound most =
    all_event_hours (Placed s) s.days n (λ d h lt Stood-on from to.
    let f = standing_fit s d sound Stood-on in
    let few = standing_few s.days d in
    record { stands = Stood-on; first = omega arith; last = omega arith; opens = f.opens; ends = f.ends; earliest = omega (arith, f.earliest); latest = omega (arith, f.latest) })

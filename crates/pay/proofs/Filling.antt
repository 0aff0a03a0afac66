-- Arrays of lines that are made place by place.
use Rattle.std.proofs.Common.{◌≡◌, ℕ, zero, suc, ◌+◌, ◌-◌, ◌<◌, ◌≤◌, ◌≢◌, Some, List, [], ◌∷◌, ◌++◌, map, length, get_or, set, replicate, below_more, get_or-set_other, get_or-set_same, subst, sym, refl, ap, ap₂, ◌∙◌, inl, inr, arith}
use lib.ListN.{length-map}
use denote.Param.Members.{Mut, Called}
use Rattle.std.specs.Array.{IsFromFnResultFrom}
use Rattle.std.specs.List.{range_with_len, slice_get}
use Rattle.std.specs.Option.{option_map_or}
use Rattle.std.proofs.lemmas.Bool.{cases_eq, cases_lt}
use Rattle.std.proofs.lemmas.List.{get_or_past, get_or-replicate}
use Rattle.std.proofs.lemmas.Option.{slice_get-get_or, slice_get_past}
use Rattle.std.proofs.lemmas.List.FromFn.{length-map-range_with_len, get_or-map-range_with_len}
use Rattle.tariff.specs.Pay.{filled, priced, no_hour, no_week}
use Rattle.tariff.specs.declared.statement.HourLine.{HourLine}
use Rattle.tariff.specs.declared.statement.WeekLine.{WeekLine}
use Rattle.pay.specs.declared.placed.PlacedHour.{PlacedHour}
use Rattle.pay.specs.Paying.{measured_list, hour_lines_of, week_line_in, week_lines_of}

-- what a closure that stays as it is answers at each place of an array made by its calls
pub calls_at : {F B : Type 0} (g : Mut F (ℕ × Unit {0}) B) (f : F) (R : ℕ → B → Type 0) (keeps : (k : ℕ) (y : B) (q : F) → Called g f (k, tt) y q → (q ≡ f) × R k y) (n i : ℕ) (p : F) (ys : List B) → p ≡ f → IsFromFnResultFrom g p ys i n → (k : ℕ) (d : B) → i ≤ k → k < i + n → R k (get_or ys k d)
calls_at g f R keeps zero i p ys e h k d l m = absurd (omega arith)
calls_at g f R keeps (suc n) i p ys e h k d l m =
    let here = keeps i h.1 h.0 (subst (λ s. Called g s (i, tt) h.1 h.0) e h.3) in
    elim (cases_eq k i) [
      | inl q ↦ rw q (rw (h.2.1 d) here.1)
      | inr q ↦ calls_at g f R keeps n (i + 1) h.0 ys here.0 h.4 k d (omega arith) (omega arith)
    ]

-- a list that holds xs and then z at every place is xs filled by z
filled_is : {A : Type 0} (z : A) (n : ℕ) (xs ys : List A) → length xs ≤ n → length ys ≡ n → ((k : ℕ) → k < n → get_or ys k z ≡ get_or xs k z) → ys ≡ filled z n xs
filled_is z zero [] [] l m h = refl
filled_is z zero [] (y ∷ ys) l m h = absurd (omega arith)
filled_is z zero (x ∷ xs) ys l m h = absurd (omega arith)
filled_is z (suc n) xs [] l m h = absurd (omega arith)
filled_is z (suc n) [] (y ∷ ys) l m h =
    let left : suc (n - 0) ≡ suc n - 0 = omega arith in
    ap₂ ◌∷◌ (h 0 (omega arith)) (filled_is z n [] ys (omega arith) (omega arith) (λ k i. h (suc k) (omega arith))) ∙ ap (λ i. replicate i z) left
filled_is z (suc n) (x ∷ xs) (y ∷ ys) l m h =
    let left : n - length xs ≡ suc n - suc (length xs) = omega arith in
    ap₂ ◌∷◌ (h 0 (omega arith)) (filled_is z n xs ys (omega arith) (omega arith) (λ k i. h (suc k) (omega arith))) ∙ ap (λ i. x ∷ xs ++ replicate i z) left

-- ---- hour lines

abbrev pub line_of : PlacedHour → HourLine
line_of p = priced p.measured

lines_are : (hours : List PlacedHour) → length (hour_lines_of hours) ≡ length hours
unfolding hour_lines_of
lines_are hours = length-map (measured_list hours) priced ∙ length-map hours (λ p. p.measured)

line_at : (hours : List PlacedHour) (k : ℕ) → get_or (hour_lines_of hours) k no_hour ≡ option_map_or line_of (slice_get hours k) no_hour
unfolding hour_lines_of
line_at [] k = refl
line_at (p ∷ hours) zero = refl
line_at (p ∷ hours) (suc k) = line_at hours k

pub hours_filled : (hours : List PlacedHour) (ls : List HourLine) → length hours ≤ 60 → length ls ≡ 60 → ((k : ℕ) → k < 60 → get_or ls k no_hour ≡ option_map_or line_of (slice_get hours k) no_hour) → ls ≡ filled no_hour 60 (hour_lines_of hours)
hours_filled hours ls l m h = filled_is no_hour 60 (hour_lines_of hours) ls (omega (arith, lines_are hours)) m (λ k i. h k i ∙ sym (line_at hours k))

-- the lines of the first n hours are filled in, and the other places are zero
pub record LinesTo (hours : List PlacedHour) (n : ℕ) (ls : List HourLine) : Type 0 where
  pub used : (k : ℕ) → k < n → get_or ls k no_hour ≡ option_map_or line_of (slice_get hours k) no_hour
  pub rest : (k : ℕ) → n ≤ k → k < 60 → get_or ls k no_hour ≡ no_hour

pub lines_none : (hours : List PlacedHour) (z : HourLine) → z ≡ no_hour → LinesTo hours 0 (replicate 60 z)
lines_none hours z is = record { used = λ k l. absurd (omega arith); rest = λ k l m. get_or-replicate 60 k z no_hour m ∙ is }

pub lines_more : (hours : List PlacedHour) (n : ℕ) (ls : List HourLine) (y : HourLine) (p : PlacedHour) → n < length hours → n < length ls → p ≡ get_or hours n p → y ≡ line_of p → LinesTo hours n ls → LinesTo hours (n + 1) (set ls n y)
lines_more hours n ls y p l m at is so =
    record {
      used =
          below_more _ _
          (λ k h. let ne : k ≢ n = omega arith in rw get_or-set_other (so.used k h))
          (rw get_or-set_same (is ∙ sym (ap (λ o. option_map_or line_of o no_hour) (slice_get-get_or hours n p l ∙ ap Some (sym at)))));
      rest = λ k h m. let ne : k ≢ n = omega arith in rw get_or-set_other (so.rest k (omega arith) m);
    }

pub lines_all : (hours : List PlacedHour) (n : ℕ) (ls : List HourLine) → length hours ≤ n → LinesTo hours n ls → (k : ℕ) → k < 60 → get_or ls k no_hour ≡ option_map_or line_of (slice_get hours k) no_hour
lines_all hours n ls past so k m =
    elim (cases_lt k n) [
      | inl q ↦ so.used k q
      | inr q ↦ so.rest k q m ∙ sym (ap (λ o. option_map_or line_of o no_hour) (slice_get_past hours k (omega arith)))
    ]

-- ---- week lines

pub weeks_filled : (nominations days : List ℕ) (last : ℕ) (hours : List PlacedHour) (ls : List WeekLine) → last ≤ 10 → length ls ≡ 10 → ((k : ℕ) → k < last → get_or ls k no_week ≡ week_line_in nominations days hours (k + 1)) → ((k : ℕ) → last ≤ k → k < 10 → get_or ls k no_week ≡ no_week) → ls ≡ filled no_week 10 (week_lines_of nominations days last hours)
unfolding week_lines_of
weeks_filled nominations days last hours ls l m used rest =
    let f : ℕ → WeekLine = week_line_in nominations days hours in
    let xs : List WeekLine = map f (range_with_len 1 last) in
    let long : length xs ≡ last = length-map-range_with_len f 1 last in
    filled_is no_week 10 xs ls (omega arith) m (λ k i.
    elim (cases_lt k last) [
      | inl q ↦ used k q ∙ sym (get_or-map-range_with_len f 1 last k (k + 1) no_week q (omega arith))
      | inr q ↦ rest k q i ∙ sym (get_or_past xs k no_week (omega arith))
    ])

-- Counts and sums over the days of a summer, as they are told by the first days.
use Rattle.std.proofs.Common.{◌≡◌, ℕ, zero, suc, ◌+◌, ◌≤◌, Bool, cond, List, [], ◌∷◌, length, filter, take, sym, refl, ap, ◌∙◌, add-one, arith}
use Rattle.std.specs.List.{sum_by, count_by, range_with_len}
use Rattle.std.proofs.lemmas.List.{take_more, take_all}
use Rattle.std.proofs.lemmas.Bool.{cond_both}
use Rattle.std.proofs.lemmas.List.Sums.{sum_by_push, sum_by-cons}
use Rattle.tariff.specs.Calendar.{in_week}
use Rattle.tariff.specs.Counting.{total}
use Rattle.tariff.specs.Events.{announced, stands, day_hours, day_in, announced_before, standing_before, hours_before, week_hours_before}
use Rattle.tariff.specs.declared.season.Day.{Day}
use Rattle.tariff.specs.declared.season.Day.TheVariants.{NoEvent}
use Rattle.tariff.proofs.EventHours.{hours_total, week_hours_total}
use Rattle.tariff.proofs.HistoryTotals.{announced_over, standing_over}
use Rattle.tariff.proofs.Summing.{range_total}

first_days : (f : Day → ℕ) (days : List Day) (n : ℕ) → n ≤ length days → sum_by f (take n days) ≡ total (λ d. f (day_in days d)) n
unfolding total
first_days f days zero h = refl
first_days f days (suc n) h =
    ap (λ k. sum_by f (take k days)) (sym (add-one n)) ∙ ap (sum_by f) (take_more days n NoEvent (omega arith))
    ∙ sum_by_push f (take n days) (day_in days n) ∙ ap (λ k. k + f (day_in days n)) (first_days f days n (omega arith))

all_days : (f : Day → ℕ) (days : List Day) → sum_by f days ≡ total (λ d. f (day_in days d)) (length days)
all_days f days = ap (sum_by f) (sym (take_all (length days) days (omega arith))) ∙ first_days f days (length days) (omega arith)

pub announced_in : (days : List Day) → count_by announced days ≡ announced_before days (length days)
announced_in days = all_days (λ x. cond (announced x) 1 0) days ∙ sym (announced_over days (length days))

pub standing_in : (days : List Day) (n : ℕ) → n ≤ length days → count_by stands (take n days) ≡ standing_before days n
standing_in days n h = first_days (λ x. cond (stands x) 1 0) days n h ∙ sym (standing_over days n)

pub hours_in : (days : List Day) → sum_by day_hours days ≡ hours_before days (length days)
hours_in days = all_days day_hours days ∙ sym (hours_total days (length days))

-- a sum over those that a test keeps
sum_kept : (f : ℕ → ℕ) (p : ℕ → Bool) (ks : List ℕ) → sum_by f (filter p ks) ≡ sum_by (λ k. cond (p k) (f k) 0) ks
sum_kept f p [] = refl
sum_kept f p (k ∷ ks) =
    let g : ℕ → ℕ = λ j. cond (p j) (f j) 0 in
    let more = sum_by-cons g k ks in
    let ih = sum_kept f p ks in
    cond_both (p k) (k ∷ filter p ks) (filter p ks) (λ xs. sum_by f xs ≡ sum_by g (k ∷ ks))
    (λ e. let one : g k ≡ f k = ap (λ (b : Bool). cond b (f k) 0) e in omega (arith, sum_by-cons f k (filter p ks), more, one, ih))
    (λ e. let none : g k ≡ 0 = ap (λ (b : Bool). cond b (f k) 0) e in omega (arith, more, none, ih))

pub week_hours_in : (year week : ℕ) (days : List Day) (n : ℕ) → sum_by (λ d. day_hours (day_in days d)) (filter (in_week year week) (range_with_len 0 n)) ≡ week_hours_before year week days n
week_hours_in year week days n =
    let hours : ℕ → ℕ = λ d. day_hours (day_in days d) in
    sum_kept hours (in_week year week) (range_with_len 0 n) ∙ range_total (λ d. cond (in_week year week d) (hours d) 0) n
    ∙ sym (week_hours_total year week days n)

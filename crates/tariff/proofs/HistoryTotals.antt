-- Totals of the days of a summer, of which one day is written anew.
use Rattle.std.proofs.Common.{◌≡◌, ℕ, zero, suc, ◌+◌, ◌<◌, Bool, cond, List, length, set, replicate, refl, ap, ◌∙◌, inl, inr, arith, get_or-set_other, get_or-set_same}
use Rattle.std.proofs.lemmas.Bool.{cases_eq}
use Rattle.tariff.specs.Counting.{count, total}
use Rattle.tariff.specs.Events.{announced, stands, day_in, announced_before, standing_before}
use Rattle.tariff.specs.declared.season.Day.{Day}
use Rattle.tariff.specs.declared.season.Day.TheVariants.{NoEvent}
use Rattle.tariff.proofs.Pointwise.{replicate_at}
use Rattle.tariff.proofs.Summing.{total_same}
use Rattle.tariff.proofs.Totals.{total_none}

-- a total over the days of a summer
abbrev pub over : (Day → ℕ) → List Day → ℕ → ℕ
over f days n = total (λ d. f (day_in days d)) n

abbrev pub one_if : (Day → Bool) → Day → ℕ
one_if p day = cond (p day) 1 0

pub count_total : (p : ℕ → Bool) (n : ℕ) → count p n ≡ total (λ d. cond (p d) 1 0) n
unfolding count total
count_total p zero = refl
count_total p (suc n) = ap (λ k. k + cond (p n) 1 0) (count_total p n)

pub announced_over : (days : List Day) (n : ℕ) → announced_before days n ≡ over (one_if announced) days n
unfolding announced_before
announced_over days n = count_total (λ d. announced (day_in days d)) n

pub standing_over : (days : List Day) (n : ℕ) → standing_before days n ≡ over (one_if stands) days n
unfolding standing_before
standing_over days n = count_total (λ d. stands (day_in days d)) n

-- two totals that agree everywhere but at one place
total_but_one : (f g : ℕ → ℕ) (k n : ℕ) → k < n → ((d : ℕ) → (d ≡ k → ⊥) → f d ≡ g d) → total f n + g k ≡ total g n + f k
unfolding total
total_but_one f g k zero l h = let z : ⊥ = omega arith in absurd z
total_but_one f g k (suc n) l h =
    elim (cases_eq n k) [
      | inl e ↦
          let here : total f n + f n + g n ≡ total g n + g n + f n = omega (arith, total_same f g n (λ d b. h d (λ q. omega arith))) in
          rw (← e) here
      | inr e ↦ omega (arith, total_but_one f g k n (omega arith) h, h n e)
    ]

module _ (f : Day → ℕ) (days : List Day) (k n : ℕ) (day : Day) (in' : k < length days) (l : k < n) where
  -- what a total gains by a day written anew, and what it loses
  pub over_set : over f (set days k day) n + f (day_in days k) ≡ over f days n + f day
  over_set =
      let gain = total_but_one (λ d. f (day_in (set days k day) d)) (λ d. f (day_in days d)) k n l
      (λ d q. ap f (get_or-set_other days k d day NoEvent q)) in
      let own : f (day_in (set days k day) k) ≡ f day = ap f (get_or-set_same days k day NoEvent in') in
      omega (arith, gain, own)

pub over_none : (f : Day → ℕ) (k n : ℕ) → f NoEvent ≡ 0 → over f (replicate k NoEvent) n ≡ 0
over_none f k n h = total_none (λ d. f (day_in (replicate k NoEvent) d)) n (λ d. ap f (replicate_at NoEvent k d) ∙ h)

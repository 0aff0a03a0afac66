-- What a call leaves: the season as it was, or the new one, and then no check refused it.
use Rattle.std.proofs.Common.{◌≡◌, Bool, true, false, cond, List, [], ◌∷◌, Ok, Err, Result, refl}
use Rattle.std.specs.List.{AllByRecursion}
use Rattle.tariff.specs.Season.{Season}
use Rattle.tariff.specs.Calls.{Check, checked, as_answer, after, after_taken}
use Rattle.tariff.specs.declared.call.Call.{Call}
use Rattle.tariff.specs.declared.call.Answer.{Answer}
use Rattle.tariff.specs.declared.call.SeasonRefusal.{SeasonRefusal}

-- no check refuses
abbrev pub Passed : List Check → Type 0
Passed = AllByRecursion (λ (c : Check). c.0 ≡ false)

pub kept : {A : Type 0} (P : Season → Type 0) (s : Season) (c : Call) (f : A → Answer) (cs : List Check) (a : A)
    → P s → (Passed cs → P (after_taken s c (f a))) → P (after s c (as_answer f (checked cs a)))
kept P s c f [] a before then = then tt
kept {A = A} P s c f (k ∷ cs) a before then = at k.0 (λ e. kept P s c f cs a before (λ passed. then (e, passed)))
  where
    at : (b : Bool) → (b ≡ false → P (after s c (as_answer f (checked cs a)))) → P (after s c (as_answer {A = A} f (cond b (Err k.1) (checked cs a))))
    at true g = before
    at false g = g refl

-- a call that gets one answer in two seasons leaves seasons that are related, if the old ones are, and the new ones for any answer
pub kept_both : (R : Season → Season → Type 0) (s t : Season) (c : Call) (a b : Result Answer SeasonRefusal)
    → a ≡ b → R s t → ((x : Answer) → R (after_taken s c x) (after_taken t c x)) → R (after s c a) (after t c b)
kept_both R s t c a b e before then =
    rw (← e) (elim a as (λ r. R (after s c r) (after t c r)) [ Ok x ↦ then x | Err r ↦ before ])

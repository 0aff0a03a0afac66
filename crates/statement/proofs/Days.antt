-- Days before a day of the summer are days of the summer.
use Rattle.std.proofs.Common.{◌≡◌, ℕ, ◌<◌, ◌≤◌, true, leb, List, [], ◌∷◌, IsSome, IfSome, MatchOption, Some, None, Option, refl, ◌∙◌, arith}
use Rattle.std.specs.Option.{option_map}
use Rattle.std.specs.List.{AllByRecursion}
use Rattle.std.proofs.lemmas.Bool.{and_from, cond-true, le-leb}
use Rattle.baseline.specs.Days.{within_summer, days_taken}

before_within : (d : ℕ) (days : List ℕ) → d ≤ 75 → AllByRecursion (λ k. k < d) days → within_summer days ≡ true
before_within d [] h b = refl
before_within d (k ∷ days) h b =
    let l : k < d = b.0 in
    and_from (leb k 75) (within_summer days) (le-leb k 75 (omega arith)) (before_within d days h b.1)

-- such days are taken
taken_before : {X : Type 0} (f : X → List ℕ) (r : Option X) (d : ℕ) (days : List ℕ) → AllByRecursion (λ k. k < d) days → d ≤ 75 → option_map f r ≡ days_taken days → IsSome r
taken_before f (Some x) d days b h e = refl
taken_before f None d days b h e =
    let z : ◌≡◌ {A = ℕ} 0 1 = (let none = e ∙ cond-true (within_summer days) (Some days) None (before_within d days h b) in cc) in absurd (omega arith)

-- and so they are where they were found first
pub taken_found : {X : Type 0} (f : X → List ℕ) (o : Option (List ℕ)) (r : Option X) (d : ℕ) (found : List ℕ) → o ≡ Some found → IfSome o (λ days. AllByRecursion (λ k. k < d) days × (d ≤ 75)) → MatchOption o (r ≡ None) (λ days. option_map f r ≡ days_taken days) → IsSome r
taken_found f None r d found is h e = let z : ◌≡◌ {A = ℕ} 0 1 = cc in absurd (omega arith)
taken_found f (Some days) r d found is h e = taken_before f r d days h.0 h.1 e

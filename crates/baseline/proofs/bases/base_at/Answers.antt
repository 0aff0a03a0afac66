use Rattle.std.proofs.Common.{◌≡◌, ℕ, ◌+◌, List, [], ◌∷◌, length, get_or, refl, ap, ◌∙◌, arith, rules}
use Rattle.baseline.specs.Sums.{load_at, sum_at}
use Rattle.baseline.proofs.bases.base_at.Goals as goal

three_of : {X : Type 0} (d : X) (xs : List X) → length xs ≡ 3 → get_or xs 0 d ∷ get_or xs 1 d ∷ get_or xs 2 d ∷ [] ≡ xs
three_of d [] h = absurd (omega arith)
three_of d (a ∷ []) h = absurd (omega arith)
three_of d (a ∷ b ∷ []) h = absurd (omega arith)
three_of d (a ∷ b ∷ c ∷ []) h = refl
three_of d (a ∷ b ∷ c ∷ e ∷ xs) h = absurd (omega arith)

pub returns-clause-value : goal.returns-clause-value
unfolding sum_at
returns-clause-value c =
    let days = c.args.days.now in
    let places = c.args.places in
    let hour = c.args.hour in
    let long : length places ≡ 3 = search rules in
    let f : ℕ → ℕ = λ k. load_at days hour (get_or places k 0) in
    let first : c.from.result ≡ f 0 = search rules in
    let second : c.from-2.result ≡ f 1 = search rules in
    let third : c.from-3.result ≡ f 2 = search rules in
    let sum : c.from.result + c.from-2.result + c.from-3.result ≡ 0 + f 0 + f 1 + f 2 = omega arith in
    sum ∙ ap (λ ps. sum_at days ps hour) (three_of 0 places long)

-- What comes of settling one site on two meters.
use Rattle.std.specs.Prelude.{ℕ, IfOk, Ok, Err, Result}
use Rattle.tariff.specs.Season.{Season}
use Rattle.tariff.specs.Statement.{Outcome, outcome}
use Rattle.tariff.specs.Tables.{Table}
use Rattle.tariff.specs.declared.statement.Statement.{Statement}
use Rattle.tariff.specs.declared.statement.StatementRefusal.{StatementRefusal}
use Rattle.statement.specs.declared.both.TwoStatements.{TwoStatements}

abbrev pub Outcomes : Type 0
Outcomes = Result TwoStatements StatementRefusal

-- both statements with their number of event hours, or the first refusal: the first meter's before the second's
abbrev pub both_of : Outcome → Outcome → Outcomes
both_of (Err r) second = Err r
both_of (Ok x) (Err r) = Err r
both_of (Ok x) (Ok y) = Ok (record { first = x.0; second = y.0; hours = x.1 })

-- what comes of settling site i on a first table and then on a second
abbrev pub outcome_of_both : Season → ℕ → Table → Table → Outcomes
outcome_of_both s i t u = both_of (outcome s i t) (outcome s i u)

-- the number of event hours, or the refusal
abbrev pub hours_of_both : Outcomes → Result ℕ StatementRefusal
hours_of_both (Ok b) = Ok b.hours
hours_of_both (Err r) = Err r

-- what the callers' records hold afterwards: the statements, or what they held
abbrev pub first_after : Statement → Outcomes → Statement
first_after old (Ok b) = b.first
first_after old (Err r) = old

abbrev pub second_after : Statement → Outcomes → Statement
second_after old (Ok b) = b.second
second_after old (Err r) = old

-- where both were answered, their statements compare so
abbrev pub WrittenSo : (Statement → Statement → Type 0) → Outcomes → Type 0
WrittenSo P r = IfOk r (λ b. P b.first b.second)

-- The kinds of a site.
use Rattle.std.specs.Prelude.{ℕ, cond, ◌==◌, Ok, Err, Result}
use Rattle.tariff.specs.declared.call.SeasonRefusal.{SeasonRefusal}
use Rattle.tariff.specs.declared.call.SeasonRefusal.TheVariants.{NoSuchKind}
use Rattle.tariff.specs.declared.season.Kind.{Kind}
use Rattle.tariff.specs.declared.season.Kind.TheVariants.{Single, Aggregated}

-- 0 for a single site, 1 for an aggregated one
abbrev pub kind_number : Kind → ℕ
kind_number Single = 0
kind_number Aggregated = 1

-- the kind that a number stands for; asked only of 0 and 1, since an enrolment refuses any other number
abbrev pub kind_of : ℕ → Kind
kind_of k = cond (k == 0) Single Aggregated

-- the kind of a number, or the refusal of an enrolment that gives another number
abbrev pub kind_numbered : ℕ → Result Kind SeasonRefusal
kind_numbered k = cond (k == 0) (Ok Single) (cond (k == 1) (Ok Aggregated) (Err NoSuchKind))

-- the least nomination of a site of a kind, in kW
abbrev pub least_kw : Kind → ℕ
least_kw Single = 20
least_kw Aggregated = 35

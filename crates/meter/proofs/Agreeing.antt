-- Tables that agree on the summer and have the one fixed value elsewhere are equal.
use Rattle.std.proofs.Common.{◌≤◌, leb, sym, ◌∙◌, inl, inr, arith}
use mathlib.Core.Path.{fun_ext}
use Rattle.std.proofs.lemmas.Bool.{cases_Bool, and_parts, leb-true}
use Rattle.tariff.specs.Tables.{in_summer}
use Rattle.meter.specs.Meaning.{AgreeingMetersMeanTheSame}

pub agreeing : AgreeingMetersMeanTheSame
agreeing t u t-spans u-spans same =
    fun_ext (λ d.
    fun_ext (λ h.
    elim (cases_Bool (in_summer d h)) [
      | inl e ↦
          let p = and_parts (leb d 75) (leb h 23) e in
          let day : d ≤ 75 = leb-true d 75 p.0 in
          let hour : h ≤ 23 = leb-true h 23 p.1 in
          same d h (omega arith) (omega arith)
      | inr e ↦ t-spans d h e ∙ sym (u-spans d h e)
    ]))

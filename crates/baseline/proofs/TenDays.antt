-- Several days, read from the last to the first.
use Rattle.std.proofs.Common.{◌≡◌, ℕ, suc, ◌<◌, ◌≤◌, List, [], map, reverse, length, get_or, set, Some, None, Ok, Err, Option, Result, sym, refl, ap, ◌∙◌, subst, ⊎_elim, arith, get_or-set_other, get_or-set_same}
use lib.ListN.{length-map}
use Rattle.std.proofs.lemmas.List.{ext_get_or, get_or-map}
use Rattle.std.proofs.lemmas.Bool.{cases_eq}
use Rattle.tariff.specs.Tables.{Table}
use Rattle.tariff.specs.Faults.{first_some, day_fault, comparison_fault}
use Rattle.tariff.specs.declared.fault.Use.{Use}
use Rattle.tariff.specs.declared.fault.Use.TheVariants.{Comparison}
use Rattle.tariff.specs.declared.fault.BaselineFault.{BaselineFault}
use Rattle.baseline.specs.Days.{Small, fault_or, day_loads, day_read, days_read}
use Rattle.baseline.proofs.FirstSome.{none_in_reverse, first_in_reverse}

-- what is known of one place that was read
pub record Got (t : Table) (days : List ℕ) (read : List (List ℕ)) (k : ℕ) : Type 0 where
  pub loads : get_or read k [] ≡ day_loads t (get_or days k 0)
  pub whole : day_fault t Comparison (get_or days k 0) ≡ None
  pub small : Small (get_or read k [])

-- what an answer says of the gap
pub fault_none : {A : Type 0} (o : Option BaselineFault) (a x : A) → Ok x ≡ fault_or o a → (o ≡ None) × (x ≡ a)
fault_none (Some f) a x e = let z : ◌≡◌ {A = ℕ} 0 1 = cc in absurd (omega arith)
fault_none None a x e = (refl, cc)

pub fault_some : {A : Type 0} (o : Option BaselineFault) (a : A) (f : BaselineFault) → Err f ≡ fault_or o a → o ≡ Some f
fault_some (Some x) a f e = cc
fault_some None a f e = let z : ◌≡◌ {A = ℕ} 0 1 = cc in absurd (omega arith)

pub read_whole : (t : Table) (u : Use) (d : ℕ) (loads : List ℕ) → Ok loads ≡ day_read t u d → (day_fault t u d ≡ None) × (loads ≡ day_loads t d)
unfolding day_read
read_whole t u d loads e = fault_none (day_fault t u d) (day_loads t d) loads e

pub read_gap : (t : Table) (u : Use) (d : ℕ) (f : BaselineFault) → Err f ≡ day_read t u d → day_fault t u d ≡ Some f
unfolding day_read
read_gap t u d f e = fault_some (day_fault t u d) (day_loads t d) f e

-- what a meter answered holds of a table that it kept
pub read_of : (s t : Table) (u : Use) (d : ℕ) (r : Result (List ℕ) BaselineFault) → s ≡ t → r ≡ day_read s u d → r ≡ day_read t u d
read_of s t u d r kept e = e ∙ ap (λ (v : Table). day_read v u d) kept

-- one place more
pub got_more : (t : Table) (days : List ℕ) (read : List (List ℕ)) (i : ℕ) (loads : List ℕ) → i < length read → Ok loads ≡ day_read t Comparison (get_or days i 0) → Small loads → ((k : ℕ) → suc i ≤ k → k < 10 → Got t days read k) → (k : ℕ) → i ≤ k → k < 10 → Got t days (set read i loads) k
got_more t days read i loads within e small rest k l h =
    let here : Got t days (set read i loads) i =
    (let same = get_or-set_same read i loads [] within in
    let w = read_whole t Comparison (get_or days i 0) loads e in
    record { loads = same ∙ w.1; whole = w.0; small = subst Small (sym same) small }) in
    ⊎_elim
    (λ e₁. subst (λ (j : ℕ). Got t days (set read i loads) j) (sym e₁) here)
    (λ ne.
    let r = rest k (omega (arith, ne)) h in
    let same = get_or-set_other read i k loads [] ne in
    record { loads = same ∙ r.loads; whole = r.whole; small = subst Small (sym same) r.small })
    (cases_eq k i)

pub days_whole : (t : Table) (days : List ℕ) (read : List (List ℕ)) → length days ≡ 10 → length read ≡ 10 → ((k : ℕ) → k < 10 → Got t days read k) → Ok read ≡ days_read t days
unfolding days_read comparison_fault
days_whole t days read long same got =
    let all : read ≡ map (day_loads t) days = ext_get_or [] read (map (day_loads t) days) (omega (arith, length-map days (day_loads t))) (λ k h. (got k (omega arith)).loads ∙ sym (get_or-map (day_loads t) days k 0 [] (omega arith))) in
    let none : first_some (day_fault t Comparison) (reverse days) ≡ None = none_in_reverse (day_fault t Comparison) 0 days (λ k h. (got k (omega arith)).whole) in
    ap Ok all ∙ ap (λ o. fault_or o (map (day_loads t) days)) (sym none)

pub days_gap : (t : Table) (days : List ℕ) (read : List (List ℕ)) (i : ℕ) (f : BaselineFault) → length days ≡ 10 → i < 10 → ((k : ℕ) → i < k → k < 10 → Got t days read k) → Err f ≡ day_read t Comparison (get_or days i 0) → Err f ≡ days_read t days
unfolding days_read comparison_fault
days_gap t days read i f long within got e =
    let first : first_some (day_fault t Comparison) (reverse days) ≡ Some f = first_in_reverse (day_fault t Comparison) 0 days i f (omega arith) (λ k h l. (got k h (omega arith)).whole) (read_gap t Comparison (get_or days i 0) f e) in
    ap (λ o. fault_or o (map (day_loads t) days)) (sym first)

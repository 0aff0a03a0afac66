-- A day that is read hour by hour.
use Rattle.std.proofs.Common.{◌≡◌, ℕ, ◌<◌, List, length, get_or, Some, None, Ok, Err, Option, Result, sym, ap, ◌∙◌, arith}
use Rattle.std.proofs.lemmas.List.FromFn.{fill_by_all}
use Rattle.tariff.specs.Tables.{Table, load, load_of, Reading}
use Rattle.tariff.specs.Faults.{day_fault, hour_fault}
use Rattle.tariff.specs.declared.fault.Use.{Use}
use Rattle.tariff.specs.declared.fault.BaselineFault.{BaselineFault}
use Rattle.tariff.specs.declared.fault.BaselineFault.TheVariants.{HourWithoutLoad}
use Rattle.tariff.specs.declared.fault.HourGap.{HourGap}
use Rattle.baseline.specs.Days.{day_loads, day_read, fault_or, hour_read}
use Rattle.baseline.proofs.FirstSome.{none_counted, first_counted}

-- what was read so far of a day: a load at each hour
abbrev pub Read : Table → ℕ → ℕ → List ℕ → Type 0
Read t d n loads = (k : ℕ) → k < n → t d k ≡ Ok (get_or loads k 0)

no_gap : (u : Use) (d h : ℕ) (r : Reading) (w : ℕ) → r ≡ Ok w → hour_fault u d h r ≡ None
no_gap u d h r w e = ap (hour_fault u d h) e

a_gap : (u : Use) (d h : ℕ) (r : Reading) (x : HourGap) → hour_read u d h r ≡ Err x → hour_fault u d h r ≡ Some (HourWithoutLoad x)
a_gap u d h (Ok w) x e = let z : ◌≡◌ {A = ℕ} 0 1 = cc in absurd (omega arith)
a_gap u d h (Err g) x e = cc

-- what a meter answered holds of a table that it kept
pub asked_of : (s t : Table) (u : Use) (d h : ℕ) (r : Result ℕ HourGap) → s ≡ t → r ≡ hour_read u d h (s d h) → hour_read u d h (t d h) ≡ r
asked_of s t u d h r kept e = ap (λ (v : Table). hour_read u d h (v d h)) (sym kept) ∙ sym e

gap_at : Table → Use → ℕ → ℕ → Option BaselineFault
gap_at t u d h = hour_fault u d h (t d h)

pub day_fault_none : (t : Table) (u : Use) (d : ℕ) (loads : List ℕ) → Read t d 24 loads → day_fault t u d ≡ None
unfolding day_fault gap_at
day_fault_none t u d loads read =
    none_counted (gap_at t u d) 24 (λ k l. no_gap u d k (t d k) (get_or loads k 0) (read k l))

pub day_fault_some : (t : Table) (u : Use) (d h : ℕ) (loads : List ℕ) (x : HourGap) → h < 24 → Read t d h loads → hour_read u d h (t d h) ≡ Err x → day_fault t u d ≡ Some (HourWithoutLoad x)
unfolding day_fault gap_at
day_fault_some t u d h loads x l read e =
    first_counted (gap_at t u d) 24 h (HourWithoutLoad x) l (λ k m. no_gap u d k (t d k) (get_or loads k 0) (read k m)) (a_gap u d h (t d h) x e)

pub day_loads_are : (t : Table) (d : ℕ) (loads : List ℕ) → length loads ≡ 24 → Read t d 24 loads → loads ≡ day_loads t d
unfolding day_loads
day_loads_are t d loads long read = fill_by_all (load t d) loads 24 0 long (λ k l. sym (ap load_of (read k l)))

pub day_read_whole : (t : Table) (u : Use) (d : ℕ) (loads : List ℕ) → length loads ≡ 24 → Read t d 24 loads → Ok loads ≡ day_read t u d
unfolding day_read
day_read_whole t u d loads long read =
    ap Ok (day_loads_are t d loads long read) ∙ ap (λ o. fault_or o (day_loads t d)) (sym (day_fault_none t u d loads read))

pub day_read_gap : (t : Table) (u : Use) (d h : ℕ) (loads : List ℕ) (x : HourGap) → h < 24 → Read t d h loads → hour_read u d h (t d h) ≡ Err x → Err (HourWithoutLoad x) ≡ day_read t u d
unfolding day_read
day_read_gap t u d h loads x l read e = ap (λ o. fault_or o (day_loads t d)) (sym (day_fault_some t u d h loads x l read e))

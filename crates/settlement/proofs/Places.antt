-- The meters of a list, by their places.
use Rattle.std.proofs.Common.{◌≡◌, ℕ, zero, suc, ◌-◌, ◌<◌, ◌≤◌, cond, eqb, List, length, get_or, take, Some, None, Ok, Err, IfOk, IfErr, Option, Result, sym, refl, ap, ◌∙◌, inl, inr, arith}
use mathlib.Core.Path.{fun_ext}
use native.Mathlib.Nat.{sub-zero}
use Rattle.std.proofs.lemmas.List.{get_or_read, get_or-take, length-take-le}
use Rattle.std.proofs.lemmas.Bool.{cases_eq, cond-true, cond-false, eq-eqb, ne_eqb}
use Rattle.tariff.specs.Tables.{Table}
use Rattle.settlement.specs.Chosen.{chosen_table}
use Rattle.settlement.specs.declared.chosen.ChosenMeter.{ChosenMeter}
use Rattle.settlement.specs.Choosing.{ChosenFor, PlacesMeanTheirMeters, no_meter, table_after, table_among, table_at}
use Rattle.settlement.specs.declared.fault.RunFault.{RunFault}
use Rattle.settlement.specs.declared.fault.RunFault.TheVariants.{NoSuchMeter, NoMemory}
use Rattle.settlement.specs.declared.results.ReadMeter.{ReadMeter}

-- past the first n meters there is none
pub none_past : (ms : List ReadMeter) (n place : ℕ) → n ≤ place → table_among ms n place ≡ None
unfolding table_among
none_past ms zero place h = refl
none_past ms (suc n) place h =
    cond-false (eqb place n) _ _ (ne_eqb place n (λ e. omega arith)) ∙ none_past ms n place (omega arith)

-- a place has the same meter, however many meters stand behind it
found_among : (ms : List ReadMeter) (n place : ℕ) → place < n → table_among ms n place ≡ table_after (table_among ms place) (get_or ms place no_meter)
unfolding table_among
found_among ms zero place h = let z : ⊥ = omega arith in absurd z
found_among ms (suc n) place h =
    elim (cases_eq place n) [
      | inl e ↦ cond-true (eqb place n) _ _ (eq-eqb place n e) ∙ ap (λ k. table_after (table_among ms k) (get_or ms k no_meter)) (sym e)
      | inr ne ↦ cond-false (eqb place n) _ _ (ne_eqb place n ne) ∙ found_among ms n place (omega arith)
    ]

-- the first meters stand for themselves
among_front : (ms : List ReadMeter) (p n : ℕ) → n ≤ p → table_among (take p ms) n ≡ table_among ms n
unfolding table_among
among_front ms p zero h = refl
among_front ms p (suc n) h =
    let before = among_front ms p n (omega arith) in
    let here : get_or (take p ms) n no_meter ≡ get_or ms n no_meter = get_or-take p ms n no_meter (omega arith) in
    fun_ext (λ q.
    ap (λ (f : ℕ → Option Table). cond (eqb q n) (table_after f (get_or (take p ms) n no_meter)) (f q)) before
    ∙ ap (λ (m : ReadMeter). cond (eqb q n) (table_after (table_among ms n) m) (table_among ms n q)) here)

pub place_means : (ms : List ReadMeter) (place : ℕ) → place < length ms → table_at ms place ≡ table_after (table_at (take place ms)) (get_or ms place no_meter)
place_means ms place lt =
    let long : length (take place ms) ≡ place = length-take-le place ms (omega arith) in
    let front : table_at (take place ms) ≡ table_among ms place =
    ap (table_among (take place ms)) long ∙ among_front ms place place (omega arith) in
    found_among ms (length ms) place lt ∙ ap (λ (f : ℕ → Option Table). table_after f (get_or ms place no_meter)) (sym front)

pub places_mean : PlacesMeanTheirMeters
places_mean ms place = (place_means ms place, none_past ms (length ms) place)

-- a meter's table, with those of the meters before it
pub at_place : (ms : List ReadMeter) (place : ℕ) (m n : ReadMeter) → place < length ms → m ≡ get_or ms place m → m ≡ n → table_at ms place ≡ table_after (table_at (take (place - 0) ms)) n
at_place ms place m n lt is e =
    place_means ms place lt
    ∙ ap (table_after (table_at (take place ms))) (sym (get_or_read ms place m lt is no_meter) ∙ e)
    ∙ ap (λ k. table_after (table_at (take k ms)) n) (sym (sub-zero place))

-- what was chosen of a pair's two is what stands at the pair's place
pub pair_chosen : (t u : Option Table) (r : Result ChosenMeter RunFault) → t ≡ u → IfOk r (λ m. u ≡ Some (chosen_table m)) → IfErr r (λ e. ChosenFor u (Err e)) → ChosenFor t r
pair_chosen t u (Ok m) is chosen refused = is ∙ chosen
pair_chosen t u (Err NoSuchMeter) is chosen refused = is ∙ refused
pair_chosen t u (Err NoMemory) is chosen refused = tt

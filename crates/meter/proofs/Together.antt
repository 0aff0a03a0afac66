-- The cells of an hour together, one more at a time.
use Rattle.std.proofs.Common.{◌≡◌, ℕ, zero, suc, ◌+◌, ◌-◌, ◌*◌, ◌^◌, ◌<◌, ◌≤◌, min, List, length, get_or, slice_range, drop, Some, None, Option, sym, ap, ◌∙◌, subst, refl, inl, inr, arith}
use native.Mathlib.Numerals.{unary_clauses}
use Rattle.std.proofs.lemmas.Bool.{cases_lt}
use Rattle.std.proofs.lemmas.Bool.Decides.{nat_tests}
use Rattle.std.proofs.lemmas.List.{get_or-take, get_or-drop}
use Rattle.meter.specs.Cells.{both, held, together}

pub held_past : (limit : ℕ) (cells : List ℕ) (k : ℕ) → length cells ≤ k → held limit cells k ≡ None
held_past limit cells k l = grind (arith, nat_tests)

pub held_above : (limit : ℕ) (cells : List ℕ) (k : ℕ) → limit < get_or cells k 0 → held limit cells k ≡ None
held_above limit cells k l = grind (arith, nat_tests)

pub held_load : (limit : ℕ) (cells : List ℕ) (k : ℕ) → k < length cells → get_or cells k 0 ≤ limit → held limit cells k ≡ Some (get_or cells k 0)
held_load limit cells k l m = grind (arith, nat_tests)

both_none : (o : Option ℕ) → both o None ≡ None
both_none (Some a) = refl
both_none None = refl

-- a cell that holds nothing leaves its hour without a load
pub one_without : (limit : ℕ) (cells : List ℕ) (first k : ℕ) → held limit cells (first + k) ≡ None → together limit cells first (k + 1) ≡ None
unfolding together
one_without limit cells first k e = simp unary_clauses (ap (both (together limit cells first k)) e ∙ both_none _)

pub without_one_more : (limit : ℕ) (cells : List ℕ) (first k : ℕ) → together limit cells first k ≡ None → together limit cells first (k + 1) ≡ None
unfolding together
without_one_more limit cells first k e = simp unary_clauses (ap (λ o. both o (held limit cells (first + k))) e)

pub without_stays : (limit : ℕ) (cells : List ℕ) (first k m : ℕ) → together limit cells first k ≡ None → together limit cells first (m + k) ≡ None
without_stays limit cells first k zero e = let same : k ≡ 0 + k = omega arith in subst (λ m. together limit cells first m ≡ None) same e
without_stays limit cells first k (suc m) e =
    let same : m + k + 1 ≡ suc m + k = omega arith in
    subst (λ n. together limit cells first n ≡ None) same (without_one_more limit cells first (m + k) (without_stays limit cells first k m e))

-- an hour with a cell past the end of the table has no load
pub past_end : (limit : ℕ) (cells : List ℕ) (first n : ℕ) → 1 ≤ n → length cells < first + n → together limit cells first n ≡ None
past_end limit cells first zero some l = absurd (omega arith)
past_end limit cells first (suc k) some l =
    let same : k + 1 ≡ suc k = omega arith in
    subst (λ m. together limit cells first m ≡ None) same (one_without limit cells first k (held_past limit cells (first + k) (omega arith)))

-- the largest number of 64 bits lies past the end of every table, as does a place that is larger
pub far : (limit : ℕ) (cells : List ℕ) (hour n : ℕ) → length cells < 2 ^ 64 → together limit cells (min (hour * n) (2 ^ 64 - 1)) n ≡ together limit cells (n * hour) n
unfolding together
far limit cells hour zero short = refl
far limit cells hour (suc k) short =
    elim (cases_lt (hour * suc k) (2 ^ 64)) [
      | inl l ↦ let same : min (hour * suc k) (2 ^ 64 - 1) ≡ suc k * hour = omega arith in ap (λ first. together limit cells first (suc k)) same
      | inr g ↦ past_end limit cells (min (hour * suc k) (2 ^ 64 - 1)) (suc k) (omega arith) (omega arith) ∙ sym (past_end limit cells (suc k * hour) (suc k) (omega arith) (omega arith))
    ]

-- an hour with a cell above the limit has none
pub above_limit : (limit : ℕ) (cells : List ℕ) (first k n : ℕ) → k < n → limit < get_or cells (first + k) 0 → together limit cells first n ≡ None
above_limit limit cells first k n l above =
    let same : n - (k + 1) + (k + 1) ≡ n = omega arith in
    subst (λ m. together limit cells first m ≡ None) same (without_stays limit cells first (k + 1) (n - (k + 1)) (one_without limit cells first k (held_above limit cells (first + k) above)))

-- one cell more that holds a load
pub one_more : (limit : ℕ) (cells : List ℕ) (first k a b : ℕ) → Some a ≡ together limit cells first k → held limit cells (first + k) ≡ Some b → Some (a + b) ≡ together limit cells first (k + 1)
unfolding together
one_more limit cells first k a b e f = simp unary_clauses (sym (ap (both (together limit cells first k)) f ∙ ap (λ o. both o (Some b)) (sym e)))

-- a cell of those of an hour is a cell of the table
pub of_hour : (cells those : List ℕ) (first n k : ℕ) → those ≡ slice_range cells first (first + n) → k < n → get_or those k 0 ≡ get_or cells (first + k) 0
of_hour cells those first n k e l = ap (λ cs. get_or cs k 0) e ∙ get_or-take _ (drop first cells) k 0 (omega arith) ∙ get_or-drop first cells k 0

-- Passing over the blanks at both ends of a line. Assumes nothing.
use Rattle.std.proofs.Common.{◌≡◌, ℕ, zero, suc, ◌+◌, ◌-◌, ◌<◌, ◌≤◌, Bool, true, false, not, cond, Some, None, subst, List, [], ◌∷◌, reverse, length, get_or, take, drop, IsUtf8, sym, refl, ap, ◌∙◌, arith}
use Rattle.std.proofs.lemmas.List.{drop_all, take_more, take_all, reverse-append, reverse-reverse}
use Rattle.std.proofs.lemmas.Str.{IsCharBoundary-start, IsCharBoundary-after_ascii}
use Rattle.std.proofs.lemmas.List.Quantifiers.{position-Some}
use Rattle.std.proofs.lemmas.Bool.{not-false}
use Rattle.std.proofs.lemmas.Bool.Decides.{nat_tests}
use Rattle.std.specs.List.{position, position_or_len}
use Rattle.std.specs.Str.{IsCharBoundary}
use Rattle.text.specs.Pieces.{blank, unblanked}
use Rattle.text.proofs.Marks.{ascii_blank}

unblanked_no : (b : ℕ) (bs : List ℕ) → blank b ≡ false → unblanked (b ∷ bs) ≡ b ∷ bs
unfolding unblanked
unblanked_no b bs e = rw e refl

unblanked_yes : (b : ℕ) (bs : List ℕ) → blank b ≡ true → unblanked (b ∷ bs) ≡ unblanked bs
unfolding unblanked
unblanked_yes b bs e = rw e refl

unblanked_nil : unblanked [] ≡ []
unfolding unblanked
unblanked_nil = refl

-- a byte that is no blank
abbrev solid_byte : ℕ → Bool
solid_byte b = not (blank b)

unblanked_is : (bs : List ℕ) → drop (position_or_len solid_byte bs) bs ≡ unblanked bs
unfolding unblanked
unblanked_is [] = refl
unblanked_is (b ∷ bs) =
    let more = unblanked_is bs in
    let on : 1 + position_or_len solid_byte bs ≡ suc (position_or_len solid_byte bs) = omega arith in
    elim (blank b) as (λ v. drop (cond (not (not v)) (1 + position_or_len solid_byte bs) 0) (b ∷ bs) ≡ cond v (unblanked bs) (b ∷ bs)) [ true ↦ ap (λ n. drop n (b ∷ bs)) on ∙ more | false ↦ refl ]

-- before the first byte that is no blank a text may be cut
boundary_after_blanks : (bs : List ℕ) (i : ℕ) → IsUtf8 bs → i ≤ length bs → ((k : ℕ) → k < i → solid_byte (get_or bs k 0) ≡ false) → IsCharBoundary bs i
boundary_after_blanks bs zero u fits before = IsCharBoundary-start bs u
boundary_after_blanks bs (suc k) u fits before =
    let e : blank (get_or bs k 0) ≡ true = not-false (blank (get_or bs k 0)) (before k (omega arith)) in
    let next : k + 1 ≡ suc k = omega arith in
    subst (IsCharBoundary bs) next (IsCharBoundary-after_ascii bs k u (omega arith) (ascii_blank (get_or bs k 0) e))

module _ (bs : List ℕ) (i : ℕ) (found : Some i ≡ position solid_byte bs) where
  pub word_boundary : IsUtf8 bs → IsCharBoundary bs i
  word_boundary u = let p = position-Some solid_byte bs i 0 (sym found) in let inside = p.0 in boundary_after_blanks bs i u (omega arith) p.2

  pub word_begins : drop i bs ≡ unblanked bs
  word_begins = let at_first : i ≡ position_or_len solid_byte bs = grind (arith, nat_tests) in ap (λ k. drop k bs) at_first ∙ unblanked_is bs

pub all_blank : (bs : List ℕ) → None ≡ position solid_byte bs → [] ≡ unblanked bs
all_blank bs none =
    let at_end : length bs ≤ position_or_len solid_byte bs = grind (arith, nat_tests) in
    sym (drop_all (position_or_len solid_byte bs) bs at_end) ∙ unblanked_is bs

-- what is left of a line up to its last byte that is no blank
abbrev to_last : List ℕ → List ℕ
to_last bs = reverse (unblanked (reverse bs))

reverse_front : (bs : List ℕ) (i : ℕ) → i < length bs → reverse (take (i + 1) bs) ≡ get_or bs i 0 ∷ reverse (take i bs)
reverse_front bs i lt = ap reverse (take_more bs i 0 lt) ∙ reverse-append (take i bs) (get_or bs i 0 ∷ [])

-- from end on the line has blanks alone
blank_from : (bs : List ℕ) (end more : ℕ) → end + more ≡ length bs → ((k : ℕ) → end ≤ k → k < length bs → blank (get_or bs k 0) ≡ true) → to_last (take end bs) ≡ to_last bs
blank_from bs end zero all after = ap to_last (take_all end bs (omega arith))
blank_from bs end (suc more) all after =
    let inside : end < length bs = omega arith in
    let here = unblanked_yes (get_or bs end 0) (reverse (take end bs)) (after end (omega arith) inside) in
    ap reverse (sym (ap unblanked (reverse_front bs end inside) ∙ here)) ∙ blank_from bs (end + 1) more (omega arith) (λ k h lt. after k (omega arith) lt)

pub ends_at_last : (bs : List ℕ) (last : ℕ) → last < length bs → blank (get_or bs last 0) ≡ false → ((k : ℕ) → last < k → k < length bs → blank (get_or bs k 0) ≡ true) → take (last + 1) bs ≡ to_last bs
ends_at_last bs last inside e after =
    let front = reverse_front bs last inside in
    sym (reverse-reverse (take (last + 1) bs)) ∙ ap reverse (front ∙ sym (ap unblanked front ∙ unblanked_no (get_or bs last 0) (reverse (take last bs)) e))
    ∙ blank_from bs (last + 1) (length bs - (last + 1)) (omega arith) (λ k h lt. after k (omega arith) lt)

pub blanks_alone : (bs : List ℕ) → ((k : ℕ) → k < length bs → blank (get_or bs k 0) ≡ true) → [] ≡ to_last bs
blanks_alone bs all = sym (ap reverse unblanked_nil) ∙ blank_from bs 0 (length bs) (omega arith) (λ k _ lt. all k lt)

-- What is written as words and numerals is cut and read back. Assumes nothing.
use Rattle.std.proofs.Common.{◌≡◌, ℕ, ◌<◌, ◌≤◌, Bool, true, false, cond, List, [], ◌∷◌, ◌++◌, length, Some, Ok, decimal, sym, refl, ap, ◌∙◌, append-nil, arith}
use Rattle.std.proofs.lemmas.Fmt.{digits_decimal, digits_value-decimal, decimal_nonempty}
use Rattle.std.proofs.lemmas.Bool.{and_parts, le-leb, ne_eqb}
use Rattle.std.proofs.lemmas.Bool.Decides.{nat_tests}
use Rattle.std.specs.List.{AllByRecursion}
use Rattle.std.specs.Str.{all_ascii_digits}
use Rattle.std.specs.Char.{is_ascii_digit}
use Rattle.text.specs.Numbers.{number_from, number_of}
use Rattle.text.specs.Pieces.{line_end, hash, blank, comma, upto, beyond, onto, pieces, unblanked, first_word, next_word}
use Rattle.text.proofs.Digits.{numerals, digits_alone, digits_read}

-- no byte of the list stops
abbrev pub Free : (ℕ → Bool) → List ℕ → Type 0
Free p bs = AllByRecursion (λ b. p b ≡ false) bs

pub free_append : (p : ℕ → Bool) (xs ys : List ℕ) → Free p xs → Free p ys → Free p (xs ++ ys)
free_append p [] ys h k = k
free_append p (x ∷ xs) ys h k = (h.0, free_append p xs ys h.1 k)

pub pieces_at : (p : ℕ → Bool) (xs : List ℕ) (s : ℕ) (ys : List ℕ) → Free p xs → p s ≡ true → pieces p (xs ++ s ∷ ys) ≡ xs ∷ pieces p ys
unfolding pieces onto
pieces_at p [] s ys h e = rw e refl
pieces_at p (x ∷ xs) s ys h e = let no' = h.0 in let more = pieces_at p xs s ys h.1 e in rw no' (ap (onto x) more)

pub pieces_last : (p : ℕ → Bool) (xs : List ℕ) → Free p xs → 0 < length xs → pieces p xs ≡ xs ∷ []
unfolding pieces onto
pieces_last p [] h some = absurd (omega arith)
pieces_last p (x ∷ []) h some = let no' = h.0 in rw no' refl
pieces_last p (x ∷ y ∷ xs) h some = let no' = h.0 in let more = pieces_last p (y ∷ xs) h.1 (omega arith) in ap (λ b. cond b ([] ∷ pieces p (y ∷ xs)) (onto x (pieces p (y ∷ xs)))) no' ∙ ap (onto x) more

pub upto_at : (p : ℕ → Bool) (xs : List ℕ) (s : ℕ) (ys : List ℕ) → Free p xs → p s ≡ true → upto p (xs ++ s ∷ ys) ≡ xs
unfolding upto
upto_at p [] s ys h e = rw e refl
upto_at p (x ∷ xs) s ys h e = let no' = h.0 in let more = upto_at p xs s ys h.1 e in rw no' (ap (λ l. x ∷ l) more)

pub beyond_at : (p : ℕ → Bool) (xs : List ℕ) (s : ℕ) (ys : List ℕ) → Free p xs → p s ≡ true → beyond p (xs ++ s ∷ ys) ≡ ys
unfolding beyond
beyond_at p [] s ys h e = rw e refl
beyond_at p (x ∷ xs) s ys h e = let no' = h.0 in let more = beyond_at p xs s ys h.1 e in rw no' more

pub upto_free : (p : ℕ → Bool) (xs : List ℕ) → Free p xs → upto p xs ≡ xs
unfolding upto
upto_free p [] h = refl
upto_free p (x ∷ xs) h = ap (λ b. cond b [] (x ∷ upto p xs)) h.0 ∙ ap (λ l. x ∷ l) (upto_free p xs h.1)

pub beyond_free : (p : ℕ → Bool) (xs : List ℕ) → Free p xs → beyond p xs ≡ []
unfolding beyond
beyond_free p [] h = refl
beyond_free p (x ∷ xs) h = ap (λ b. cond b xs (beyond p xs)) h.0 ∙ beyond_free p xs h.1

-- a test that no digit passes
abbrev pub Spares : (ℕ → Bool) → Type 0
Spares p = (b : ℕ) → is_ascii_digit b ≡ true → p b ≡ false

pub spares_line_end : Spares line_end
spares_line_end b e = grind (arith, nat_tests)

pub spares_hash : Spares hash
spares_hash b e = grind (arith, nat_tests)

pub spares_blank : Spares blank
spares_blank b e = grind (arith, nat_tests)

pub spares_comma : Spares comma
spares_comma b e = grind (arith, nat_tests)

pub free_digits : (p : ℕ → Bool) → Spares p → (ds : List ℕ) → all_ascii_digits ds ≡ true → Free p ds
free_digits p s [] e = tt
free_digits p s (d ∷ ds) e = let both = and_parts (is_ascii_digit d) (all_ascii_digits ds) e in (s d both.0, free_digits p s ds both.1)

module _ (n : ℕ) (h : n ≤ 4294967295) where
  pub digits_numeral : all_ascii_digits (decimal n) ≡ true
  digits_numeral = digits_decimal numerals n (omega arith)

  pub numeral_some : 0 < length (decimal n)
  numeral_some = decimal_nonempty n (omega arith)

  pub numeral_value : number_from 0 (decimal n) ≡ n
  numeral_value = digits_value-decimal numerals n (omega arith)

  pub free_numeral : (p : ℕ → Bool) → Spares p → Free p (decimal n)
  free_numeral p s = free_digits p s (decimal n) digits_numeral

  -- a numeral reads back
  pub number_back : number_of (decimal n) ≡ Ok n
  number_back = sym (digits_read (decimal n) numeral_some (digits_alone (decimal n) ∙ digits_numeral)) ∙ (rw (numeral_value, le-leb n 4294967295 h) refl)

unblanked_word : (w rest : List ℕ) → Free blank w → 0 < length w → unblanked (w ++ rest) ≡ w ++ rest
unfolding unblanked
unblanked_word [] rest h some = absurd (omega arith)
unblanked_word (b ∷ bs) rest h some = let no' = h.0 in rw no' refl

first_word_is : (line w rest : List ℕ) → 0 < length line → upto blank line ≡ w → beyond blank line ≡ rest → first_word line ≡ Some (w, rest)
first_word_is line w rest some p q = let long = ne_eqb (length line) 0 (λ z. omega arith) in rw long (λ i. Some (p i, q i))

some_more : (w rest : List ℕ) → 0 < length w → 0 < length (w ++ rest)
some_more [] rest some = absurd (omega arith)
some_more (b ∷ bs) rest some = omega arith

-- a word and the blank after it are cut off
pub next_word_at : (w : List ℕ) (s : ℕ) (rest : List ℕ) → Free blank w → 0 < length w → blank s ≡ true → next_word (w ++ s ∷ rest) ≡ Some (w, rest)
next_word_at w s rest h some e =
    ap first_word (unblanked_word w (s ∷ rest) h some) ∙ first_word_is (w ++ s ∷ rest) w rest (some_more w (s ∷ rest) some) (upto_at blank w s rest h e) (beyond_at blank w s rest h e)

-- the last word of a line leaves nothing
pub next_word_last : (w : List ℕ) → Free blank w → 0 < length w → next_word w ≡ Some (w, [])
next_word_last w h some =
    let alone = ap unblanked (sym (append-nil w)) ∙ unblanked_word w [] h some ∙ append-nil w in
    ap first_word alone ∙ first_word_is w w [] some (upto_free blank w h) (beyond_free blank w h)

-- Reading the digits of a word. Assumes nothing.
use Rattle.std.proofs.Common.{◌≡◌, ◌≢◌, ℕ, ◌^◌, ◌<◌, true, false, cond, ◌&&◌, leb, List, [], ◌∷◌, length, get_or, Some, None, Ok, Err, Result, sym, refl, ap, ◌∙◌, ⊎_elim, arith}
use Rattle.std.proofs.lemmas.Bool.{cases_Bool, cases_lt, le-leb, lt-leb}
use Rattle.std.proofs.lemmas.Str.Parse.{IsNumeralModel, numerals_by_fold, tells_all_ascii_digits, parse_plain}
use Rattle.std.specs.Char.{is_ascii_digit}
use Rattle.std.specs.List.{list_all}
use Rattle.std.specs.Result.{OkIff, result_ok}
use Rattle.std.specs.Str.{all_ascii_digits}
use Rattle.std.specs.Str.Parse.{ParsesUnsigned}
use Rattle.text.specs.declared.number.NumberFault.{NumberFault}
use Rattle.text.specs.declared.number.NumberFault.TheVariants.{NoNumber, TooLarge}
use Rattle.text.specs.Numbers.{number_from, within_32_bits, number_of}

-- each byte is a digit, in both words for it
pub digits_alone : (bs : List ℕ) → list_all is_ascii_digit bs ≡ all_ascii_digits bs
digits_alone [] = refl
digits_alone (b ∷ bs) = ap (λ v. is_ascii_digit b && v) (digits_alone bs)

-- digits write the number that they are read as
pub numerals : IsNumeralModel (λ ds. all_ascii_digits ds ≡ true) (number_from 0)
unfolding number_from
numerals = numerals_by_fold _ tells_all_ascii_digits number_from (record { empty = λ n. refl; more = λ n c cs h. refl })

-- ---- a word whose number is one of 32 bits

-- a word is such a number just where it has one digit or more, and nothing else, and they write one
abbrev Writes : List ℕ → Type 0
Writes word = (all_ascii_digits word ≡ true) × (0 < length word) × (number_from 0 word < 2 ^ 32)

value_read : (word : List ℕ) → Writes word → Some (number_from 0 word) ≡ result_ok (number_of word)
unfolding number_of
value_read [] is = absurd (omega (arith, is.1))
value_read (c ∷ cs) is = let all = is.0 in sym (rw (all, le-leb (number_from 0 (c ∷ cs)) 4294967295 (omega (arith, is.2))) refl)

no_value : (word : List ℕ) → (Writes word → ⊥) → None ≡ result_ok (number_of word)
unfolding number_of
no_value [] not = refl
no_value (c ∷ cs) not =
    ⊎_elim (λ all.
    let high : 4294967295 < number_from 0 (c ∷ cs) = ⊎_elim (λ low. absurd (not (all, omega arith, low))) (λ h. omega arith) (cases_lt (number_from 0 (c ∷ cs)) (2 ^ 32)) in
    sym (rw (all, lt-leb (number_from 0 (c ∷ cs)) 4294967295 high) refl))
    (λ none. sym (rw none refl))
    (cases_Bool (all_ascii_digits (c ∷ cs)))

pub plus_in_front : (word : List ℕ) → 0 < length word → get_or word 0 0 ≡ 43 → None ≡ result_ok (number_of word)
unfolding number_of
plus_in_front [] some plus = absurd (omega arith)
plus_in_front (c ∷ cs) some plus = rw plus refl

pub parsed : {E : Type 0} (word : List ℕ) (r : Result ℕ E) → get_or word 0 0 ≢ 43 → ParsesUnsigned 32 10 word r → result_ok r ≡ result_ok (number_of word)
parsed word r plain h = told r (parse_plain numerals 32 word r h plain)
  where
    told : {E : Type 0} (r : Result ℕ E) → OkIff r (Writes word) (number_from 0 word) → result_ok r ≡ result_ok (number_of word)
    told (Ok x) fits = ap Some fits.1 ∙ value_read word fits.0
    told (Err e) not = no_value word not

-- ---- a word as a number, by whether one of 32 bits is read of it

pub number_is : (word : List ℕ) (value : ℕ) → Some value ≡ result_ok (number_of word) → Ok value ≡ number_of word
number_is word value e = back (number_of word) e
  where
    back : (r : Result ℕ NumberFault) → Some value ≡ result_ok r → Ok value ≡ r
    back (Ok x) e = cc
    back (Err f) e = cc

above : (n : ℕ) → None ≡ result_ok (within_32_bits n) → Err TooLarge ≡ within_32_bits n
above n e =
    (elim (leb n 4294967295) as (λ v. None ≡ result_ok (cond v (Ok n) (Err TooLarge)) → Err TooLarge ≡ cond v (Ok n) (Err TooLarge)) [
      | true ↦ λ e. cc
      | false ↦ λ e. refl
    ]) e

pub no_number : (word : List ℕ) → length word ≡ 0 → Err NoNumber ≡ number_of word
unfolding number_of
no_number [] none = refl
no_number (c ∷ cs) none = absurd (omega arith)

pub digits_read : (word : List ℕ) → 0 < length word → list_all is_ascii_digit word ≡ true → within_32_bits (number_from 0 word) ≡ number_of word
unfolding number_of
digits_read [] some all = absurd (omega arith)
digits_read (c ∷ cs) some all = let is = sym (digits_alone (c ∷ cs)) ∙ all in sym (rw is refl)

pub too_large : (word : List ℕ) → None ≡ result_ok (number_of word) → 0 < length word → list_all is_ascii_digit word ≡ true → Err TooLarge ≡ number_of word
too_large word none some all = let is = digits_read word some all in above (number_from 0 word) (none ∙ ap result_ok (sym is)) ∙ is

pub no_digits : (word : List ℕ) → 0 < length word → list_all is_ascii_digit word ≡ false → Err NoNumber ≡ number_of word
unfolding number_of
no_digits [] some none = absurd (omega arith)
no_digits (c ∷ cs) some none = let is = sym (digits_alone (c ∷ cs)) ∙ none in sym (rw is refl)

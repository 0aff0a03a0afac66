-- A word read as a number. Assumes nothing.
use Rattle.std.specs.Prelude.{ℕ, ◌+◌, ◌-◌, ◌*◌, cond, List, [], ◌∷◌, Ok, Err, Result, nat_le}
use Rattle.std.specs.Str.{all_ascii_digits}
use Rattle.text.specs.declared.number.NumberFault.{NumberFault}
use Rattle.text.specs.declared.number.NumberFault.TheVariants.{NoNumber, TooLarge}

-- the number that decimal digits write, after the number so far
unfoldable pub number_from : ℕ → List ℕ → ℕ
number_from n [] = n
number_from n (c ∷ cs) = number_from (n * 10 + (c - 48)) cs

-- a number of at most 32 bits, as it stands
abbrev pub within_32_bits : ℕ → Result ℕ NumberFault
within_32_bits n = cond (nat_le n 4294967295) (Ok n) (Err TooLarge)

-- a word as a number: it has one digit or more and nothing else, and they write at most 4,294,967,295
unfoldable pub number_of : List ℕ → Result ℕ NumberFault
number_of [] = Err NoNumber
number_of (c ∷ cs) = cond (all_ascii_digits (c ∷ cs)) (within_32_bits (number_from 0 (c ∷ cs))) (Err NoNumber)

-- An entry written as a line. Assumes nothing.
use Rattle.std.specs.Prelude.{◌≡◌, ℕ, ◌<◌, ◌≤◌, Bool, false, List, [], ◌∷◌, ◌++◌, length, Some, Ok, codes, decimal}
use Rattle.std.specs.List.{AllByRecursion}
use Rattle.meter.specs.declared.kind.TableKind.{TableKind}
use Rattle.meter.specs.declared.kind.TableKind.TheVariants.{Hourly, Quarter}
use Rattle.tariff.specs.declared.call.Call.{Call}
use Rattle.tariff.specs.declared.call.Call.TheVariants.{Enrol, Nominate, Announce, Revoke, Close}
use Rattle.text.specs.Pieces.{line_end, hash, blank, trimmed}
use Rattle.entries.specs.Asked.{Asked, asks_label, asks_open, asks_call, asks_table, asks_pair, asks_statement, asks_compare}
use Rattle.entries.specs.Reading.{entry_of_line}

-- words with one space between two of them
abbrev pub spaced : List (List ℕ) → List ℕ
spaced [] = []
spaced (w ∷ []) = w
spaced (w ∷ v ∷ vs) = w ++ 32 ∷ spaced (v ∷ vs)

-- the words of a call: its figures are decimal numbers, and moments are in minutes
abbrev pub call_words : Call → List (List ℕ)
call_words (Enrol m k kw) = codes "enrol" ∷ decimal m ∷ decimal k ∷ decimal kw ∷ []
call_words (Nominate m s w kw) = codes "nominate" ∷ decimal m ∷ decimal s ∷ decimal w ∷ decimal kw ∷ []
call_words (Announce m s n) = codes "announce" ∷ decimal m ∷ decimal s ∷ decimal n ∷ []
call_words (Revoke m) = codes "revoke" ∷ decimal m ∷ []
call_words Close = codes "close" ∷ []

-- the word for a kind of tables
abbrev pub kind_word : TableKind → List ℕ
kind_word Hourly = codes "hourly"
kind_word Quarter = codes "quarter"

-- the words of an entry; a label's text stands for its last word
abbrev pub entry_words : Asked → List (List ℕ)
entry_words (asks_label t) = codes "label" ∷ t ∷ []
entry_words (asks_open y) = codes "open" ∷ decimal y ∷ []
entry_words (asks_call c) = call_words c
entry_words (asks_table n k m f) = codes "meter" ∷ n ∷ kind_word k ∷ decimal m ∷ f ∷ []
entry_words (asks_pair n a b) = codes "meter" ∷ n ∷ codes "pair" ∷ a ∷ b ∷ []
entry_words (asks_statement s n) = codes "statement" ∷ decimal s ∷ n ∷ []
entry_words (asks_compare s a b) = codes "compare" ∷ decimal s ∷ a ∷ b ∷ []

-- an entry as a line
abbrev pub entry_text : Asked → List ℕ
entry_text a = spaced (entry_words a)

-- no byte of the text passes the test
abbrev pub Without : (ℕ → Bool) → List ℕ → Type 0
Without p bs = AllByRecursion (λ b. p b ≡ false) bs

-- a number of 32 bits
abbrev pub Number32 : ℕ → Type 0
Number32 n = n ≤ 4294967295

-- a word has a byte, and no blank, '#' or LF
pub record ProperWord (w : List ℕ) : Type 0 where
  pub some : 0 < length w
  pub no_blank : Without blank w
  pub no_hash : Without hash w
  pub no_end : Without line_end w

-- a label has a byte, no '#' and no LF, and no blank at its ends
pub record ProperText (t : List ℕ) : Type 0 where
  pub some : 0 < length t
  pub no_hash : Without hash t
  pub no_end : Without line_end t
  pub trim : trimmed t ≡ t

-- each figure of a call is a number of 32 bits
abbrev pub ProperCall : Call → Type 0
ProperCall (Enrol m k kw) = Number32 m × Number32 k × Number32 kw
ProperCall (Nominate m s w kw) = Number32 m × Number32 s × Number32 w × Number32 kw
ProperCall (Announce m s n) = Number32 m × Number32 s × Number32 n
ProperCall (Revoke m) = Number32 m
ProperCall Close = Unit {0}

-- each figure is a number of 32 bits, each name a proper word, and a label's text a proper text
abbrev pub Proper : Asked → Type 0
Proper (asks_label t) = ProperText t
Proper (asks_open y) = Number32 y
Proper (asks_call c) = ProperCall c
Proper (asks_table n k m f) = ProperWord n × Number32 m × ProperWord f
Proper (asks_pair n a b) = ProperWord n × ProperWord a × ProperWord b
Proper (asks_statement s n) = Number32 s × ProperWord n
Proper (asks_compare s a b) = Number32 s × ProperWord a × ProperWord b

-- any proper entry, written as a line and read, is that entry again
abbrev pub WrittenEntriesReadBack : Type 0
WrittenEntriesReadBack = (a : Asked) → Proper a → entry_of_line (entry_text a) ≡ Ok (Some a)

-- and what is written of it is one line
abbrev pub WrittenEntriesAreOneLine : Type 0
WrittenEntriesAreOneLine = (a : Asked) → Proper a → Without line_end (entry_text a)

-- what is read of a line, if it is an entry, is a proper one
abbrev pub EntriesReadAreProper : Type 0
EntriesReadAreProper = (line : List ℕ) (a : Asked) → Without line_end line → entry_of_line line ≡ Ok (Some a) → Proper a

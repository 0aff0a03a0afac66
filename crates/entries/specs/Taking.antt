-- The words of an entry, taken from the left one by one. Assumes nothing.
use Rattle.std.specs.Prelude.{ℕ, List, Some, None, Ok, Err, Option, Result}
use Rattle.std.specs.Borrow.{Bor}
use Rattle.std.specs.Option.{ok_or}
use Rattle.text.specs.Going.{then}
use Rattle.text.specs.Pieces.{next_word}
use Rattle.entries.specs.declared.entry.EntryFault.{EntryFault}
use Rattle.entries.specs.declared.entry.EntryFault.TheVariants.{TooFewWords, TooManyWords}
use Rattle.entries.specs.declared.word.Figure.{Figure}
use Rattle.entries.specs.Words.{figure_of}

-- what was read, seen as its bytes; a fault stays
abbrev pub read_as : {X Y : Type 0} → (X → Y) → Result X EntryFault → Result Y EntryFault
read_as see (Ok x) = Ok (see x)
read_as see (Err e) = Err e

-- the bytes of a word and of the rest of its line
abbrev pub taken_word : Bor (List ℕ) × Bor (List ℕ) → List ℕ × List ℕ
taken_word p = (p.0.now, p.1.now)

-- a figure, and the bytes of the rest of its line
abbrev pub taken_figure : ℕ × Bor (List ℕ) → ℕ × List ℕ
taken_figure p = (p.0, p.1.now)

-- the next word, and the rest of the line
unfoldable pub take_word : List ℕ → Result (List ℕ × List ℕ) EntryFault
take_word line = ok_or (next_word line) TooFewWords

-- the next word as a figure, and the rest of the line
unfoldable pub take_figure : Figure → List ℕ → Result (ℕ × List ℕ) EntryFault
take_figure f line = then (take_word line) (λ p. then (figure_of f p.0) (λ n. Ok (n, p.1)))

-- where there is a word, it is one too many
abbrev pub too_many : {X : Type 0} → Option X → Result (Unit {0}) EntryFault
too_many None = Ok tt
too_many (Some x) = Err TooManyWords

-- no word is left
unfoldable pub no_more : List ℕ → Result (Unit {0}) EntryFault
no_more line = too_many (next_word line)

-- the one word that is left
unfoldable pub last_word : List ℕ → Result (List ℕ) EntryFault
last_word line = then (take_word line) (λ p. then (no_more p.1) (λ _. Ok p.0))

-- the one word that is left, as a figure
unfoldable pub last_figure : Figure → List ℕ → Result ℕ EntryFault
last_figure f line = then (take_figure f line) (λ p. then (no_more p.1) (λ _. Ok p.0))

-- A text as a list of bytes, cut into lines, and a line into words. Assumes nothing.
use Rattle.std.specs.Prelude.{ℕ, Bool, cond, ◌||◌, List, [], ◌∷◌, reverse, length, Some, None, Option, ◌==◌}

-- LF ends a line
abbrev pub line_end : ℕ → Bool
line_end b = b == 10

-- '#' begins a comment
abbrev pub hash : ℕ → Bool
hash b = b == 35

-- space, tab and CR stand between words
abbrev pub blank : ℕ → Bool
blank b = b == 32 || (b == 9 || b == 13)

-- ',' stands between the fields of a row
abbrev pub comma : ℕ → Bool
comma b = b == 44

-- the bytes before the first at which to stop; all of them where there is none
unfoldable pub upto : (ℕ → Bool) → List ℕ → List ℕ
upto stop [] = []
upto stop (b ∷ bs) = cond (stop b) [] (b ∷ upto stop bs)

-- the bytes after the first at which to stop; none where there is none
unfoldable pub beyond : (ℕ → Bool) → List ℕ → List ℕ
beyond stop [] = []
beyond stop (b ∷ bs) = cond (stop b) bs (beyond stop bs)

-- one more byte at the front of the first piece
unfoldable pub onto : ℕ → List (List ℕ) → List (List ℕ)
onto b [] = (b ∷ []) ∷ []
onto b (p ∷ ps) = (b ∷ p) ∷ ps

-- the pieces of a text, each ended by a byte at which to stop, which is left out; what follows the last such byte is a piece too, unless it is empty
unfoldable pub pieces : (ℕ → Bool) → List ℕ → List (List ℕ)
pieces stop [] = []
pieces stop (b ∷ bs) = cond (stop b) ([] ∷ pieces stop bs) (onto b (pieces stop bs))

-- the pieces that have a byte
unfoldable pub solid : List (List ℕ) → List (List ℕ)
solid [] = []
solid ([] ∷ ps) = solid ps
solid ((b ∷ bs) ∷ ps) = (b ∷ bs) ∷ solid ps

-- the lines of a text
abbrev pub lines : List ℕ → List (List ℕ)
lines text = pieces line_end text

-- the words between the blanks of a text
abbrev pub between_blanks : List ℕ → List (List ℕ)
between_blanks text = solid (pieces blank text)

-- the words of a line, up to its comment
abbrev pub words : List ℕ → List (List ℕ)
words bytes = between_blanks (upto hash bytes)

-- what is left of a line from its first byte on that is no blank
unfoldable pub unblanked : List ℕ → List ℕ
unblanked [] = []
unblanked (b ∷ bs) = cond (blank b) (unblanked bs) (b ∷ bs)

-- a line without the blanks at both its ends
abbrev pub trimmed : List ℕ → List ℕ
trimmed line = reverse (unblanked (reverse (unblanked line)))

-- the word with which a line begins, and what follows the blank that ends it; none where the line has no byte
abbrev pub first_word : List ℕ → Option (List ℕ × List ℕ)
first_word line = cond (length line == 0) None (Some (upto blank line, beyond blank line))

-- the first word of a line after any blanks, and what follows the blank that ends it; none where the line has no word
abbrev pub next_word : List ℕ → Option (List ℕ × List ℕ)
next_word line = first_word (unblanked line)

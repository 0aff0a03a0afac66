-- What an iterator over lines or words has left. Assumes nothing.
use Rattle.std.specs.Prelude.{ℕ, List}
use Rattle.text.specs.declared.line.Lines.{Lines}
use Rattle.text.specs.declared.word.Words.{Words}
use Rattle.text.specs.Pieces.{lines, between_blanks}

-- the lines that it has not given yet
abbrev pub lines_left : Lines → List (List ℕ)
lines_left l = lines l.rest.now

-- the words that it has not given yet
abbrev pub words_left : Words → List (List ℕ)
words_left w = between_blanks w.rest.now

-- The bytes at which the code cuts a text, and the parts that it cuts off. Assumes nothing.
use Rattle.std.specs.Prelude.{ℕ, Bool, List}
use Rattle.text.specs.declared.parts.Mark.{Mark}
use Rattle.text.specs.declared.parts.Mark.TheVariants.{LineEnd, Comment, Blank, Comma}
use Rattle.text.specs.declared.parts.Parts.{Parts}
use Rattle.text.specs.Pieces.{line_end, hash, blank, comma}

abbrev pub stops_at : Mark → ℕ → Bool
stops_at LineEnd b = line_end b
stops_at Comment b = hash b
stops_at Blank b = blank b
stops_at Comma b = comma b

-- the bytes of a piece and of what follows it
abbrev pub parts_of : Parts → List ℕ × List ℕ
parts_of p = (p.piece.now, p.rest.now)

-- Marks are ASCII, so that a text may be cut before and after one. Assumes nothing.
use Rattle.std.proofs.Common.{◌≡◌, ℕ, ◌+◌, ◌<◌, true, List, get_or, Some, IsUtf8, arith}
use Rattle.std.proofs.lemmas.Str.{IsCharBoundary-before_ascii, IsCharBoundary-after_ascii}
use Rattle.std.proofs.lemmas.Bool.Decides.{nat_tests}
use Rattle.std.specs.List.{position}
use Rattle.std.specs.Str.{IsCharBoundary}
use Rattle.text.specs.declared.parts.Mark.{Mark}
use Rattle.text.specs.declared.parts.Mark.TheVariants.{LineEnd, Comment, Blank, Comma}
use Rattle.text.specs.Pieces.{blank}
use Rattle.text.specs.Stops.{stops_at}
use Rattle.text.proofs.Cutting.{inside, mark_there}

pub ascii_blank : (b : ℕ) → blank b ≡ true → b < 128
ascii_blank b e = grind (arith, nat_tests)

ascii_mark : (mark : Mark) (b : ℕ) → stops_at mark b ≡ true → b < 128
ascii_mark LineEnd b e = grind (arith, nat_tests)
ascii_mark Comment b e = grind (arith, nat_tests)
ascii_mark Blank b e = ascii_blank b e
ascii_mark Comma b e = grind (arith, nat_tests)

module _ (mark : Mark) (bs : List ℕ) (i : ℕ) (found : Some i ≡ position (stops_at mark) bs) where
  there : get_or bs i 0 < 128
  there = ascii_mark mark (get_or bs i 0) (mark_there (stops_at mark) bs i found)

  pub boundary_before_mark : IsCharBoundary bs i
  boundary_before_mark = IsCharBoundary-before_ascii bs i (inside (stops_at mark) bs i found) there

  pub boundary_after_mark : IsUtf8 bs → IsCharBoundary bs (i + 1)
  boundary_after_mark u = IsCharBoundary-after_ascii bs i u (inside (stops_at mark) bs i found) there

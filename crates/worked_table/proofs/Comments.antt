-- A line cut at the place of its first `#`. Assumes nothing.
use Rattle.std.proofs.Common.{◌≡◌, ℕ, List, take, Some, None}
use Rattle.std.specs.List.{position}
use Rattle.std.specs.Str.{IsCharBoundary}
use Rattle.text.specs.declared.parts.Mark.TheVariants.{Comment}
use Rattle.text.specs.Pieces.{hash, upto}
use Rattle.text.proofs.Cutting.{before_mark, whole}
use Rattle.text.proofs.Marks.{boundary_before_mark}

pub boundary_before_hash : (bs : List ℕ) (i : ℕ) → Some i ≡ position hash bs → IsCharBoundary bs i
boundary_before_hash bs i found = boundary_before_mark Comment bs i found

pub before_hash : (bs : List ℕ) (i : ℕ) → Some i ≡ position hash bs → take i bs ≡ upto hash bs
before_hash bs i found = before_mark hash bs i found

pub no_hash : (bs : List ℕ) → None ≡ position hash bs → bs ≡ upto hash bs
no_hash bs none = whole hash bs none

-- What holds where reading goes on. Assumes nothing.
use Rattle.std.proofs.Common.{IfOk, Ok, Err, Result}
use Rattle.text.specs.Going.{then}

-- P holds of what was read, if anything was
abbrev pub Read : {X F : Type 0} → (X → Type 0) → Result X F → Type 0
Read P r = IfOk r P

-- so it is with what is read after it, where each thing that P holds of leads to one that Q holds of
pub made_then : {X Y F : Type 0} (P : X → Type 0) (Q : Y → Type 0) (r : Result X F) (go : X → Result Y F) → IfOk r P → ((x : X) → P x → IfOk (go x) Q) → IfOk (then r go) Q
made_then P Q (Ok x) go h k = k x h
made_then P Q (Err e) go h k = tt

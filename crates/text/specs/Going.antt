-- Going on with what was read. Assumes nothing.
use Rattle.std.specs.Prelude.{Ok, Err, Result}

-- go on with what was read; a fault stays
abbrev pub then : {X Y F : Type 0} → Result X F → (X → Result Y F) → Result Y F
then (Ok x) go = go x
then (Err e) go = Err e

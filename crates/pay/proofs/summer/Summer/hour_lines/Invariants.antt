use Rattle.std.proofs.Common.{◌≡◌, length}
use Rattle.pay.proofs.Filling.{LinesTo}
use Rattle.pay.proofs.summer.Summer.hour_lines.Given as goal

abbrev pub invariant-loop-k : goal.invariant-loop-k
invariant-loop-k l = (length l.lines ≡ 60) × LinesTo l.self.hours.now l.k l.lines

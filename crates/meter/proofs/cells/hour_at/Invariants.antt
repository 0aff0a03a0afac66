use Rattle.std.proofs.Common.{◌≡◌, ◌*◌, ◌≤◌, Some}
use Rattle.meter.specs.Cells.{together}
use Rattle.meter.proofs.cells.hour_at.Given as goal

abbrev pub invariant-loop-cell : goal.invariant-loop-cell
invariant-loop-cell g l =
    (Some l.sum ≡ together l.most l.cells l.first l.cell-index)
    × (l.sum ≤ l.cell-index * l.most)

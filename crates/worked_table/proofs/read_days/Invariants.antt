use Rattle.std.proofs.Common.{◌≡◌}
use Rattle.std.specs.Iterator.Adapters.{enumerate_source, enumerate_count}
use Rattle.text.specs.Left.{lines_left}
use Rattle.worked_table.proofs.Steps.{Tabled}
use Rattle.worked_table.proofs.read_days.Given as goal

abbrev pub invariant-loop-before : goal.invariant-loop-before
invariant-loop-before l =
    (goal.iterator-loop-before).can_next l.before-iterator
    × (goal.iterator-loop-before).is_finite l.before-iterator
    × (l.last ≡ enumerate_count l.before-iterator)
    × Tabled (lines_left l.fn.lines) l.days.items (enumerate_count l.before-iterator) (lines_left (enumerate_source l.before-iterator))

use Rattle.std.proofs.Common.{◌≡◌, ◌+◌, ◌++◌, length, take}
use Rattle.std.specs.List.{AllByRecursion}
use Rattle.pay.specs.Listed.{listed}
use Rattle.statement.specs.Measured.{measured_of_list, InYear}
use Rattle.statement.proofs.hours.push_event.Given as goal

abbrev pub invariant-loop-hour : goal.invariant-loop-hour
invariant-loop-hour l =
    (length (listed l.list) ≡ length (listed l.initial.list) + l.hour-index) × (measured_of_list l.list ≡ measured_of_list l.initial.list ++ take l.hour-index l.event.hours) × AllByRecursion (InYear l.year) (listed l.list)

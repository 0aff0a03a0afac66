use Rattle.std.proofs.Common.{◌≡◌, ◌+◌, ◌-◌, ◌++◌, map}
use Rattle.std.specs.List.{range_with_len}
use Rattle.tariff.specs.Events.{event_hour}
use Rattle.season.specs.Hours.{hours_listed}
use Rattle.season.proofs.hours.HoursSoFar.push_event.Given as goal

abbrev pub invariant-loop-hour : goal.invariant-loop-hour
invariant-loop-hour l =
    (l.self.list.count ≡ l.initial.self.list.count + (l.hour - l.initial.hour))
    × (hours_listed l.self.list ≡ hours_listed l.initial.self.list ++ map (event_hour l.number l.day) (range_with_len l.initial.hour (l.hour - l.initial.hour)))

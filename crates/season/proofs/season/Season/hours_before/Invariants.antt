use Rattle.std.proofs.Common.{◌≡◌, ◌≤◌}
use Rattle.tariff.specs.Events.{event_hours_before, hours_before, standing_before}
use Rattle.season.specs.Hours.{hours_listed}
use Rattle.season.proofs.season.Season.hours_before.Given as goal

abbrev pub invariant-loop-day : goal.invariant-loop-day
invariant-loop-day l =
    record {
      few : l.numbered ≤ l.day;
      numbers : l.numbered ≡ standing_before l.self.events.days l.day;
      counted : l.hours.list.count ≡ hours_before l.self.events.days l.day;
      listed : hours_listed l.hours.list ≡ event_hours_before l.self.events.days l.day;
    }

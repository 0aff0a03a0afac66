-- What a list of event hours stands for, and what is known of each of its hours.
use Rattle.std.specs.Prelude.{◌≡◌, ◌≤◌, true, List, take}
use Rattle.tariff.specs.Season.{Season, standing}
use Rattle.tariff.specs.declared.season.EventHour.{EventHour}
use Rattle.season.specs.declared.hours.EventHours.{EventHours}

abbrev pub hours_listed : EventHours → List EventHour
hours_listed x = take x.count x.hours

-- an hour of an event that stands, of the season and the afternoon
pub record Placed (s : Season) (p : EventHour) : Type 0 where
  pub stands : standing s p.day ≡ true
  pub first : 1 ≤ p.event
  pub last : p.event ≤ 76
  pub opens : 14 ≤ p.day
  pub ends : p.day ≤ 75
  pub earliest : 14 ≤ p.hour
  pub latest : p.hour ≤ 19

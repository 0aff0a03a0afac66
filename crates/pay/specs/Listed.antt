-- The hours that a list holds: its first entries.
use Rattle.std.specs.Prelude.{List, take}
use Rattle.pay.specs.declared.placed.PlacedHour.{PlacedHour}
use Rattle.pay.specs.declared.list.HourList.{HourList}

abbrev pub listed : HourList → List PlacedHour
listed x = take x.count x.hours

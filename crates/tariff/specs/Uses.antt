-- The numbers of what an hour is needed for.
use Rattle.std.specs.Prelude.{ℕ}
use Rattle.tariff.specs.declared.fault.Use.{Use}
use Rattle.tariff.specs.declared.fault.Use.TheVariants.{Comparison, EventDay}

-- 1 where the hour is of a comparison day, 2 where it is of the event's own day
abbrev pub use_number : Use → ℕ
use_number Comparison = 1
use_number EventDay = 2

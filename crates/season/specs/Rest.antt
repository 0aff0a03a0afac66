-- The unused entries of a list of event hours.
use Rattle.std.specs.Prelude.{◌≡◌, ℕ, ◌-◌, List, drop, replicate}
use Rattle.tariff.specs.declared.season.EventHour.{EventHour}

abbrev pub no_hour : EventHour
no_hour = record { event = 0; day = 0; hour = 0 }

-- the entries past the first n of 60 are zero
abbrev pub RestZero : ℕ → List EventHour → Type 0
RestZero n xs = drop n xs ≡ replicate (60 - n) no_hour

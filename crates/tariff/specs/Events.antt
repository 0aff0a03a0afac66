-- The events of a summer, by its days. An event stands if it was announced and not revoked.
use Rattle.std.specs.Prelude.{ℕ, zero, suc, ◌+◌, Bool, true, false, ◌&&◌, ◌||◌, List, [], ◌∷◌, ◌++◌, map, length, filter, ◌==◌, slice_index_or, Some, None, Option}
use Rattle.std.specs.List.{range_with_len}
use Rattle.tariff.specs.Calendar.{in_week}
use Rattle.tariff.specs.Counting.{count}
use Rattle.tariff.specs.declared.season.Event.{Event}
use Rattle.tariff.specs.declared.season.EventHour.{EventHour}
use Rattle.tariff.specs.declared.season.Day.{Day}
use Rattle.tariff.specs.declared.season.Day.TheVariants.{NoEvent, Standing, Revoked}

-- an event stands on the day
abbrev pub stands : Day → Bool
stands NoEvent = false
stands (Standing e) = true
stands (Revoked e) = false

-- the event that stands on the day, where one does
abbrev pub standing_event : Day → Option Event
standing_event NoEvent = None
standing_event (Standing e) = Some e
standing_event (Revoked e) = None

-- an event was announced for the day, and may have been revoked since
abbrev pub announced : Day → Bool
announced NoEvent = false
announced (Standing e) = true
announced (Revoked e) = true

-- the event of a day; asked only where one was announced
abbrev pub event_of : Day → Event
event_of NoEvent = record { start = 0; length = 0; notice = 0 }
event_of (Standing e) = e
event_of (Revoked e) = e

-- a day of a summer; past the summer there is no event
abbrev pub day_in : List Day → ℕ → Day
day_in days d = slice_index_or days d NoEvent

-- on how many of the first n days an event was announced
unfoldable pub announced_before : List Day → ℕ → ℕ
announced_before days n = count (λ d. announced (day_in days d)) n

-- on how many of the first n days an event stands
unfoldable pub standing_before : List Day → ℕ → ℕ
standing_before days n = count (λ d. stands (day_in days d)) n

-- the number of the standing event of a day: standing events are numbered from 1 by day
abbrev pub event_number : List Day → ℕ → ℕ
event_number days d = standing_before days d + 1

-- an hour of an event, by the event's number, its day and the hour of the day
abbrev pub event_hour : ℕ → ℕ → ℕ → EventHour
event_hour number d h = record { event = number; day = d; hour = h }

-- how many hours of a day stand
abbrev pub day_hours : Day → ℕ
day_hours NoEvent = 0
day_hours (Standing e) = e.length
day_hours (Revoked e) = 0

-- the hours of the event that stands on a day, rising; none where no event stands
abbrev pub hours_on : ℕ → ℕ → Day → List EventHour
hours_on number d NoEvent = []
hours_on number d (Standing e) = map (event_hour number d) (range_with_len e.start e.length)
hours_on number d (Revoked e) = []

-- the hours of the standing events of the first n days, by day and hour
unfoldable pub event_hours_before : List Day → ℕ → List EventHour
event_hours_before days zero = []
event_hours_before days (suc n) = event_hours_before days n ++ hours_on (event_number days n) n (day_in days n)

-- how many there are
unfoldable pub hours_before : List Day → ℕ → ℕ
hours_before days n = length (event_hours_before days n)

-- how many there are in a week
unfoldable pub week_hours_before : ℕ → ℕ → List Day → ℕ → ℕ
week_hours_before year week days n = length (filter (λ p. in_week year week p.day) (event_hours_before days n))

-- an hour of a day is among some hours of events
unfoldable pub among : List EventHour → ℕ → ℕ → Bool
among [] d h = false
among (p ∷ ps) d h = (p.day == d && p.hour == h) || among ps d h

-- What is measured in the hours of an event, by the tariff, and from the loads that were read.
use Rattle.std.specs.Prelude.{◌≡◌, ℕ, ◌+◌, ◌-◌, ◌<◌, ◌≤◌, cond, nat_lt, List, map, length, Ok, Err, Result, slice_index, slice_index_or}
use Rattle.std.specs.List.{range_with_len}
use Rattle.tariff.specs.Baseline.{base_of}
use Rattle.tariff.specs.Events.{event_hour}
use Rattle.tariff.specs.Faults.{fault_over}
use Rattle.tariff.specs.Measure.{adjusted_from, reduction_from, shortfall_of, measured_of}
use Rattle.tariff.specs.Pay.{filled}
use Rattle.tariff.specs.Tables.{Table}
use Rattle.tariff.specs.declared.fault.BaselineFault.{BaselineFault}
use Rattle.tariff.specs.declared.season.EventHour.{EventHour}
use Rattle.tariff.specs.declared.statement.MeasuredHour.{MeasuredHour}
use Rattle.baseline.specs.declared.span.EventSpan.{EventSpan}
use Rattle.baseline.specs.declared.loads.EventLoads.{EventLoads}
use Rattle.baseline.specs.declared.measured.MeasuredEvent.{MeasuredEvent}
use Rattle.baseline.specs.Days.{day_loads, fault_or}

-- the entry of a list of measured hours that is not used
abbrev pub no_measured : MeasuredHour
no_measured = record { event = 0; day = 0; hour = 0; base = 0; adjusted = 0; reduction = 0; shortfall = 0 }

-- an hour of an event
abbrev pub hour_of : EventSpan → ℕ → EventHour
hour_of e h = event_hour e.number e.day h

-- the hours of an event, rising
abbrev pub span_hours : EventSpan → List EventHour
span_hours e = map (event_hour e.number e.day) (range_with_len e.start e.length)

-- what was measured in some hours, as an event's record: entries that are not used follow
abbrev pub event_of_hours : List MeasuredHour → MeasuredEvent
event_of_hours hours = record { hours = filled no_measured 4 hours; count = length hours }

-- an event measured by the tariff, over days to compare with and at a nomination: the first hour that is needed and has no load,
-- or what is measured in each of its hours
unfoldable pub event_measured : Table → List ℕ → EventSpan → ℕ → Result MeasuredEvent BaselineFault
event_measured t days e nominated =
    fault_or (fault_over t days e.day) (event_of_hours (map (measured_of t days e.notice nominated) (span_hours e)))

-- what an event of a day is measured from
abbrev pub loads_of : Table → List ℕ → ℕ → EventLoads
loads_of t days d = record { bases = map (base_of t days) (range_with_len 0 24); own = day_loads t d }

-- the first hour that is needed and has no load, or that
unfoldable pub loads_read : Table → List ℕ → ℕ → Result EventLoads BaselineFault
loads_read t days d = fault_or (fault_over t days d) (loads_of t days d)

-- the adjusted baseline of hour h, where the notice falls in hour n
abbrev pub adjusted_in : EventLoads → ℕ → ℕ → ℕ
adjusted_in x n h =
    adjusted_from (slice_index x.own (n - 2)) (slice_index x.own (n - 1)) (slice_index x.bases (n - 2)) (slice_index x.bases (n - 1)) (slice_index x.bases h)

-- the reduction of hour h
abbrev pub reduction_in : EventLoads → ℕ → ℕ → ℕ
reduction_in x n h = reduction_from (adjusted_in x n h) (slice_index x.own h)

-- what is measured in an event hour
abbrev pub measured_in : EventLoads → ℕ → ℕ → EventHour → MeasuredHour
measured_in x n nominated p =
    record {
      event = p.event;
      day = p.day;
      hour = p.hour;
      base = slice_index x.bases p.hour;
      adjusted = adjusted_in x n p.hour;
      reduction = reduction_in x n p.hour;
      shortfall = shortfall_of nominated (reduction_in x n p.hour);
    }

-- the k-th entry of an event's record: what is measured in its k-th hour, or the entry that is not used
unfoldable pub entry_from : EventLoads → EventSpan → ℕ → ℕ → MeasuredHour
entry_from x e nominated k = cond (nat_lt k e.length) (measured_in x e.notice nominated (hour_of e (e.start + k))) no_measured

-- in each hour of an event
unfoldable pub event_from : EventLoads → EventSpan → ℕ → MeasuredEvent
event_from x e nominated = event_of_hours (map (measured_in x e.notice nominated) (span_hours e))

-- an event is measured as its loads tell, at any nomination, and a gap among them stops it
abbrev pub MeasuredFromLoads : Table → List ℕ → EventSpan → Result EventLoads BaselineFault → Type 0
MeasuredFromLoads t days e (Ok x) = (nominated : ℕ) → Ok (event_from x e nominated) ≡ event_measured t days e nominated
MeasuredFromLoads t days e (Err f) = (nominated : ℕ) → Err f ≡ event_measured t days e nominated

-- Bounds of a measured event: at most four hours, no reduction above 120,000,000 Wh, a thirtieth of twelve times the highest B,
-- and no shortfall above 1000 times the highest number of 32 bits.
pub record Bounded (x : MeasuredEvent) : Type 0 where
  pub within : x.count ≤ 4
  pub reduced : (k : ℕ) → k < 4 → (slice_index_or x.hours k no_measured).reduction ≤ 120000000
  pub short : (k : ℕ) → k < 4 → (slice_index_or x.hours k no_measured).shortfall ≤ 4294967295000

-- What a list of measured hours holds.
use Rattle.std.specs.Prelude.{◌≡◌, ℕ, ◌+◌, List, ◌++◌, map, length, Some, None, Ok, Err, Result}
use Rattle.std.specs.List.{AllByRecursion}
use Rattle.tariff.specs.Calendar.{week_of}
use Rattle.tariff.specs.Events.{hours_on, day_hours, event_number}
use Rattle.tariff.specs.Measure.{measured, measured_hours}
use Rattle.tariff.specs.Season.{Season, day_at, season_event_hours}
use Rattle.tariff.specs.Statement.{event_fault, day_refusal, season_fault}
use Rattle.tariff.specs.Tables.{Table}
use Rattle.tariff.specs.declared.fault.BaselineFault.{BaselineFault}
use Rattle.tariff.specs.declared.season.Day.TheVariants.{Standing}
use Rattle.tariff.specs.declared.season.Event.{Event}
use Rattle.tariff.specs.declared.season.Site.{Site}
use Rattle.tariff.specs.declared.statement.EventFault.{EventFault}
use Rattle.tariff.specs.declared.statement.StatementRefusal.{StatementRefusal}
use Rattle.tariff.specs.declared.statement.StatementRefusal.TheVariants.{EventWithoutBaseline}
use Rattle.tariff.specs.declared.statement.MeasuredHour.{MeasuredHour}
use Rattle.baseline.specs.Days.{fault_or}
use Rattle.baseline.specs.Measuring.{event_of_hours}
use Rattle.baseline.specs.declared.measured.MeasuredEvent.{MeasuredEvent}
use Rattle.pay.specs.declared.list.HourList.{HourList}
use Rattle.pay.specs.declared.placed.PlacedHour.{PlacedHour}
use Rattle.pay.specs.Listed.{listed}
use Rattle.pay.specs.Paying.{measured_list}

-- its hours as they were measured
abbrev pub measured_of_list : HourList → List MeasuredHour
measured_of_list x = measured_list (listed x)

-- an hour's week is that of its day in a year
abbrev pub InYear : ℕ → PlacedHour → Type 0
InYear year p = p.week ≡ week_of year p.measured.day

-- ---- an event, measured for a site of a season

-- what an event's measuring gave, with the event's number beside a fault
abbrev pub with_number : {A : Type 0} → ℕ → Result A BaselineFault → Result A EventFault
with_number number (Ok a) = Ok a
with_number number (Err f) = Err (record { event = number; fault = f })

-- what the event that stands on a day, with its number, gives: its first fault, or its measured hours
unfoldable pub standing_measured : Season → Site → Table → ℕ → ℕ → Event → Result MeasuredEvent EventFault
standing_measured s x t number d e =
    with_number number (fault_or (event_fault s t d) (event_of_hours (map (measured s x t) (hours_on number d (Standing e)))))

-- ---- the days of a season, one after another

-- what a day leaves that stopped nothing: the number of the next event, and its hours behind those of the list
pub record DayMeasured (s : Season) (x : Site) (t : Table) (d : ℕ) (before after : HourList) (next : ℕ) : Type 0 where
  pub answered : day_refusal s t d ≡ None
  pub number : next ≡ event_number s.days (d + 1)
  pub counts : length (listed after) ≡ length (listed before) + day_hours (day_at s d)
  pub hours : measured_of_list after ≡ measured_of_list before ++ map (measured s x t) (hours_on (event_number s.days d) d (day_at s d))
  pub weeks : AllByRecursion (InYear s.year) (listed after)

-- a day stops a statement, or leaves that
abbrev pub DayTold : Season → Site → Table → ℕ → HourList → HourList → Result ℕ EventFault → Type 0
DayTold s x t d before after (Ok next) = DayMeasured s x t d before after next
DayTold s x t d before after (Err f) = day_refusal s t d ≡ Some (EventWithoutBaseline f)

-- the measured hours of a season that nothing stops
pub record SeasonMeasured (s : Season) (x : Site) (t : Table) (list : HourList) : Type 0 where
  pub answered : season_fault s t ≡ None
  pub counts : length (listed list) ≡ length (season_event_hours s)
  pub hours : measured_of_list list ≡ measured_hours s x t
  pub weeks : AllByRecursion (InYear s.year) (listed list)

abbrev pub SeasonTold : Season → Site → Table → Result HourList StatementRefusal → Type 0
SeasonTold s x t (Ok list) = SeasonMeasured s x t list
SeasonTold s x t (Err r) = season_fault s t ≡ Some r

-- A request for a site's statement: the record and the number of event hours, or the refusal.
use Rattle.std.specs.Prelude.{ℕ, cond, not, length, Some, None, Ok, Err, Option, Result}
use Rattle.std.specs.List.{range_with_len}
use Rattle.tariff.specs.Comparison.{comparison_days}
use Rattle.tariff.specs.Events.{event_number}
use Rattle.tariff.specs.Faults.{first_some, fault_over}
use Rattle.tariff.specs.Measure.{measured_hours}
use Rattle.tariff.specs.Pay.{paid_for}
use Rattle.tariff.specs.Season.{Season, standing, season_event_hours, has_site, site_at}
use Rattle.tariff.specs.Tables.{Table}
use Rattle.tariff.specs.declared.fault.BaselineFault.{BaselineFault}
use Rattle.tariff.specs.declared.season.Site.{Site}
use Rattle.tariff.specs.declared.statement.Statement.{Statement}
use Rattle.tariff.specs.declared.statement.StatementRefusal.{StatementRefusal}
use Rattle.tariff.specs.declared.statement.StatementRefusal.TheVariants.{SeasonNotClosed, NoSuchSite, EventWithoutBaseline}

-- what stops the baseline of a day's event
unfoldable pub event_fault : Season → Table → ℕ → Option BaselineFault
event_fault s t d = fault_over t (comparison_days s d) d

-- with the event's number
abbrev pub numbered : ℕ → Option BaselineFault → Option StatementRefusal
numbered number (Some f) = Some (EventWithoutBaseline (record { event = number; fault = f }))
numbered number None = None

-- what a day's event refuses a statement with, where one stands
abbrev pub day_refusal : Season → Table → ℕ → Option StatementRefusal
day_refusal s t d = cond (standing s d) (numbered (event_number s.days d) (event_fault s t d)) None

-- the first fault of the standing events, event by event
unfoldable pub season_fault : Season → Table → Option StatementRefusal
season_fault s t = first_some (day_refusal s t) (range_with_len 0 76)

-- a site's statement on a table: what its measured hours pay and cost
unfoldable pub statement_of : Season → Site → Table → Statement
statement_of s x t = paid_for s.year x (measured_hours s x t)

-- a statement with its number of event hours, or a refusal
abbrev pub Outcome : Type 0
Outcome = Result (Statement × ℕ) StatementRefusal

-- the refusal where there is one
abbrev pub refused_or : Option StatementRefusal → Statement × ℕ → Outcome
refused_or (Some r) x = Err r
refused_or None x = Ok x

-- what comes of a request for the statement of site i on a table: the checks in their order, and then the record with its number of hours
abbrev pub outcome : Season → ℕ → Table → Outcome
outcome s i t =
    cond (not s.closed) (Err SeasonNotClosed)
    (cond (not (has_site s i)) (Err NoSuchSite) (refused_or (season_fault s t) (statement_of s (site_at s i) t, length (season_event_hours s))))

-- what the request answers
abbrev pub hours_answered : Outcome → Result ℕ StatementRefusal
hours_answered (Ok x) = Ok x.1
hours_answered (Err r) = Err r

-- what the caller's record holds afterwards: the new statement, or what it held
abbrev pub record_after : Statement → Outcome → Statement
record_after old (Ok x) = x.0
record_after old (Err r) = old

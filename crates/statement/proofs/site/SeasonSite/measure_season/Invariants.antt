use Rattle.std.proofs.Common.{◌≡◌, ℕ, ◌<◌, map, length, None}
use Rattle.std.specs.List.{AllByRecursion}
use Rattle.tariff.specs.Events.{event_number, event_hours_before, hours_before}
use Rattle.tariff.specs.Measure.{measured}
use Rattle.tariff.specs.Statement.{day_refusal}
use Rattle.pay.specs.Listed.{listed}
use Rattle.season.specs.View.{view}
use Rattle.statement.specs.Measured.{InYear, measured_of_list}
use Rattle.statement.proofs.site.SeasonSite.measure_season.Given as goal

abbrev pub invariant-loop-day : goal.invariant-loop-day
invariant-loop-day g l =
    let t = g.M.Meter.table in
    let s = view l.self.season.now in
    (t l.meter ≡ t l.initial.meter)
    × (l.number ≡ event_number s.days l.day)
    × (length (listed l.list) ≡ hours_before s.days l.day)
    × (measured_of_list l.list ≡ map (measured s l.self.site.now (t l.initial.meter)) (event_hours_before s.days l.day))
    × AllByRecursion (InYear s.year) (listed l.list)
    × ((k : ℕ) → k < l.day → day_refusal s (t l.initial.meter) k ≡ None)

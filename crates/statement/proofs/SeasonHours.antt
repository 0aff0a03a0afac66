-- The hours of a season's days, one after another.
use Rattle.std.proofs.Common.{◌≡◌, ℕ, zero, suc, ◌+◌, ◌-◌, ◌<◌, ◌≤◌, Bool, true, false, cond, List, ◌++◌, map, length, Some, None, sym, ap, ◌∙◌, add-one, arith}
use mathlib.Core.List.{map-append}
use Rattle.tariff.specs.Events.{stands, day_in, day_hours, standing_before, event_number, event_hours_before, hours_before, hours_on}
use Rattle.tariff.specs.Measure.{measured}
use Rattle.tariff.specs.Season.{Season, day_at, season_event_hours}
use Rattle.tariff.specs.Statement.{day_refusal, season_fault}
use Rattle.tariff.specs.Tables.{Table}
use Rattle.tariff.proofs.EventHours.{standing_none, standing_more, hours_more, event_hours_more}
use Rattle.tariff.specs.declared.season.Day.{Day}
use Rattle.tariff.specs.declared.season.Site.{Site}
use Rattle.tariff.specs.declared.statement.StatementRefusal.{StatementRefusal}
use Rattle.baseline.proofs.FirstSome.{none_counted, first_counted}
use Rattle.pay.specs.Listed.{listed}
use Rattle.pay.specs.declared.list.HourList.{HourList}
use Rattle.statement.specs.Measured.{measured_of_list, DayMeasured}

-- on no more days than there are does an event stand
pub standing_few : (days : List Day) (n : ℕ) → standing_before days n ≤ n
standing_few days zero = omega (arith, standing_none days)
standing_few days (suc n) =
    let step = ap (standing_before days) (sym (add-one n)) ∙ standing_more days n in
    omega (arith, step, standing_few days n, at_most_one (stands (day_in days n)))
  where
    at_most_one : (b : Bool) → cond b 1 0 ≤ 1
    at_most_one true = omega arith
    at_most_one false = omega arith

hours_rise : (days : List Day) (m k : ℕ) → hours_before days m ≤ hours_before days (m + k)
hours_rise days m zero = let same : m + 0 ≡ m = omega arith in omega (arith, ap (hours_before days) same)
hours_rise days m (suc k) =
    let same : m + suc k ≡ m + k + 1 = omega arith in
    omega (arith, ap (hours_before days) same, hours_more days (m + k), hours_rise days m k)

-- a day of a season with at most 60 standing hours finds room for its own
pub room_for_day : (s : Season) (d n : ℕ) → d < 76 → hours_before s.days 76 ≤ 60 → n ≡ hours_before s.days d → n + day_hours (day_at s d) ≤ 60
room_for_day s d n l full e =
    let same : d + 1 + (75 - d) ≡ 76 = omega arith in
    omega (arith, hours_more s.days d, hours_rise s.days (d + 1) (75 - d), ap (hours_before s.days) same)

module _ (s : Season) (x : Site) (t : Table) where
  -- one day more
  pub counts_more : (d next : ℕ) (before after : HourList) → DayMeasured s x t d before after next → length (listed before) ≡ hours_before s.days d → length (listed after) ≡ hours_before s.days (d + 1)
  counts_more d next before after m e = omega (arith, m.counts, hours_more s.days d)

  pub hours_again : (d next : ℕ) (before after : HourList) → DayMeasured s x t d before after next → measured_of_list before ≡ map (measured s x t) (event_hours_before s.days d) → measured_of_list after ≡ map (measured s x t) (event_hours_before s.days (d + 1))
  hours_again d next before after m e =
      m.hours ∙ ap (λ hs. hs ++ map (measured s x t) (hours_on (event_number s.days d) d (day_at s d))) e ∙ sym (map-append (measured s x t) (event_hours_before s.days d) (hours_on (event_number s.days d) d (day_at s d))) ∙ ap (map (measured s x t)) (sym (event_hours_more s.days d))

-- no day stops it, or the first that does
pub no_fault : (s : Season) (t : Table) → ((k : ℕ) → k < 76 → day_refusal s t k ≡ None) → season_fault s t ≡ None
unfolding season_fault
no_fault s t h = none_counted (day_refusal s t) 76 h

pub first_fault : (s : Season) (t : Table) (d : ℕ) (r : StatementRefusal) → d < 76 → ((k : ℕ) → k < d → day_refusal s t k ≡ None) → day_refusal s t d ≡ Some r → season_fault s t ≡ Some r
unfolding season_fault
first_fault s t d r l h e = first_counted (day_refusal s t) 76 d r l h e

pub hours_counted : (s : Season) (n : ℕ) → n ≡ hours_before s.days 76 → n ≡ length (season_event_hours s)
unfolding hours_before
hours_counted s n e = e

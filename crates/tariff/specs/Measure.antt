-- What is measured in the hours of events: adjusted baselines in thirtieths of a Wh, reductions and shortfalls in Wh.
use Rattle.std.specs.Prelude.{ℕ, ◌+◌, ◌-◌, ◌*◌, ◌/◌, min, cond, List, map, nat_le}
use Rattle.tariff.specs.Baseline.{base_of}
use Rattle.tariff.specs.Calendar.{week_of, minute_of}
use Rattle.tariff.specs.Comparison.{comparison_days}
use Rattle.tariff.specs.Events.{event_of}
use Rattle.tariff.specs.Season.{Season, day_at, season_event_hours, nomination_for}
use Rattle.tariff.specs.Tables.{Table, load}
use Rattle.tariff.specs.declared.season.Site.{Site}
use Rattle.tariff.specs.declared.season.EventHour.{EventHour}
use Rattle.tariff.specs.declared.statement.MeasuredHour.{MeasuredHour}

-- ten times b, moved up or down by the difference of two numbers, which is held within twice b
unfoldable pub moved_within : ℕ → ℕ → ℕ → ℕ
moved_within b up down = cond (nat_le down up) (10 * b + min (up - down) (2 * b)) (10 * b - min (down - up) (2 * b))

-- the adjusted baseline of an hour with B b, from the loads p and q of two hours of the event's day and the B of those hours
abbrev pub adjusted_from : ℕ → ℕ → ℕ → ℕ → ℕ → ℕ
adjusted_from p q p₃ q₃ b = moved_within b (15 * (p + q)) (5 * (p₃ + q₃))

-- the adjusted baseline of hour h of day d whose event's notice falls in hour n: the two hours are the two before hour n.
-- No notice falls before 11:00, so that there are two.
unfoldable pub adjusted_of : Table → List ℕ → ℕ → ℕ → ℕ → ℕ
adjusted_of t days d n h =
    adjusted_from (load t d (n - 2)) (load t d (n - 1)) (base_of t days (n - 2)) (base_of t days (n - 1)) (base_of t days h)

-- how far a load lies below an adjusted baseline, rounded down to whole Wh, and 0 where it lies above
abbrev pub reduction_from : ℕ → ℕ → ℕ
reduction_from adjusted drawn = (adjusted - 30 * drawn) / 30

-- the reduction of hour h of day d whose event's notice falls in hour n
unfoldable pub reduction_of : Table → List ℕ → ℕ → ℕ → ℕ → ℕ
reduction_of t days d n h = reduction_from (adjusted_of t days d n h) (load t d h)

-- how far a reduction falls short of a nomination in kW
abbrev pub shortfall_of : ℕ → ℕ → ℕ
shortfall_of nominated reduction = 1000 * nominated - reduction

-- what is measured in an event hour, from the days to compare with, the hour of the notice and the week's nomination
abbrev pub measured_of : Table → List ℕ → ℕ → ℕ → EventHour → MeasuredHour
measured_of t days n nominated p =
    record {
      event = p.event;
      day = p.day;
      hour = p.hour;
      base = base_of t days p.hour;
      adjusted = adjusted_of t days p.day n p.hour;
      reduction = reduction_of t days p.day n p.hour;
      shortfall = shortfall_of nominated (reduction_of t days p.day n p.hour);
    }

-- the hour of the day in which the notice of a day's event falls
abbrev pub notice_hour : Season → ℕ → ℕ
notice_hour s d = minute_of (event_of (day_at s d)).notice / 60

-- a site's nomination for the week of a day
abbrev pub nomination_on : Season → Site → ℕ → ℕ
nomination_on s x d = nomination_for x (week_of s.year d)

-- what is measured of a site in an event hour of a season
abbrev pub measured : Season → Site → Table → EventHour → MeasuredHour
measured s x t p = measured_of t (comparison_days s p.day) (notice_hour s p.day) (nomination_on s x p.day) p

-- in all hours of its standing events, by day and hour
abbrev pub measured_hours : Season → Site → Table → List MeasuredHour
measured_hours s x t = map (measured s x t) (season_event_hours s)

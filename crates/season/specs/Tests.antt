-- What a record says of its days and sites, as tests.
use Rattle.std.specs.Prelude.{◌≡◌, ℕ, ◌≤◌, Bool, true, not, ◌&&◌, List, length, ◌==◌}
use Rattle.std.specs.List.{list_all}
use Rattle.tariff.specs.Calendar.{business, in_season, day_of}
use Rattle.tariff.specs.Events.{announced, event_of, day_in, week_hours_before}
use Rattle.tariff.specs.Calls.{hours_outside, notice_outside, figure_outside}
use Rattle.tariff.specs.declared.season.Site.{Site}
use Rattle.tariff.specs.declared.season.Event.{Event}
use Rattle.tariff.specs.declared.season.Day.{Day}

-- an event fit for its day
abbrev pub is_fit : ℕ → ℕ → Event → Bool
is_fit year day e =
    business year day && (in_season day && (not (hours_outside e.start e.length) && (day_of e.notice == day && not (notice_outside e.notice e.start))))

abbrev pub AllFit : ℕ → List Day → Type 0
AllFit year days = (d : ℕ) → announced (day_in days d) ≡ true → is_fit year d (event_of (day_in days d)) ≡ true

-- no week has more than 15 standing hours
abbrev pub WeeksHold : ℕ → List Day → Type 0
WeeksHold year days = (w : ℕ) → week_hours_before year w days 76 ≤ 15

-- a site with a figure for each of ten weeks
abbrev pub is_whole : Site → Bool
is_whole x =
    (length x.weeks == 10) && (list_all (λ kw. not (figure_outside x.kind kw)) x.weeks && not (figure_outside x.kind x.highest))

abbrev pub AllWhole : List Site → Type 0
AllWhole xs = list_all is_whole xs ≡ true

-- A season whose hours are measured and paid for is settled as the tariff says.
use Rattle.std.proofs.Common.{◌≡◌, ℕ, ◌-◌, ◌≤◌, length, get_or, None, Ok, refl, ap, ◌∙◌, arith}
use Rattle.tariff.specs.Calendar.{last_week, programme_days}
use Rattle.tariff.specs.Measure.{measured_hours}
use Rattle.tariff.specs.Pay.{paid_for}
use Rattle.tariff.specs.Season.{Season, season_event_hours}
use Rattle.tariff.specs.Statement.{refused_or, season_fault, statement_of}
use Rattle.tariff.specs.Tables.{Table}
use Rattle.tariff.specs.declared.season.Site.{Site}
use Rattle.tariff.specs.declared.statement.Statement.{Statement}
use Rattle.pay.specs.Listed.{listed}
use Rattle.pay.specs.Paying.{PaidAsTheTariffSays}
use Rattle.pay.specs.declared.list.HourList.{HourList}
use Rattle.pay.specs.declared.weeks.Weeks.{Weeks}
use Rattle.statement.specs.Measured.{SeasonMeasured}

pub settled : (s : Season) (x : Site) (t : Table) (list : HourList) (weeks : Weeks) (year : ℕ) (r : Statement) (n : ℕ) →
    SeasonMeasured s x t list →
    PaidAsTheTariffSays (listed list) x.weeks weeks.days weeks.last r →
    year ≡ s.year →
    weeks.last ≡ last_week year →
    ((w : ℕ) → 1 ≤ w → w ≤ 10 → get_or weeks.days (w - 1) 0 ≡ programme_days year w) →
    n ≡ length (listed list) →
    Ok (r, n) ≡ refused_or (season_fault s t) (statement_of s x t, length (season_event_hours s))
unfolding statement_of
settled s x t list weeks year r n m paid ey el ew en =
    let ten : weeks.last ≤ 10 = weeks.within in
    let own : r ≡ paid_for s.year x (measured_hours s x t) =
    paid s.year x (record { in_weeks = m.weeks; of_site = refl; to_last = el ∙ ap last_week ey; of_weeks = λ w from to. ew w from (omega arith) ∙ ap (λ y. programme_days y w) ey })
    ∙ ap (paid_for s.year x) m.hours
    in
    let count : n ≡ length (season_event_hours s) = en ∙ m.counts in
    let none : season_fault s t ≡ None = m.answered in
    cc

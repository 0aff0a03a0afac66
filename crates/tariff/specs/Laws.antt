-- What plant managers, tenants and the company may rely on.
use Rattle.std.specs.Prelude.{◌≡◌, ℕ, ◌≤◌, Bool, true, false, cond, not, List, [], ◌∷◌, ◌==◌}
use Rattle.std.specs.List.{AllZip}
use Rattle.tariff.specs.Calls.{run, answers}
use Rattle.tariff.specs.Lines.{ReducedNoLess, NoWorse, OthersKept, Both}
use Rattle.tariff.specs.Measure.{measured_hours}
use Rattle.tariff.specs.Pay.{paid_for}
use Rattle.tariff.specs.Readings.{Deeper, OnlyDay}
use Rattle.tariff.specs.Season.{Season, opened, standing}
use Rattle.tariff.specs.Sound.{OfSoundSeasons}
use Rattle.tariff.specs.Statement.{outcome}
use Rattle.tariff.specs.Tables.{Table, Agree}
use Rattle.tariff.specs.declared.call.Call.{Call}
use Rattle.tariff.specs.declared.call.Call.TheVariants.{Enrol, Nominate, Announce, Revoke, Close}
use Rattle.tariff.specs.declared.season.Site.{Site}
use Rattle.tariff.specs.declared.statement.MeasuredHour.{MeasuredHour}

-- ---- a deeper cut never costs

-- A deeper cut moves no baseline, is charged no more and earns no less, on any site's statement.
abbrev pub DeeperCutNeverCosts : Season → Type 0
DeeperCutNeverCosts s = (site : ℕ) (t u : Table) → Deeper s t u → Both NoWorse (outcome s site t) (outcome s site u)

-- Measuring: deeper cuts give reductions no lower, at the same baselines.
abbrev pub DeeperCutsReduceNoLess : Type 0
DeeperCutsReduceNoLess =
    OfSoundSeasons (λ s. (x : Site) (t u : Table) → Deeper s t u → AllZip ReducedNoLess (measured_hours s x t) (measured_hours s x u))

-- Paying: reductions no lower, with shortfalls no higher and all else equal, raise no adjustment charged and lower no net.
abbrev pub ReducingNoLessNeverCosts : Type 0
ReducingNoLessNeverCosts =
    (year : ℕ) (x : Site) (hours more : List MeasuredHour) →
    AllZip ReducedNoLess hours more → NoWorse (paid_for year x hours) (paid_for year x more)

-- ---- events stand apart

-- The loads of one standing event's day show in no line of another event.
abbrev pub EventsStandApart : Season → Type 0
EventsStandApart s =
    (site : ℕ) (t u : Table) (day : ℕ) → standing s day ≡ true → OnlyDay day t u → Both (OthersKept day) (outcome s site t) (outcome s site u)

-- ---- only the summer counts

-- Tables that agree on the hours of the summer settle alike, whatever they hold elsewhere.
abbrev pub OnlyTheSummerCounts : Season → Type 0
OnlyTheSummerCounts s = (site : ℕ) (t u : Table) → Agree t u → outcome s site t ≡ outcome s site u

-- ---- sites stand apart

-- a call is a nomination for a site other than this one
abbrev pub for_another : ℕ → Call → Bool
for_another site (Enrol m k kw) = false
for_another site (Nominate m i w kw) = not (i == site)
for_another site (Announce m start len) = false
for_another site (Revoke m) = false
for_another site Close = false

-- a list of calls without the nominations for other sites
unfoldable pub without_others : ℕ → List Call → List Call
without_others site [] = []
without_others site (c ∷ cs) = cond (for_another site c) (without_others site cs) (c ∷ without_others site cs)

-- of the answers to a list of calls, those to the calls that are no nominations for other sites
unfoldable pub answers_without_others : {A : Type 0} → ℕ → List Call → List A → List A
answers_without_others site [] rest = []
answers_without_others site (c ∷ cs) [] = []
answers_without_others site (c ∷ cs) (a ∷ rest) =
    cond (for_another site c) (answers_without_others site cs rest) (a ∷ answers_without_others site cs rest)

-- Nominations for other sites, taken or refused, show in no answer to another call and on no statement of a site.
abbrev pub SitesStandApart : Type 0
SitesStandApart =
    (old old' : Season) (year : ℕ) → 2015 ≤ year → year ≤ 2099 → (site : ℕ) (one two : List Call) →
    without_others site one ≡ without_others site two →
    (answers_without_others site one (answers (opened old year) one) ≡ answers_without_others site two (answers (opened old' year) two))
    × ((t : Table) → outcome (run (opened old year) one) site t ≡ outcome (run (opened old' year) two) site t)

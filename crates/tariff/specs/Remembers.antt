-- The season remembers what was taken: what holds of its history, and of the season after it.
use Rattle.std.specs.Prelude.{◌≡◌, ℕ, ◌+◌, ◌-◌, ◌≤◌, true, List, ◌∷◌, ◌++◌, ◌≢◌}
use Rattle.tariff.specs.Calendar.{day_of}
use Rattle.tariff.specs.Calls.{run}
use Rattle.tariff.specs.History.{Entry, History, history, taken, accepted_announcement, figure_for, accepted_announcements, accepted_revocations, accepted_enrolments, announced_hours, revoked_hours, last_moment, highest_figure, last_figure}
use Rattle.tariff.specs.Season.{Season, opened, site_at, nomination_for}
use Rattle.tariff.specs.declared.call.Call.{Call}
use Rattle.tariff.specs.declared.call.Call.TheVariants.{Enrol, Announce, Close}
use Rattle.tariff.specs.declared.call.Answer.{Answer}
use Rattle.tariff.specs.declared.call.Answer.TheVariants.{Site as SiteNumber, Announced, Closed}

-- An accepted announcement answers how many announcements have been accepted up to it, itself included.
abbrev pub AnnouncementsAreCounted : History → Type 0
AnnouncementsAreCounted h =
    (before later : History) (m start len : ℕ) (a : Answer) →
    h ≡ before ++ taken (Announce m start len) a ∷ later →
    a ≡ Announced (accepted_announcements before + 1)

-- Once an announcement for a day has been accepted, no later announcement for that day is, whatever comes between the two: the
-- day's event may have been revoked.
abbrev pub NoDayIsAnnouncedAgain : History → Type 0
NoDayIsAnnouncedAgain h =
    (before between later : History) (m start len n start' len' : ℕ) (a b : Answer) →
    h ≡ before ++ taken (Announce m start len) a ∷ (between ++ taken (Announce n start' len') b ∷ later) →
    day_of m ≢ day_of n

-- An accepted closing's events are the accepted announcements before it less the accepted revocations before it, and its hours
-- are the lengths announced less the lengths revoked; of neither has more been revoked than announced.
abbrev pub ClosingsTellWhatIsLeft : History → Type 0
ClosingsTellWhatIsLeft h =
    (before later : History) (a : Answer) →
    h ≡ before ++ taken Close a ∷ later →
    (a ≡ Closed (accepted_announcements before - accepted_revocations before) (announced_hours before - revoked_hours before))
    × (accepted_revocations before ≤ accepted_announcements before) × (revoked_hours before ≤ announced_hours before)

-- The clock is the moment of the last accepted announcement or revocation, and 0 if there is none.
abbrev pub TheClockIsTheLastMoment : Season → History → Type 0
TheClockIsTheLastMoment s h = s.clock ≡ last_moment h

-- An accepted enrolment answers how many enrolments have been accepted up to it, itself included: that is its site's number.
abbrev pub EnrolmentsAreCounted : History → Type 0
EnrolmentsAreCounted h =
    (before later : History) (m k kw : ℕ) (a : Answer) →
    h ≡ before ++ taken (Enrol m k kw) a ∷ later →
    a ≡ SiteNumber (accepted_enrolments before + 1)

-- A site's figure for a week is that of the last accepted nomination for the site with that or an earlier week, else its
-- enrolment's. It is said of every site that was enrolled, and of ten weeks, which no season exceeds.
abbrev pub FiguresAreTheLastTaken : Season → History → Type 0
FiguresAreTheLastTaken s h =
    (site week : ℕ) → 1 ≤ site → site ≤ accepted_enrolments h → 1 ≤ week → week ≤ 10 →
    nomination_for (site_at s site) week ≡ last_figure site week h

-- After the third accepted announcement no figure is taken for a site, by nomination or enrolment, that is above the highest
-- taken for it before the third.
abbrev pub NoFigureRisesAfterTheThird : History → Type 0
NoFigureRisesAfterTheThird h =
    (before between later : History) (third e : Entry) (site : ℕ) →
    h ≡ before ++ third ∷ (between ++ e ∷ later) →
    accepted_announcement third ≡ true → accepted_announcements before ≡ 2 →
    figure_for site e ≤ highest_figure site before

-- what a season remembers of its history
pub record Remembers (s : Season) (h : History) : Type 0 where
  pub counted : AnnouncementsAreCounted h
  pub once : NoDayIsAnnouncedAgain h
  pub left : ClosingsTellWhatIsLeft h
  pub clock : TheClockIsTheLastMoment s h
  pub numbered : EnrolmentsAreCounted h
  pub figures : FiguresAreTheLastTaken s h
  pub held : NoFigureRisesAfterTheThird h

-- The season remembers what was taken: any list of calls, refused ones included, of a season newly opened for a year from 2015
-- to 2099, whatever the record held before.
abbrev pub TheSeasonRemembers : Type 0
TheSeasonRemembers =
    (old : Season) (year : ℕ) → 2015 ≤ year → year ≤ 2099 → (calls : List Call) →
    Remembers (run (opened old year) calls) (history (opened old year) calls)

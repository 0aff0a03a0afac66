-- The season remembers what was taken.
use Rattle.std.proofs.Common.{◌≡◌, ℕ, ◌+◌, false, List, [], ◌∷◌, ◌++◌, sym, ap, ◌∙◌, ap₂, arith}
use Rattle.std.proofs.lemmas.List.{append_assoc}
use Rattle.std.proofs.lemmas.Bool.{both_ways}
use Rattle.std.proofs.lemmas.Bool.Decides.{nat_tests}
use Rattle.tariff.specs.Calendar.{day_of}
use Rattle.tariff.specs.Events.{announced}
use Rattle.tariff.specs.Season.{Season, opened, day_at, announcements, standing_events, standing_hours}
use Rattle.tariff.specs.Calls.{run, next, announce_checks}
use Rattle.tariff.specs.History.{Entry, History, history, taken, figure_for, accepted_announcements, accepted_revocations, announced_hours, revoked_hours, highest_figure}
use Rattle.tariff.specs.Remembers.{AnnouncementsAreCounted, NoDayIsAnnouncedAgain, ClosingsTellWhatIsLeft, TheClockIsTheLastMoment, EnrolmentsAreCounted, FiguresAreTheLastTaken, NoFigureRisesAfterTheThird, TheSeasonRemembers}
use Rattle.tariff.specs.declared.call.Call.{Call}
use Rattle.tariff.specs.declared.call.Call.TheVariants.{Enrol, Announce, Close}
use Rattle.tariff.specs.declared.call.Answer.{Answer}
use Rattle.tariff.specs.declared.call.Answer.TheVariants.{Site as SiteNumber, Announced, Closed}
use Rattle.tariff.proofs.HistoryCalls.{Passed, Answered, answered, entry, after_call, after_calls, Split, split}
use Rattle.tariff.proofs.HistoryDays.{SeasonDaysAgree, announced_in, announced_since, announcements_push, refused_days, accepted_days, days_agree}
use Rattle.tariff.proofs.HistorySites.{SeasonSitesAgree, highest_push, refused_sites, accepted_sites, sites_agree}
use Rattle.tariff.proofs.HistoryThird.{announcement_figure, no_higher, Held, refused_held, accepted_held}

-- the season that accepted a call of a history agrees with the history before that call, and gave the answer
record Accepting (before : History) (c : Call) (a : Answer) : Type 0 where
  pub season : Season
  pub days : SeasonDaysAgree season before
  pub sites : SeasonSitesAgree season before
  pub gave : Answered season c a

module _ (old : Season) (year : ℕ) (calls : List Call) where
  accepting : (before later : History) (c : Call) (a : Answer) → history (opened old year) calls ≡ before ++ taken c a ∷ later → Accepting before c a
  accepting before later c a e =
      let parts : Split (opened old year) calls before (taken c a) later = split (opened old year) calls before (taken c a) later e in
      record {
        season = run (opened old year) parts.first;
        days = rw parts.before_is at (days_agree old year parts.first);
        sites = rw parts.before_is at (sites_agree old year parts.first);
        gave = answered (run (opened old year) parts.first) c a (ap (λ (x : Entry). x.reply) parts.entry_is);
      }

  counted : AnnouncementsAreCounted (history (opened old year) calls)
  counted before later m start len a e =
      let s = accepting before later (Announce m start len) a e in
      let so_far : announcements s.season ≡ accepted_announcements before = s.days.counted in
      s.gave.1 ∙ ap (λ (n : ℕ). Announced (n + 1)) so_far

  once : NoDayIsAnnouncedAgain (history (opened old year) calls)
  once before between later m start len n start' len' a b e same =
      let front : History = before ++ taken (Announce m start len) a ∷ between in
      let q : history (opened old year) calls ≡ front ++ taken (Announce n start' len') b ∷ later =
      e ∙ sym (append_assoc before (taken (Announce m start len) a ∷ between) (taken (Announce n start' len') b ∷ later)) in
      let s = accepting front later (Announce n start' len') b q in
      let p : Passed (announce_checks s.season n start' len') = s.gave.0 in
      let fresh : announced (day_at s.season (day_of n)) ≡ false = grind (arith, nat_tests) in
      both_ways (announced_in (day_of n) front) (sym (s.days.told (day_of n)) ∙ fresh) (rw (← same) (announced_since m start len a before between))

  left : ClosingsTellWhatIsLeft (history (opened old year) calls)
  left before later a e =
      let s = accepting before later Close a e in
      let all-events : standing_events s.season + accepted_revocations before ≡ accepted_announcements before = s.days.events in
      let all-hours : standing_hours s.season + revoked_hours before ≡ announced_hours before = s.days.hours in
      (s.gave.1 ∙ ap₂ Closed (omega arith) (omega arith), omega arith, omega arith)

  clock : TheClockIsTheLastMoment (run (opened old year) calls) (history (opened old year) calls)
  clock = (days_agree old year calls).time

  numbered : EnrolmentsAreCounted (history (opened old year) calls)
  numbered before later m k kw a e =
      let s = accepting before later (Enrol m k kw) a e in
      s.gave.1 ∙ ap (λ (n : ℕ). SiteNumber (n + 1)) s.sites.many

  figures : FiguresAreTheLastTaken (run (opened old year) calls) (history (opened old year) calls)
  figures site week low high one ten =
      let g : SeasonSitesAgree (run (opened old year) calls) (history (opened old year) calls) = sites_agree old year calls in
      g.figures site week low (omega (arith, g.many)) one ten

  held : NoFigureRisesAfterTheThird (history (opened old year) calls)
  held before between later third e site q is-third two =
      let start : Season = opened old year in
      let front : History = before ++ third ∷ between in
      let whole : history start calls ≡ front ++ e ∷ later = q ∙ sym (append_assoc before (third ∷ between) (e ∷ later)) in
      let outer : Split start calls front e later = split start calls front e later whole in
      let inner : Split start outer.first before third between = split start outer.first before third between outer.before_is in
      let s : Season = run start inner.first in
      let h : History = before ++ third ∷ [] in
      let top : ℕ = highest_figure site before in
      let days : SeasonDaysAgree s before = rw inner.before_is at (days_agree old year inner.first) in
      let sites : SeasonSitesAgree s before = rw inner.before_is at (sites_agree old year inner.first) in
      let three : accepted_announcements h ≡ accepted_announcements before + 1 = rw is-third at (announcements_push before third) in
      let at-third : Held site top (next s third.call) h = (
        rw inner.entry_is at (after_call SeasonDaysAgree refused_days accepted_days s before third.call days),
        rw inner.entry_is at (after_call SeasonSitesAgree refused_sites accepted_sites s before third.call sites),
        omega (arith, three, two),
        omega (arith, highest_push before third site, announcement_figure site third is-third),
      ) in
      let last : Season = run (next s third.call) inner.rest in
      let so_far : History = h ++ history (next s third.call) inner.rest in
      let at_last : Held site top last so_far = after_calls (Held site top) (refused_held site top) (accepted_held site top) (next s third.call) h inner.rest at-third in
      let own : entry last e.call ≡ e = ap (λ (u : Season). entry u e.call) inner.ends ∙ outer.entry_is in
      omega (arith, no_higher last so_far e.call site at_last.0 at_last.1 at_last.2, ap (figure_for site) own, at_last.3)

pub the_season_remembers : TheSeasonRemembers
the_season_remembers old year low high calls = record {
  counted = counted old year calls;
  once = once old year calls;
  left = left old year calls;
  clock = clock old year calls;
  numbered = numbered old year calls;
  figures = figures old year calls;
  held = held old year calls;
}

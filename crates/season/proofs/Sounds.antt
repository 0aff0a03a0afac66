-- Every record stands for a sound season; and what a sound season gives back to a record.
use Rattle.std.proofs.Common.{◌≡◌, ℕ, ◌+◌, ◌*◌, ◌≤◌, Bool, true, false, not, ◌&&◌, eqb, List, [], length, replicate, Result, sym, refl, ap, ◌∙◌, subst, arith, length-take}
use Rattle.std.specs.Bool.{Decides}
use Rattle.std.specs.List.{AllByRecursion, list_all}
use Rattle.std.proofs.ByRecursion.{Decides-by_and}
use Rattle.std.proofs.lemmas.Bool.{and_parts, and_from, eqb-true}
use Rattle.std.proofs.lemmas.Bool.Decides.{nat_tests}
use Rattle.tariff.specs.Season as model
use Rattle.tariff.specs.Calendar.{business, in_season, day_of, minute_of}
use Rattle.tariff.specs.Calls.{figure_outside, hours_outside, notice_outside, answer, after}
use Rattle.tariff.specs.Events.{event_of, hours_before}
use Rattle.tariff.specs.Sound.{Fit, Figure, Whole, Sound}
use Rattle.tariff.specs.declared.season.Kind.{Kind}
use Rattle.tariff.specs.declared.season.Site.{Site}
use Rattle.tariff.specs.declared.season.Event.{Event}
use Rattle.tariff.specs.declared.season.Day.TheVariants.{NoEvent}
use Rattle.tariff.specs.declared.call.Call.{Call}
use Rattle.tariff.specs.declared.call.Answer.{Answer}
use Rattle.tariff.specs.declared.call.SeasonRefusal.{SeasonRefusal}
use Rattle.tariff.proofs.Runs.{opened_sound, next_sound}
use Rattle.season.specs.Tables.{listed}
use Rattle.season.specs.Tests.{is_fit, AllFit, WeeksHold, is_whole, AllWhole}
use Rattle.season.specs.View.{view, view_of}
use Rattle.season.specs.declared.events.EventTable.{EventTable}
use Rattle.season.specs.declared.season.Season.{Season}
use Rattle.season.specs.declared.sites.SiteTable.{SiteTable}

in_days : (day : ℕ) → in_season day ≡ true → (14 ≤ day) × (day ≤ 75)
in_days day h = grind (arith, nat_tests)

in_hours : (start len : ℕ) → not (hours_outside start len) ≡ true → (2 ≤ len) × (len ≤ 4) × (14 ≤ start) × (start + len ≤ 20)
in_hours start len h = grind (arith, nat_tests)

in_time : (m start : ℕ) → not (notice_outside m start) ≡ true → (60 * start ≤ minute_of m + 180) × (minute_of m + 60 ≤ 60 * start)
in_time m start h = grind (arith, nat_tests)

fit_of : (year day : ℕ) (e : Event) → is_fit year day e ≡ true → Fit year day e
fit_of year day e h =
    let p = and_parts (business year day) _ h in
    let q = and_parts (in_season day) _ p.1 in
    let r = and_parts (not (hours_outside e.start e.length)) _ q.1 in
    let s = and_parts (eqb (day_of e.notice) day) _ r.1 in
    let d = in_days day q.0 in
    let l = in_hours e.start e.length r.0 in
    let t = in_time e.notice e.start s.1 in
    record {
      on_business = p.0;
      opens = d.0;
      ends = d.1;
      shortest = l.0;
      longest = l.1;
      earliest = l.2;
      latest = l.3;
      same_day = eqb-true (day_of e.notice) day s.0;
      three_hours = t.0;
      one_hour = t.1;
    }

fit_from : (year day : ℕ) (e : Event) → Fit year day e → is_fit year day e ≡ true
fit_from year day e f = grind (arith, nat_tests)

figure_of : (k : Kind) (kw : ℕ) → not (figure_outside k kw) ≡ true → Figure k kw
figure_of k kw h = grind (arith, nat_tests)

figure_from : (k : Kind) (kw : ℕ) → Figure k kw → not (figure_outside k kw) ≡ true
figure_from k kw f = grind (arith, nat_tests)

figures_decide : (k : Kind) (xs : List ℕ) → Decides (list_all (λ kw. not (figure_outside k kw)) xs) (AllByRecursion (Figure k) xs)
figures_decide k = Decides-by_and (λ kw. not (figure_outside k kw)) (Figure k) (list_all (λ kw. not (figure_outside k kw))) (λ kw. (figure_of k kw, figure_from k kw)) refl (λ x xs. refl)

whole_of : (x : Site) → is_whole x ≡ true → Whole x
whole_of x h =
    let p = and_parts (eqb (length x.weeks) 10) (list_all (λ kw. not (figure_outside x.kind kw)) x.weeks && not (figure_outside x.kind x.highest)) h in
    let q = and_parts (list_all (λ kw. not (figure_outside x.kind kw)) x.weeks) (not (figure_outside x.kind x.highest)) p.1 in
    record { ten = eqb-true (length x.weeks) 10 p.0; figures = (figures_decide x.kind x.weeks).0 q.0; top = figure_of x.kind x.highest q.1 }

whole_from : (x : Site) → Whole x → is_whole x ≡ true
whole_from x w =
    and_from _ _ (grind (arith, nat_tests)) (and_from _ _ ((figures_decide x.kind x.weeks).1 w.figures) (figure_from x.kind x.highest w.top))

sites_decide : (xs : List Site) → Decides (list_all is_whole xs) (AllByRecursion Whole xs)
sites_decide = Decides-by_and is_whole Whole (list_all is_whole) (λ x. (whole_of x, whole_from x)) refl (λ x xs. refl)

pub sound_of : (s : Season) → Sound (view s)
sound_of s = record {
  summer = s.events.summer;
  events = λ d h. fit_of s.year d (event_of (model.day_at (view s) d)) (s.fit d h);
  weekly = s.weekly;
  overall = s.full;
  few = omega (arith, length-take s.sites.count s.sites.sites, s.sites.room);
  whole = (sites_decide (view s).sites).0 s.whole;
}

-- the facts of a record, by their names
abbrev Facts : ℕ → SiteTable → EventTable → Type 0
Facts year sites events = record {
  whole : AllWhole (listed sites);
  fit : AllFit year events.days;
  weekly : WeeksHold year events.days;
  full : hours_before events.days 76 ≤ 60;
}

facts : (year clock : ℕ) (closed : Bool) (sites : SiteTable) (events : EventTable) → Sound (view_of year closed clock sites events) → Facts year sites events
facts year clock closed sites events a =
    let fit : AllFit year events.days = λ d h. fit_from year d (event_of (model.day_at (view_of year closed clock sites events) d)) (a.events d h) in
    record {
      whole = (sites_decide (listed sites)).1 a.whole;
      fit = fit;
      weekly = a.weekly;
      full = a.overall;
    }

-- of a record that stands for the season which a call leaves
pub facts_after : (s : Season) (c : Call) (a : Result Answer SeasonRefusal) (year clock : ℕ) (closed : Bool) (sites : SiteTable) (events : EventTable) → a ≡ answer (view s) c → view_of year closed clock sites events ≡ after (view s) c a → Facts year sites events
facts_after s c a year clock closed sites events answered e =
    facts year clock closed sites events (subst Sound (sym (e ∙ ap (after (view s) c) answered)) (next_sound (view s) c (sound_of s)))

-- of a record with no sites and no events
pub fresh_facts : (year : ℕ) (sites : SiteTable) (events : EventTable) → sites.count ≡ 0 → events.days ≡ replicate 76 NoEvent → Facts year sites events
fresh_facts year sites events none eventless =
    let empty : listed sites ≡ [] = rw none in
    let same : model.opened model.never_opened year ≡ view_of year false 0 sites events = rw (empty, eventless) in
    facts year 0 false sites events (subst Sound same (opened_sound model.never_opened year))

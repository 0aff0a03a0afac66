-- Every season that calls have made is sound.
use Rattle.std.proofs.Common.{◌≡◌, ℕ, ◌+◌, ◌-◌, ◌<◌, ◌≤◌, Bool, true, false, cond, List, [], ◌∷◌, length, take, replicate, sym, refl, ap, ◌∙◌, subst, inl, inr, le_trans, le_of_eq, arith, length-append, length-set, length-take, get_or-set_other, get_or-set_same}
use lib.ListN.{length-replicate}
use Rattle.std.specs.List.{AllByRecursion}
use Rattle.std.proofs.ByRecursion.{All-push, All-set, All-get_or, All-append, All-take}
use Rattle.std.proofs.lemmas.List.Elements.{All-replicate, recursion_from_All}
use Rattle.std.proofs.lemmas.Bool.{false≢true, cases_eq, cond_both, eqb-true}
use Rattle.std.proofs.lemmas.Bool.Decides.{nat_tests}
use Rattle.tariff.specs.Calendar.{week_of, in_week, day_of}
use Rattle.tariff.specs.Events.{stands, announced, event_of, day_hours}
use Rattle.tariff.specs.Kinds.{kind_of}
use Rattle.tariff.specs.Season.{Season, opened, day_at, standing, hours_of_week, standing_hours, announcements, standing_events, site_at, no_site, nominated_site}
use Rattle.tariff.specs.Calls.{run, next, enrolled, nominated, with_day, with_event, without_event, closed_with, enrol_checks, nominate_checks, announce_checks, revoke_checks, close_checks}
use Rattle.tariff.specs.Sound.{Fit, Figure, Whole, Sound, SeasonsAreSound}
use Rattle.tariff.specs.declared.season.Site.{Site}
use Rattle.tariff.specs.declared.season.Day.{Day}
use Rattle.tariff.specs.declared.season.Day.TheVariants.{NoEvent, Standing, Revoked}
use Rattle.tariff.specs.declared.call.Call.{Call}
use Rattle.tariff.specs.declared.call.Call.TheVariants.{Enrol, Nominate, Announce, Revoke, Close}
use Rattle.tariff.specs.declared.call.Answer.TheVariants.{Site as SiteNumber, Week, Announced, Revoked as RevokedHours}
use Rattle.tariff.proofs.EventHours.{hours_total, week_hours_total}
use Rattle.tariff.proofs.Kept.{Passed, kept}
use Rattle.tariff.proofs.Pointwise.{replicate_at}
use Rattle.tariff.proofs.Totals.{total_none, total_bump}

-- ---- a season without events

-- no day has an event
module _ (s : Season) (none : (d : ℕ) → day_at s d ≡ NoEvent) where
  no_hours : (d : ℕ) → day_hours (day_at s d) ≡ 0
  no_hours d = ap day_hours (none d)

  no_week_hours : (w : ℕ) → hours_of_week s w ≡ 0
  no_week_hours w =
      week_hours_total s.year w s.days 76
      ∙ total_none (λ d. cond (in_week s.year w d) (day_hours (day_at s d)) 0) 76 (λ d. cond_both (in_week s.year w d) (day_hours (day_at s d)) 0 (λ k. k ≡ 0) (λ _. no_hours d) (λ _. refl))

  no_standing_hours : standing_hours s ≡ 0
  no_standing_hours = hours_total s.days 76 ∙ total_none (λ d. day_hours (day_at s d)) 76 no_hours

  eventless_sound : length s.days ≡ 76 → length s.sites ≤ 64 → AllByRecursion Whole s.sites → Sound s
  eventless_sound summer few whole = record {
    summer = summer;
    events = λ d h. absurd (false≢true (sym (ap announced (none d)) ∙ h));
    weekly = λ w. omega (arith, no_week_hours w);
    overall = omega (arith, no_standing_hours);
    few = few;
    whole = whole;
  }

pub opened_sound : (old : Season) (year : ℕ) → Sound (opened old year)
opened_sound old year = eventless_sound (opened old year) (replicate_at NoEvent 76) (length-replicate 76 NoEvent) (omega arith) tt

-- ---- the days as they were

abbrev refit : Season → Bool → List Site → Season
refit s c xs = record { year = s.year; closed = c; clock = s.clock; sites = xs; days = s.days }

refit_sound : (s : Season) (c : Bool) (xs : List Site) → Sound s → length xs ≤ 64 → AllByRecursion Whole xs → Sound (refit s c xs)
refit_sound s c xs a few whole = record {
  summer = a.summer;
  events = a.events;
  weekly = a.weekly;
  overall = a.overall;
  few = few;
  whole = whole;
}

enrolled_sound : (s : Season) (m k kw : ℕ) → Sound s → Passed (enrol_checks s m k kw) → Sound (enrolled s k kw)
enrolled_sound s m k kw a p =
    let f : Figure (kind_of k) kw = grind (arith, nat_tests) in
    refit_sound s _ _ a
    (simp length-append (grind (arith, nat_tests)))
    (All-push Whole s.sites _ a.whole (record { ten = length-replicate 10 kw; figures = recursion_from_All (Figure (kind_of k)) (replicate 10 kw) (All-replicate (Figure (kind_of k)) 10 kw f); top = f }))

nominated_whole : (x : Site) (w kw : ℕ) → Whole x → Figure x.kind kw → Whole (nominated_site x w kw)
nominated_whole x w kw h f = record {
  ten = simp (length-append, length-take, length-replicate) (omega (arith, h.ten));
  figures =
      All-append (Figure x.kind) (take (w - 1) x.weeks) (replicate (length x.weeks - (w - 1)) kw)
      (All-take (Figure x.kind) (w - 1) x.weeks h.figures) (recursion_from_All (Figure x.kind) (replicate (length x.weeks - (w - 1)) kw) (All-replicate (Figure x.kind) (length x.weeks - (w - 1)) kw f));
  top = omega (arith, h.top);
}

nominated_sound : (s : Season) (m i w kw : ℕ) → Sound s → Passed (nominate_checks s m i w kw) → Sound (nominated s i w kw)
nominated_sound s m i w kw a p =
    let old : Whole (site_at s i) = All-get_or Whole s.sites (i - 1) no_site (grind (arith, nat_tests)) a.whole in
    let new : Whole (nominated_site (site_at s i) w kw) = nominated_whole (site_at s i) w kw old (grind (arith, nat_tests)) in
    refit_sound s _ _ a (simp length-set a.few) (All-set Whole s.sites _ _ new a.whole)

-- ---- one day written

cond_grows : (b : Bool) (x y more : ℕ) → (b ≡ true → x ≤ y + more) → cond b x 0 ≤ cond b y 0 + more
cond_grows true x y more h = h refl
cond_grows false x y more h = omega arith

module _ (s : Season) (m : ℕ) (e : Day) where
  other_day : (d : ℕ) → (d ≡ day_of m → ⊥) → day_at (with_day s m e) d ≡ day_at s d
  other_day d h = get_or-set_other s.days (day_of m) d e NoEvent h

  own_day : day_of m < length s.days → day_at (with_day s m e) (day_of m) ≡ e
  own_day h = get_or-set_same s.days (day_of m) e NoEvent h

  other_hours : (d : ℕ) → (d ≡ day_of m → ⊥) → day_hours (day_at (with_day s m e) d) ≡ day_hours (day_at s d)
  other_hours d h = ap day_hours (other_day d h)

  own_hours : day_of m < length s.days → day_hours (day_at (with_day s m e) (day_of m)) ≡ day_hours e
  own_hours h = ap day_hours (own_day h)

  week_grows : (w more : ℕ)
      → cond (in_week s.year w (day_of m)) (day_hours (day_at (with_day s m e) (day_of m))) 0 ≤ cond (in_week s.year w (day_of m)) (day_hours (day_at s (day_of m))) 0 + more
      → hours_of_week (with_day s m e) w ≤ hours_of_week s w + more
  week_grows w more at =
      rw (week_hours_total s.year w s.days 76, week_hours_total s.year w (with_day s m e).days 76)
      (total_bump (λ d. cond (in_week s.year w d) (day_hours (day_at (with_day s m e) d)) 0) (λ d. cond (in_week s.year w d) (day_hours (day_at s d)) 0) (day_of m) more 76
      (λ d h. le_of_eq (ap (λ (n : ℕ). cond (in_week s.year w d) n 0) (other_hours d h))) at)

  hours_grow : (more : ℕ) → day_hours (day_at (with_day s m e) (day_of m)) ≤ day_hours (day_at s (day_of m)) + more → standing_hours (with_day s m e) ≤ standing_hours s + more
  hours_grow more at =
      rw (hours_total s.days 76, hours_total (with_day s m e).days 76)
      (total_bump (λ d. day_hours (day_at (with_day s m e) d)) (λ d. day_hours (day_at s d)) (day_of m) more 76 (λ d h. le_of_eq (other_hours d h)) at)

  day_sound : (more : ℕ) → Sound s → day_of m < length s.days
      → (announced e ≡ true → Fit s.year (day_of m) (event_of e))
      → day_hours (day_at (with_day s m e) (day_of m)) ≤ day_hours (day_at s (day_of m)) + more
      → hours_of_week s (week_of s.year (day_of m)) + more ≤ 15 → standing_hours s + more ≤ 60
      → Sound (with_day s m e)
  day_sound more a l fit grows week all = record {
    summer = length-set s.days (day_of m) e ∙ a.summer;
    events = λ d h. elim (cases_eq d (day_of m)) [
      | inl q ↦
          let g : announced e ≡ true = rw (q, own_day l) at h in
          rw (q, own_day l) (fit g)
      | inr q ↦ rw (other_day d q) (a.events d (rw (other_day d q) at h))
    ];
    weekly = λ w. elim (cases_eq (week_of s.year (day_of m)) w) [
      | inl q ↦ subst (λ (k : ℕ). hours_of_week (with_day s m e) k ≤ 15) q
          (le_trans (week_grows (week_of s.year (day_of m)) more (cond_grows (in_week s.year (week_of s.year (day_of m)) (day_of m)) (day_hours (day_at (with_day s m e) (day_of m))) (day_hours (day_at s (day_of m))) more (λ _. grows))) week)
      | inr q ↦
          le_trans (week_grows w 0 (cond_grows (in_week s.year w (day_of m)) (day_hours (day_at (with_day s m e) (day_of m))) (day_hours (day_at s (day_of m))) 0 (λ b. absurd (q (eqb-true (week_of s.year (day_of m)) w b)))))
          (omega (arith, a.weekly w))
    ];
    overall = le_trans (hours_grow more grows) all;
    few = a.few;
    whole = a.whole;
  }

announced_sound : (s : Season) (m start len : ℕ) → Sound s → Passed (announce_checks s m start len) → Sound (with_event s m start len)
announced_sound s m start len a p =
    let e : Day = Standing (record { start = start; length = len; notice = m }) in
    let inside : day_of m < length s.days = grind (arith, nat_tests, a.summer) in
    day_sound s m e len a inside (λ _. fit) (omega (arith, own_hours s m e inside)) (grind (arith, nat_tests)) (grind (arith, nat_tests))
  where
    fit : Fit s.year (day_of m) (record { start = start; length = len; notice = m })
    fit = grind (arith, nat_tests)

-- a standing event was announced
stood : (x : Day) → stands x ≡ true → announced x ≡ true
stood NoEvent h = h
stood (Standing e) h = refl
stood (Revoked e) h = refl

revoked_sound : (s : Season) (m : ℕ) → Sound s → Passed (revoke_checks s m) → Sound (without_event s m)
revoked_sound s m a p =
    let e : Day = Revoked (event_of (day_at s (day_of m))) in
    let inside : day_of m < length s.days = grind (arith, nat_tests, a.summer) in
    let stands : standing s (day_of m) ≡ true = grind (arith, nat_tests) in
    day_sound s m e 0 a inside (λ _. a.events (day_of m) (stood (day_at s (day_of m)) stands)) (omega (arith, own_hours s m e inside))
    (omega (arith, a.weekly (week_of s.year (day_of m)))) (omega (arith, a.overall))

-- ---- any call, and any list of calls

pub next_sound : (s : Season) (c : Call) → Sound s → Sound (next s c)
next_sound s (Enrol m k kw) a = kept Sound s (Enrol m k kw) SiteNumber (enrol_checks s m k kw) (length s.sites + 1) a (enrolled_sound s m k kw a)
next_sound s (Nominate m i w kw) a = kept Sound s (Nominate m i w kw) Week (nominate_checks s m i w kw) w a (nominated_sound s m i w kw a)
next_sound s (Announce m start len) a =
    kept Sound s (Announce m start len) Announced (announce_checks s m start len) (announcements s + 1) a (announced_sound s m start len a)
next_sound s (Revoke m) a =
    kept Sound s (Revoke m) RevokedHours (revoke_checks s m) (event_of (day_at s (day_of m))).length a (revoked_sound s m a)
next_sound s Close a = kept Sound s Close closed_with (close_checks s) (standing_events s, standing_hours s) a (λ _. refit_sound s true s.sites a a.few a.whole)

pub run_sound : (s : Season) (cs : List Call) → Sound s → Sound (run s cs)
unfolding run
run_sound s [] a = a
run_sound s (c ∷ cs) a = run_sound (next s c) cs (next_sound s c a)

pub seasons_are_sound_lem : SeasonsAreSound
seasons_are_sound_lem old year low high calls = run_sound (opened old year) calls (opened_sound old year)

-- ---- what a standing event of a sound season is

pub standing_fit : (s : Season) (d : ℕ) → Sound s → standing s d ≡ true → Fit s.year d (event_of (day_at s d))
standing_fit s d a h = a.events d (stood (day_at s d) h)

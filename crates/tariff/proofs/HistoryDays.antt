-- The days and the clock of a season agree with its history.
use Rattle.std.proofs.Common.{◌≡◌, ℕ, ◌+◌, ◌<◌, ◌≤◌, Bool, true, false, cond, ◌&&◌, ◌||◌, eqb, List, [], ◌∷◌, ◌++◌, length, set, replicate, fold, sym, refl, ap, ◌∙◌, inl, inr, arith, length-set, get_or-set_other, get_or-set_same}
use mathlib.Core.Bool.{or-true}
use lib.ListN.{length-replicate}
use Rattle.std.proofs.lemmas.List.Sums.{sum_by_push, fold_push}
use Rattle.std.proofs.lemmas.Bool.{cases_eq, eq-eqb, ne_eqb}
use Rattle.std.proofs.lemmas.Bool.Decides.{nat_tests}
use Rattle.tariff.specs.Calendar.{day_of}
use Rattle.tariff.specs.Events.{announced, stands, event_of, day_in, day_hours, announced_before, standing_before, hours_before}
use Rattle.tariff.specs.Season.{Season, opened, day_at, standing}
use Rattle.tariff.specs.Calls.{announce_checks, revoke_checks, after_taken, with_event, without_event, run}
use Rattle.tariff.specs.History.{Entry, History, history, taken, accepted, accepted_announcement, accepted_revocation, length_asked, length_replied, clock_after, accepted_announcements, accepted_revocations, announced_hours, revoked_hours, last_moment}
use Rattle.tariff.specs.declared.season.Day.{Day}
use Rattle.tariff.specs.declared.season.Day.TheVariants.{NoEvent, Standing, Revoked}
use Rattle.tariff.specs.declared.call.Call.{Call}
use Rattle.tariff.specs.declared.call.Call.TheVariants.{Enrol, Nominate, Announce, Revoke, Close}
use Rattle.tariff.specs.declared.call.Answer.{Answer}
use Rattle.tariff.specs.declared.call.Answer.TheVariants.{Revoked as RevokedHours}
use Rattle.tariff.specs.declared.call.SeasonRefusal.{SeasonRefusal}
use Rattle.tariff.proofs.HistoryCalls.{Passed, Answered, refused, after_calls}
use Rattle.tariff.proofs.EventHours.{hours_total}
use Rattle.tariff.proofs.HistoryTotals.{one_if, announced_over, standing_over, over_set, over_none}
use Rattle.tariff.proofs.Pointwise.{replicate_at}

-- ---- whether a day has been announced in a history

abbrev announces : ℕ → Call → Bool
announces d (Enrol m k kw) = false
announces d (Nominate m i w kw) = false
announces d (Announce m start len) = eqb (day_of m) d
announces d (Revoke m) = false
announces d Close = false

abbrev announced_with : ℕ → Bool → Entry → Bool
announced_with d already e = (accepted e.reply && announces d e.call) || already

unfoldable pub announced_in : ℕ → History → Bool
announced_in d h = fold (announced_with d) false h

stays_announced : (d : ℕ) (h : History) → fold (announced_with d) true h ≡ true
stays_announced d [] = refl
stays_announced d (e ∷ h) = rw (or-true (accepted e.reply && announces d e.call)) (stays_announced d h)

-- a day that an accepted announcement of the history was for
pub announced_since : (m start len : ℕ) (a : Answer) (before between : History) → announced_in (day_of m) (before ++ taken (Announce m start len) a ∷ between) ≡ true
unfolding announced_in
announced_since m start len a before between = from false before
  where
    from : (b : Bool) (h : History) → fold (announced_with (day_of m)) b (h ++ taken (Announce m start len) a ∷ between) ≡ true
    from b [] = ap (λ (x : Bool). fold (announced_with (day_of m)) (x || b) between) (eq-eqb (day_of m) (day_of m) refl) ∙ stays_announced (day_of m) between
    from b (e ∷ h) = from (announced_with (day_of m) b e) h

-- ---- one entry more

module _ (h : History) (e : Entry) where
  pub announcements_push : accepted_announcements (h ++ e ∷ []) ≡ accepted_announcements h + cond (accepted_announcement e) 1 0
  unfolding accepted_announcements
  announcements_push = sum_by_push (λ x. cond (accepted_announcement x) 1 0) h e

  revocations_push : accepted_revocations (h ++ e ∷ []) ≡ accepted_revocations h + cond (accepted_revocation e) 1 0
  unfolding accepted_revocations
  revocations_push = sum_by_push (λ x. cond (accepted_revocation x) 1 0) h e

  announced_hours_push : announced_hours (h ++ e ∷ []) ≡ announced_hours h + cond (accepted_announcement e) (length_asked e.call) 0
  unfolding announced_hours
  announced_hours_push = sum_by_push (λ x. cond (accepted_announcement x) (length_asked x.call) 0) h e

  revoked_hours_push : revoked_hours (h ++ e ∷ []) ≡ revoked_hours h + cond (accepted_revocation e) (length_replied e.reply) 0
  unfolding revoked_hours
  revoked_hours_push = sum_by_push (λ x. cond (accepted_revocation x) (length_replied x.reply) 0) h e

  last_moment_push : last_moment (h ++ e ∷ []) ≡ cond (accepted e.reply) (clock_after (last_moment h) e.call) (last_moment h)
  unfolding last_moment
  last_moment_push = fold_push (λ clock x. cond (accepted x.reply) (clock_after clock x.call) clock) 0 h e

  announced_in_push : (d : ℕ) → announced_in d (h ++ e ∷ []) ≡ announced_with d (announced_in d h) e
  unfolding announced_in
  announced_in_push d = fold_push (announced_with d) false h e

-- ---- the clock and the days that agree with a history

pub record DaysAgree (clock : ℕ) (days : List Day) (h : History) : Type 0 where
  pub summer : length days ≡ 76
  pub counted : announced_before days 76 ≡ accepted_announcements h
  pub events : standing_before days 76 + accepted_revocations h ≡ accepted_announcements h
  pub hours : hours_before days 76 + revoked_hours h ≡ announced_hours h
  pub time : clock ≡ last_moment h
  pub told : (d : ℕ) → announced (day_in days d) ≡ announced_in d h
  -- no event is announced before June 15
  pub late : 1 ≤ accepted_announcements h → 20160 ≤ clock

abbrev pub SeasonDaysAgree : Season → History → Type 0
SeasonDaysAgree s h = DaysAgree s.clock s.days h

pub opened_days : (old : Season) (year : ℕ) → SeasonDaysAgree (opened old year) []
unfolding accepted_announcements accepted_revocations announced_hours revoked_hours last_moment announced_in
opened_days old year = record {
  summer = length-replicate 76 NoEvent;
  counted = announced_over (replicate 76 NoEvent) 76 ∙ over_none (one_if announced) 76 76 refl;
  events = omega (arith, standing_over (replicate 76 NoEvent) 76 ∙ over_none (one_if stands) 76 76 refl);
  hours = omega (arith, hours_total (replicate 76 NoEvent) 76 ∙ over_none day_hours 76 76 refl);
  time = refl;
  told = λ d. ap announced (replicate_at NoEvent 76 d);
  late = λ l. let z : ⊥ = omega arith in absurd z;
}

-- an entry that is no accepted announcement or revocation leaves the clock and the days
same_days : (clock : ℕ) (days : List Day) (h : History) (e : Entry) → DaysAgree clock days h
    → accepted_announcement e ≡ false → accepted_revocation e ≡ false
    → ((m : ℕ) → cond (accepted e.reply) (clock_after m e.call) m ≡ m)
    → ((d : ℕ) (b : Bool) → announced_with d b e ≡ b)
    → DaysAgree clock days (h ++ e ∷ [])
same_days clock days h e g no-announcement no-revocation same_clock same_day =
    let a : accepted_announcements (h ++ e ∷ []) ≡ accepted_announcements h + 0 = rw no-announcement at (announcements_push h e) in
    let r : accepted_revocations (h ++ e ∷ []) ≡ accepted_revocations h + 0 = rw no-revocation at (revocations_push h e) in
    let b : announced_hours (h ++ e ∷ []) ≡ announced_hours h + 0 = rw no-announcement at (announced_hours_push h e) in
    let q : revoked_hours (h ++ e ∷ []) ≡ revoked_hours h + 0 = rw no-revocation at (revoked_hours_push h e) in
    record {
      summer = g.summer;
      counted = omega arith;
      events = omega arith;
      hours = omega arith;
      time = g.time ∙ sym (same_clock (last_moment h)) ∙ sym (last_moment_push h e);
      told = λ d. g.told d ∙ sym (same_day d (announced_in d h)) ∙ sym (announced_in_push h e d);
      late = λ l. g.late (omega arith);
    }

-- what a day counts for where nothing was announced, and where an event stands
unannounced : (x : Day) → announced x ≡ false → (one_if announced x ≡ 0) × (one_if stands x ≡ 0) × (day_hours x ≡ 0)
unannounced NoEvent e = (refl, refl, refl)
unannounced (Standing x) e = let z : ◌≡◌ {A = ℕ} 0 1 = cc in let n : ⊥ = omega arith in absurd n
unannounced (Revoked x) e = let z : ◌≡◌ {A = ℕ} 0 1 = cc in let n : ⊥ = omega arith in absurd n

still_stands : (x : Day) → stands x ≡ true → (announced x ≡ true) × (one_if announced x ≡ 1) × (one_if stands x ≡ 1) × (day_hours x ≡ (event_of x).length)
still_stands NoEvent e = let z : ◌≡◌ {A = ℕ} 0 1 = cc in let n : ⊥ = omega arith in absurd n
still_stands (Standing x) e = (refl, refl, refl, refl)
still_stands (Revoked x) e = let z : ◌≡◌ {A = ℕ} 0 1 = cc in let n : ⊥ = omega arith in absurd n

announced_days : (s : Season) (h : History) (m start len : ℕ) (a : Answer) → SeasonDaysAgree s h → Passed (announce_checks s m start len)
    → SeasonDaysAgree (with_event s m start len) (h ++ taken (Announce m start len) a ∷ [])
announced_days s h m start len a g p =
    let fresh : announced (day_at s (day_of m)) ≡ false = grind (arith, nat_tests) in
    let from-june-15 : 20160 ≤ m = grind (arith, nat_tests) in
    let inside : day_of m < 76 = grind (arith, nat_tests) in
    let l : day_of m < length s.days = omega (arith, g.summer) in
    let e : Entry = taken (Announce m start len) a in
    let day : Day = Standing (record { start = start; length = len; notice = m }) in
    let new : List Day = set s.days (day_of m) day in
    let u = unannounced (day_at s (day_of m)) fresh in
    record {
      summer = length-set s.days (day_of m) day ∙ g.summer;
      counted = omega (arith, announced_over new 76, announced_over s.days 76, over_set (one_if announced) s.days (day_of m) 76 day l inside, u.0, announcements_push h e, g.counted);
      events = omega (arith, standing_over new 76, standing_over s.days 76, over_set (one_if stands) s.days (day_of m) 76 day l inside, u.1, announcements_push h e, revocations_push h e, g.events);
      hours = omega (arith, hours_total new 76, hours_total s.days 76, over_set day_hours s.days (day_of m) 76 day l inside, u.2, announced_hours_push h e, revoked_hours_push h e, g.hours);
      time = sym (last_moment_push h e);
      told = λ d. elim (cases_eq d (day_of m)) [
        | inl q ↦ rw (announced_in_push h e d, q, get_or-set_same s.days (day_of m) day NoEvent l, eq-eqb (day_of m) (day_of m) refl)
        | inr q ↦ rw (announced_in_push h e d, get_or-set_other s.days (day_of m) d day NoEvent q, ne_eqb (day_of m) d (λ p'. q (sym p'))) (g.told d)
      ];
      late = λ _. from-june-15;
    }

revoked_days : (s : Season) (h : History) (m : ℕ) → SeasonDaysAgree s h → Passed (revoke_checks s m)
    → SeasonDaysAgree (without_event s m) (h ++ taken (Revoke m) (RevokedHours (event_of (day_at s (day_of m))).length) ∷ [])
revoked_days s h m g p =
    let stood : standing s (day_of m) ≡ true = grind (arith, nat_tests) in
    let after-clock : s.clock ≤ m = grind (arith, nat_tests) in
    let inside : day_of m < 76 = grind (arith, nat_tests) in
    let l : day_of m < length s.days = omega (arith, g.summer) in
    let old : Day = day_at s (day_of m) in
    let e : Entry = taken (Revoke m) (RevokedHours (event_of old).length) in
    let day : Day = Revoked (event_of old) in
    let new : List Day = set s.days (day_of m) day in
    let u = still_stands old stood in
    record {
      summer = length-set s.days (day_of m) day ∙ g.summer;
      counted = omega (arith, announced_over new 76, announced_over s.days 76, over_set (one_if announced) s.days (day_of m) 76 day l inside, u.1, announcements_push h e, g.counted);
      events = omega (arith, standing_over new 76, standing_over s.days 76, over_set (one_if stands) s.days (day_of m) 76 day l inside, u.2, announcements_push h e, revocations_push h e, g.events);
      hours = omega (arith, hours_total new 76, hours_total s.days 76, over_set day_hours s.days (day_of m) 76 day l inside, u.3, announced_hours_push h e, revoked_hours_push h e, g.hours);
      time = sym (last_moment_push h e);
      told = λ d. elim (cases_eq d (day_of m)) [
        | inl q ↦ rw (announced_in_push h e d, q, get_or-set_same s.days (day_of m) day NoEvent l) (sym u.0 ∙ g.told (day_of m))
        | inr q ↦ rw (announced_in_push h e d, get_or-set_other s.days (day_of m) d day NoEvent q) (g.told d)
      ];
      late = λ once. omega (arith, g.late (omega (arith, announcements_push h e)));
    }

-- ---- any call

pub refused_days : (s : Season) (h : History) (c : Call) (r : SeasonRefusal) → SeasonDaysAgree s h → SeasonDaysAgree s (h ++ refused c r ∷ [])
refused_days s h c r g = same_days s.clock s.days h (refused c r) g refl refl (λ _. refl) (λ _ _. refl)

pub accepted_days : (s : Season) (h : History) (c : Call) (a : Answer) → SeasonDaysAgree s h → Answered s c a → SeasonDaysAgree (after_taken s c a) (h ++ taken c a ∷ [])
accepted_days s h (Enrol m k kw) a g t = same_days s.clock s.days h (taken (Enrol m k kw) a) g refl refl (λ _. refl) (λ _ _. refl)
accepted_days s h (Nominate m i w kw) a g t = same_days s.clock s.days h (taken (Nominate m i w kw) a) g refl refl (λ _. refl) (λ _ _. refl)
accepted_days s h (Announce m start len) a g t = announced_days s h m start len a g t.0
accepted_days s h (Revoke m) a g t = rw t.1 (revoked_days s h m g t.0)
accepted_days s h Close a g t = same_days s.clock s.days h (taken Close a) g refl refl (λ _. refl) (λ _ _. refl)

pub days_agree : (old : Season) (year : ℕ) (calls : List Call) → SeasonDaysAgree (run (opened old year) calls) (history (opened old year) calls)
days_agree old year calls = after_calls SeasonDaysAgree refused_days accepted_days (opened old year) [] calls (opened_days old year)

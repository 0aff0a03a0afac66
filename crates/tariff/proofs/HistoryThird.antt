-- From the third accepted announcement on, no site's highest figure rises.
use Rattle.std.proofs.Common.{◌≡◌, ℕ, ◌≤◌, Bool, true, false, cond, ◌&&◌, [], ◌∷◌, ◌++◌, Ok, Err, Result, refl, ap, ◌∙◌, inl, inr, arith}
use native.Mathlib.Nat.{max-eq_left}
use Rattle.std.proofs.lemmas.Bool.{cases_eq, cond_both, eq-eqb, ne_eqb, false≢true}
use Rattle.std.proofs.lemmas.Bool.Decides.{nat_tests}
use Rattle.tariff.specs.Season.{Season, site_at, announcements}
use Rattle.tariff.specs.Calls.{enrol_checks, nominate_checks, after_taken}
use Rattle.tariff.specs.History.{Entry, History, taken, accepted, is_announcement, accepted_announcement, figure_for, accepted_announcements, highest_figure}
use Rattle.tariff.specs.declared.call.Call.{Call}
use Rattle.tariff.specs.declared.call.Call.TheVariants.{Enrol, Nominate, Announce, Revoke, Close}
use Rattle.tariff.specs.declared.call.Answer.{Answer}
use Rattle.tariff.specs.declared.call.Answer.TheVariants.{Week}
use Rattle.tariff.specs.declared.call.SeasonRefusal.{SeasonRefusal}
use Rattle.tariff.proofs.HistoryCalls.{Passed, Answered, entry, refused, of_reply}
use Rattle.tariff.proofs.HistoryDays.{SeasonDaysAgree, announcements_push, refused_days, accepted_days}
use Rattle.tariff.proofs.HistorySites.{SeasonSitesAgree, highest_push, refused_sites, accepted_sites}

not_accepted : (r : Result Answer SeasonRefusal) → (accepted r && false) ≡ true → ⊥
not_accepted (Ok a) q = false≢true q
not_accepted (Err x) q = false≢true q

-- an accepted announcement takes no figure
pub announcement_figure : (i : ℕ) (e : Entry) → accepted_announcement e ≡ true → figure_for i e ≡ 0
announcement_figure i e q = at e.call e.reply q
  where
    at : (c : Call) (r : Result Answer SeasonRefusal) → (accepted r && is_announcement c) ≡ true → figure_for i (record { call = c; reply = r }) ≡ 0
    at (Enrol m k kw) r q = absurd (not_accepted r q)
    at (Nominate m j w kw) r q = absurd (not_accepted r q)
    at (Announce m start len) r q = cond_both _ 0 0 (λ k. k ≡ 0) (λ _. refl) (λ _. refl)
    at (Revoke m) r q = absurd (not_accepted r q)
    at Close r q = absurd (not_accepted r q)

-- after three announcements an accepted call takes no figure for a site above the highest taken for it so far
accepted_no_higher : (s : Season) (h : History) (c : Call) (a : Answer) (i : ℕ) → SeasonDaysAgree s h → SeasonSitesAgree s h → 3 ≤ accepted_announcements h → Answered s c a
    → figure_for i (taken c a) ≤ highest_figure i h
accepted_no_higher s h (Enrol m k kw) a i days sites three t =
    let p : Passed (enrol_checks s m k kw) = t.0 in
    let late : 20160 ≤ s.clock = days.late (omega arith) in
    let too-late : ⊥ = grind (arith, nat_tests) in
    absurd too-late
accepted_no_higher s h (Nominate m j w kw) a i days sites three t =
    let p : Passed (nominate_checks s m j w kw) = t.0 in
    let many : 3 ≤ announcements s = omega (arith, days.counted) in
    let under : kw ≤ (site_at s j).highest = grind (arith, nat_tests) in
    let top : (site_at s j).highest ≡ highest_figure j h = sites.tops j (grind (arith, nat_tests)) (grind (arith, nat_tests)) in
    rw t.1 (elim (cases_eq j i) [
      | inl q ↦ rw (← q) (let own : figure_for j (taken (Nominate m j w kw) (Week w)) ≡ kw = ap (λ (b : Bool). cond b kw 0) (eq-eqb j j refl) in omega (arith, own, under, top))
      | inr q ↦ let none : figure_for i (taken (Nominate m j w kw) (Week w)) ≡ 0 = ap (λ (b : Bool). cond b kw 0) (ne_eqb j i q) in omega (arith, none)
    ])
accepted_no_higher s h (Announce m start len) a i days sites three t = omega (arith, announcement_figure i (taken (Announce m start len) a) refl)
accepted_no_higher s h (Revoke m) a i days sites three t = rw t.1 (omega arith)
accepted_no_higher s h Close a i days sites three t = rw t.1 (omega arith)

pub no_higher : (s : Season) (h : History) (c : Call) (i : ℕ) → SeasonDaysAgree s h → SeasonSitesAgree s h → 3 ≤ accepted_announcements h → figure_for i (entry s c) ≤ highest_figure i h
no_higher s h c i days sites three =
    of_reply (λ r. figure_for i (record { call = c; reply = r }) ≤ highest_figure i h) s c (λ r. omega arith) (λ a t. accepted_no_higher s h c a i days sites three t)

-- a season after its third announcement, before which a site's highest figure was this
abbrev pub Held : ℕ → ℕ → Season → History → Type 0
Held site top s h = SeasonDaysAgree s h × SeasonSitesAgree s h × (3 ≤ accepted_announcements h) × (highest_figure site h ≡ top)

module _ (site top : ℕ) where
  pub refused_held : (s : Season) (h : History) (c : Call) (r : SeasonRefusal) → Held site top s h → Held site top s (h ++ refused c r ∷ [])
  refused_held s h c r g = (
    refused_days s h c r g.0,
    refused_sites s h c r g.1,
    omega (arith, announcements_push h (refused c r), g.2),
    omega (arith, highest_push h (refused c r) site, g.3),
  )

  pub accepted_held : (s : Season) (h : History) (c : Call) (a : Answer) → Held site top s h → Answered s c a → Held site top (after_taken s c a) (h ++ taken c a ∷ [])
  accepted_held s h c a g t = (
    accepted_days s h c a g.0 t,
    accepted_sites s h c a g.1 t,
    omega (arith, announcements_push h (taken c a), g.2),
    highest_push h (taken c a) site ∙ max-eq_left (accepted_no_higher s h c a site g.0 g.1 g.2 t) ∙ g.3,
  )

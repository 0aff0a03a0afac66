-- The sites of a season agree with its history.
use Rattle.std.proofs.Common.{◌≡◌, ℕ, ◌+◌, ◌-◌, ◌<◌, ◌≤◌, max, Bool, true, false, cond, ◌&&◌, ◌||◌, leb, List, [], ◌∷◌, ◌++◌, length, get_or, take, set, replicate, sym, refl, ap, ◌∙◌, inl, inr, arith, length-append, length-set, length-take, get_or-set_other, get_or-set_same}
use native.Mathlib.Nat.{max-zero}
use lib.ListN.{length-replicate}
use Rattle.std.proofs.lemmas.List.{get_or_append_left, get_or-append_right, get_or_push, get_or-take, get_or-replicate, length_push, length-take-le}
use Rattle.std.proofs.lemmas.List.Sums.{sum_by_push, fold_push}
use Rattle.std.proofs.lemmas.Bool.{cases_eq, cases_lt, eq-eqb, ne_eqb, le-leb, lt-leb}
use Rattle.std.proofs.lemmas.Bool.Decides.{nat_tests}
use Rattle.tariff.specs.Calendar.{day_of}
use Rattle.tariff.specs.Events.{event_of}
use Rattle.tariff.specs.Season.{Season, opened, day_at, no_site, nomination_for, enrolled_site, nominated_site, announcements, standing_events, standing_hours}
use Rattle.tariff.specs.Kinds.{kind_of}
use Rattle.tariff.specs.Calls.{nominate_checks, after_taken, run}
use Rattle.tariff.specs.History.{Entry, History, history, taken, accepted_enrolment, figure_named, enrolment_of, accepted_nomination_by, figure_for, accepted_enrolments, highest_figure, enrolled_figure, last_nominated, last_figure}
use Rattle.tariff.specs.declared.season.Site.{Site}
use Rattle.tariff.specs.declared.call.Call.{Call}
use Rattle.tariff.specs.declared.call.Call.TheVariants.{Enrol, Nominate, Announce, Revoke, Close}
use Rattle.tariff.specs.declared.call.Answer.{Answer}
use Rattle.tariff.specs.declared.call.Answer.TheVariants.{Site as SiteNumber, Week, Announced, Revoked as RevokedHours, Closed}
use Rattle.tariff.specs.declared.call.SeasonRefusal.{SeasonRefusal}
use Rattle.tariff.proofs.HistoryCalls.{Passed, Answered, refused, after_calls}

-- ---- one entry more

module _ (h : History) (e : Entry) where
  enrolments_push : accepted_enrolments (h ++ e ∷ []) ≡ accepted_enrolments h + cond (accepted_enrolment e) 1 0
  unfolding accepted_enrolments
  enrolments_push = sum_by_push (λ x. cond (accepted_enrolment x) 1 0) h e

  pub highest_push : (i : ℕ) → highest_figure i (h ++ e ∷ []) ≡ max (highest_figure i h) (figure_for i e)
  unfolding highest_figure
  highest_push i = fold_push (λ highest x. max highest (figure_for i x)) 0 h e

  enrolled_push : (i : ℕ) → enrolled_figure i (h ++ e ∷ []) ≡ cond (enrolment_of i e) (figure_named e.call) (enrolled_figure i h)
  unfolding enrolled_figure
  enrolled_push i = fold_push (λ kw x. cond (enrolment_of i x) (figure_named x.call) kw) 0 h e

  nominated_push : (i w other : ℕ) → last_nominated i w other (h ++ e ∷ []) ≡ cond (accepted_nomination_by i w e) (figure_named e.call) (last_nominated i w other h)
  unfolding last_nominated
  nominated_push i w other = fold_push (λ kw x. cond (accepted_nomination_by i w x) (figure_named x.call) kw) other h e

-- ---- the sites that agree with a history

pub record SitesAgree (sites : List Site) (h : History) : Type 0 where
  pub many : length sites ≡ accepted_enrolments h
  pub ten : (k : ℕ) → k < length sites → length (get_or sites k no_site).weeks ≡ 10
  pub tops : (i : ℕ) → 1 ≤ i → i ≤ length sites → (get_or sites (i - 1) no_site).highest ≡ highest_figure i h
  pub figures : (i w : ℕ) → 1 ≤ i → i ≤ length sites → 1 ≤ w → w ≤ 10 → nomination_for (get_or sites (i - 1) no_site) w ≡ last_figure i w h
  -- nothing was taken for a site that is not enrolled
  pub no_top : (i : ℕ) → length sites < i → highest_figure i h ≡ 0
  pub no_figure : (i w kw : ℕ) → length sites < i → last_nominated i w kw h ≡ kw

abbrev pub SeasonSitesAgree : Season → History → Type 0
SeasonSitesAgree s h = SitesAgree s.sites h

pub opened_sites : (old : Season) (year : ℕ) → SeasonSitesAgree (opened old year) []
unfolding accepted_enrolments highest_figure last_nominated
opened_sites old year = record {
  many = refl;
  ten = λ k l. let z : ⊥ = omega arith in absurd z;
  tops = λ i l u. let z : ⊥ = omega arith in absurd z;
  figures = λ i w l u _ _. let z : ⊥ = omega arith in absurd z;
  no_top = λ i l. refl;
  no_figure = λ i w kw l. refl;
}

-- an entry that takes no figure leaves the sites
same_sites : (sites : List Site) (h : History) (e : Entry) → SitesAgree sites h
    → accepted_enrolment e ≡ false → ((i : ℕ) → figure_for i e ≡ 0) → ((i kw : ℕ) → cond (enrolment_of i e) (figure_named e.call) kw ≡ kw)
    → ((i w kw : ℕ) → cond (accepted_nomination_by i w e) (figure_named e.call) kw ≡ kw)
    → SitesAgree sites (h ++ e ∷ [])
same_sites sites h e g none no_figure no-enrolment no-nomination =
    let n : accepted_enrolments (h ++ e ∷ []) ≡ accepted_enrolments h + 0 = rw none at (enrolments_push h e) in
    let top : (i : ℕ) → highest_figure i (h ++ e ∷ []) ≡ highest_figure i h =
    λ i. highest_push h e i ∙ ap (max (highest_figure i h)) (no_figure i) ∙ max-zero (highest_figure i h) in
    let same : (i w kw : ℕ) → last_nominated i w kw (h ++ e ∷ []) ≡ last_nominated i w kw h =
    λ i w kw. nominated_push h e i w kw ∙ no-nomination i w (last_nominated i w kw h) in
    let first : (i : ℕ) → enrolled_figure i (h ++ e ∷ []) ≡ enrolled_figure i h = λ i. enrolled_push h e i ∙ no-enrolment i (enrolled_figure i h) in
    record {
      many = omega (arith, g.many);
      ten = g.ten;
      tops = λ i l u. g.tops i l u ∙ sym (top i);
      figures = λ i w l u a b. g.figures i w l u a b ∙ ap (λ (kw : ℕ). last_nominated i w kw h) (sym (first i)) ∙ sym (same i w (enrolled_figure i (h ++ e ∷ [])));
      no_top = λ i l. top i ∙ g.no_top i l;
      no_figure = λ i w kw l. same i w kw ∙ g.no_figure i w kw l;
    }

-- an enrolment
enrolled_sites : (sites : List Site) (h : History) (m k kw : ℕ) → SitesAgree sites h
    → SitesAgree (sites ++ enrolled_site (kind_of k) kw ∷ []) (h ++ taken (Enrol m k kw) (SiteNumber (length sites + 1)) ∷ [])
enrolled_sites sites h m k kw g =
    let n : ℕ = length sites + 1 in
    let e : Entry = taken (Enrol m k kw) (SiteNumber n) in
    let x : Site = enrolled_site (kind_of k) kw in
    let more : length (sites ++ x ∷ []) ≡ n = length_push sites x in
    let old : (j : ℕ) → j < length sites → get_or (sites ++ x ∷ []) j no_site ≡ get_or sites j no_site = λ j l. get_or_append_left sites (x ∷ []) no_site j l in
    let new : (j : ℕ) → j ≡ length sites → get_or (sites ++ x ∷ []) j no_site ≡ x = λ j q. get_or_push sites x no_site j (sym q) in
    let top-own : figure_for n e ≡ kw = ap (λ (b : Bool). cond ((b && true) || false) kw 0) (eq-eqb n n refl) in
    let top-other : (i : ℕ) → (n ≡ i → ⊥) → figure_for i e ≡ 0 = λ i q. ap (λ (b : Bool). cond ((b && true) || false) kw 0) (ne_eqb n i q) in
    let top-same : (i : ℕ) → (n ≡ i → ⊥) → highest_figure i (h ++ e ∷ []) ≡ highest_figure i h =
    λ i q. highest_push h e i ∙ ap (max (highest_figure i h)) (top-other i q) ∙ max-zero (highest_figure i h) in
    let first-own : enrolled_figure n (h ++ e ∷ []) ≡ kw = enrolled_push h e n ∙ ap (λ (b : Bool). cond (b && true) kw (enrolled_figure n h)) (eq-eqb n n refl) in
    let first-other : (i : ℕ) → (n ≡ i → ⊥) → enrolled_figure i (h ++ e ∷ []) ≡ enrolled_figure i h =
    λ i q. enrolled_push h e i ∙ ap (λ (b : Bool). cond (b && true) kw (enrolled_figure i h)) (ne_eqb n i q) in
    record {
      many = more ∙ ap (λ (c : ℕ). c + 1) g.many ∙ sym (enrolments_push h e);
      ten = λ j l. elim (cases_lt j (length sites)) [
        | inl q ↦ ap (λ (y : Site). length y.weeks) (old j q) ∙ g.ten j q
        | inr q ↦ ap (λ (y : Site). length y.weeks) (new j (omega (arith, more))) ∙ length-replicate 10 kw
      ];
      tops = λ i l u. elim (cases_lt (i - 1) (length sites)) [
        | inl q ↦ ap (λ (y : Site). y.highest) (old (i - 1) q) ∙ g.tops i l (omega arith) ∙ sym (top-same i (λ z. omega arith))
        | inr q ↦
            let is : i ≡ n = omega (arith, more) in
            ap (λ (y : Site). y.highest) (new (i - 1) (omega (arith, more))) ∙ rw is (sym (highest_push h e n ∙ omega (arith, top-own, g.no_top n (omega arith))))
      ];
      figures = λ i w l u a b. elim (cases_lt (i - 1) (length sites)) [
        | inl q ↦
            ap (λ (y : Site). nomination_for y w) (old (i - 1) q) ∙ g.figures i w l (omega arith) a b
            ∙ ap (λ (f : ℕ). last_nominated i w f h) (sym (first-other i (λ z. omega arith))) ∙ sym (nominated_push h e i w (enrolled_figure i (h ++ e ∷ [])))
        | inr q ↦
            let is : i ≡ n = omega (arith, more) in
            ap (λ (y : Site). nomination_for y w) (new (i - 1) (omega (arith, more))) ∙ get_or-replicate 10 (w - 1) kw 0 (omega arith)
            ∙ rw is (sym (nominated_push h e n w (enrolled_figure n (h ++ e ∷ [])) ∙ g.no_figure n w (enrolled_figure n (h ++ e ∷ [])) (omega arith) ∙ first-own))
      ];
      no_top = λ i l. top-same i (λ z. omega (arith, more)) ∙ g.no_top i (omega (arith, more));
      no_figure = λ i w f l. nominated_push h e i w f ∙ g.no_figure i w f (omega (arith, more));
    }

-- ---- a nomination

module _ (x : Site) (w kw : ℕ) (full : length x.weeks ≡ 10) where
  nominated_ten : length (nominated_site x w kw).weeks ≡ 10
  nominated_ten = simp (length-append, length-take, length-replicate) (omega (arith, full))

  nominated_from : (v : ℕ) → v ≤ 10 → w ≤ v → 1 ≤ v → nomination_for (nominated_site x w kw) v ≡ kw
  nominated_from v b l o =
      get_or-append_right (take (w - 1) x.weeks) (replicate (length x.weeks - (w - 1)) kw) (w - 1) (v - 1) 0 (length-take-le (w - 1) x.weeks (omega (arith, full))) (omega arith)
      ∙ get_or-replicate (length x.weeks - (w - 1)) (v - 1 - (w - 1)) kw 0 (omega (arith, full))

  nominated_before : (v : ℕ) → v ≤ 10 → v < w → 1 ≤ v → nomination_for (nominated_site x w kw) v ≡ nomination_for x v
  nominated_before v b l o =
      get_or_append_left (take (w - 1) x.weeks) _ 0 (v - 1) (simp length-take (omega (arith, full)))
      ∙ get_or-take (w - 1) x.weeks (v - 1) 0 (omega arith)

nominated_sites : (sites : List Site) (h : History) (m j w kw : ℕ) → SitesAgree sites h → 1 ≤ j → j ≤ length sites
    → SitesAgree (set sites (j - 1) (nominated_site (get_or sites (j - 1) no_site) w kw)) (h ++ taken (Nominate m j w kw) (Week w) ∷ [])
nominated_sites sites h m j w kw g low high =
    let e : Entry = taken (Nominate m j w kw) (Week w) in
    let x : Site = get_or sites (j - 1) no_site in
    let y : Site = nominated_site x w kw in
    let new : List Site = set sites (j - 1) y in
    let same : length new ≡ length sites = length-set sites (j - 1) y in
    let full : length x.weeks ≡ 10 = g.ten (j - 1) (omega arith) in
    let own : get_or new (j - 1) no_site ≡ y = get_or-set_same sites (j - 1) y no_site (omega arith) in
    let other : (k : ℕ) → (k ≡ j - 1 → ⊥) → get_or new k no_site ≡ get_or sites k no_site = λ k q. get_or-set_other sites (j - 1) k y no_site q in
    let top-own : figure_for j e ≡ kw = ap (λ (b : Bool). cond b kw 0) (eq-eqb j j refl) in
    let top-other : (i : ℕ) → (j ≡ i → ⊥) → figure_for i e ≡ 0 = λ i q. ap (λ (b : Bool). cond b kw 0) (ne_eqb j i q) in
    let top-same : (i : ℕ) → (j ≡ i → ⊥) → highest_figure i (h ++ e ∷ []) ≡ highest_figure i h =
    λ i q. highest_push h e i ∙ ap (max (highest_figure i h)) (top-other i q) ∙ max-zero (highest_figure i h) in
    let first : (i : ℕ) → enrolled_figure i (h ++ e ∷ []) ≡ enrolled_figure i h = λ i. enrolled_push h e i in
    let last-other : (i v f : ℕ) → (j ≡ i → ⊥) → last_nominated i v f (h ++ e ∷ []) ≡ last_nominated i v f h =
    λ i v f q. nominated_push h e i v f ∙ ap (λ (b : Bool). cond (b && leb w v) kw (last_nominated i v f h)) (ne_eqb j i q) in
    let last-from : (v f : ℕ) → w ≤ v → last_nominated j v f (h ++ e ∷ []) ≡ kw =
    λ v f l. nominated_push h e j v f ∙ ap (λ (b : Bool). cond (b && leb w v) kw (last_nominated j v f h)) (eq-eqb j j refl) ∙ ap (λ (b : Bool). cond b kw (last_nominated j v f h)) (le-leb w v l) in
    let last-before : (v f : ℕ) → v < w → last_nominated j v f (h ++ e ∷ []) ≡ last_nominated j v f h =
    λ v f l. nominated_push h e j v f ∙ ap (λ (b : Bool). cond (b && leb w v) kw (last_nominated j v f h)) (eq-eqb j j refl) ∙ ap (λ (b : Bool). cond b kw (last_nominated j v f h)) (lt-leb w v l) in
    record {
      many = same ∙ g.many ∙ sym (omega (arith, enrolments_push h e));
      ten = λ k l. elim (cases_eq k (j - 1)) [
        | inl q ↦ rw q (ap (λ (z : Site). length z.weeks) own ∙ nominated_ten x w kw full)
        | inr q ↦ ap (λ (z : Site). length z.weeks) (other k q) ∙ g.ten k (omega (arith, same))
      ];
      tops = λ i l u. elim (cases_eq j i) [
        | inl q ↦ rw (← q) (ap (λ (z : Site). z.highest) own ∙ sym (highest_push h e j ∙ omega (arith, top-own, g.tops j low high)))
        | inr q ↦ ap (λ (z : Site). z.highest) (other (i - 1) (λ z. q (omega arith))) ∙ g.tops i l (omega (arith, same)) ∙ sym (top-same i q)
      ];
      figures = λ i v l u o b. elim (cases_eq j i) [
        | inl q ↦ rw (← q) (ap (λ (z : Site). nomination_for z v) own ∙ elim (cases_lt v w) [
          | inl p ↦
              nominated_before x w kw full v b p o ∙ g.figures j v low high o b
              ∙ ap (λ (f : ℕ). last_nominated j v f h) (sym (first j)) ∙ sym (last-before v (enrolled_figure j (h ++ e ∷ [])) p)
          | inr p ↦ nominated_from x w kw full v b p o ∙ sym (last-from v (enrolled_figure j (h ++ e ∷ [])) p)
        ])
        | inr q ↦
            ap (λ (z : Site). nomination_for z v) (other (i - 1) (λ z. q (omega arith))) ∙ g.figures i v l (omega (arith, same)) o b
            ∙ ap (λ (f : ℕ). last_nominated i v f h) (sym (first i)) ∙ sym (last-other i v (enrolled_figure i (h ++ e ∷ [])) q)
      ];
      no_top = λ i l. top-same i (λ z. omega (arith, same)) ∙ g.no_top i (omega (arith, same));
      no_figure = λ i v f l. last-other i v f (λ z. omega (arith, same)) ∙ g.no_figure i v f (omega (arith, same));
    }

-- ---- any call

pub refused_sites : (s : Season) (h : History) (c : Call) (r : SeasonRefusal) → SeasonSitesAgree s h → SeasonSitesAgree s (h ++ refused c r ∷ [])
refused_sites s h c r g = same_sites s.sites h (refused c r) g refl (λ _. refl) (λ _ _. refl) (λ _ _ _. refl)

pub accepted_sites : (s : Season) (h : History) (c : Call) (a : Answer) → SeasonSitesAgree s h → Answered s c a → SeasonSitesAgree (after_taken s c a) (h ++ taken c a ∷ [])
accepted_sites s h (Enrol m k kw) a g t = rw t.1 (enrolled_sites s.sites h m k kw g)
accepted_sites s h (Nominate m i w kw) a g t =
    let p : Passed (nominate_checks s m i w kw) = t.0 in
    rw t.1 (nominated_sites s.sites h m i w kw g (grind (arith, nat_tests)) (grind (arith, nat_tests)))
accepted_sites s h (Announce m start len) a g t =
    rw t.1 (same_sites s.sites h (taken (Announce m start len) (Announced (announcements s + 1))) g refl (λ _. refl) (λ _ _. refl) (λ _ _ _. refl))
accepted_sites s h (Revoke m) a g t =
    rw t.1 (same_sites s.sites h (taken (Revoke m) (RevokedHours (event_of (day_at s (day_of m))).length)) g refl (λ _. refl) (λ _ _. refl) (λ _ _ _. refl))
accepted_sites s h Close a g t =
    rw t.1 (same_sites s.sites h (taken Close (Closed (standing_events s) (standing_hours s))) g refl (λ _. refl) (λ _ _. refl) (λ _ _ _. refl))

pub sites_agree : (old : Season) (year : ℕ) (calls : List Call) → SeasonSitesAgree (run (opened old year) calls) (history (opened old year) calls)
sites_agree old year calls = after_calls SeasonSitesAgree refused_sites accepted_sites (opened old year) [] calls (opened_sites old year)

-- Nominations for other sites show nowhere on a site's side.
use Rattle.std.proofs.Common.{◌≡◌, ℕ, zero, suc, ◌-◌, ◌≤◌, true, false, eqb, List, [], ◌∷◌, ◌++◌, length, get_or, set, sym, refl, ap, ◌∙◌, ap₂, inl, inr, arith, length-append, length-set, get_or-set_other}
use Rattle.std.proofs.lemmas.Bool.Decides.{nat_tests}
use Rattle.std.proofs.lemmas.Bool.{false≢true, not-false, eqb-true, cases_Bool}
use Rattle.tariff.specs.Calls.{run, next, answer, answers, week_named, with_sites, nominated, nominate_checks, enrol_answer, nominate_answer, announce_answer, revoke_answer, close_answer, enrolled, with_event, without_event, shut, as_answer, closed_with}
use Rattle.tariff.specs.Comparison.{comparison_days}
use Rattle.tariff.specs.Kinds.{kind_of}
use Rattle.tariff.specs.Laws.{SitesStandApart, for_another, without_others, answers_without_others}
use Rattle.tariff.specs.Season.{Season, opened, site_at, no_site, nominated_site, enrolled_site}
use Rattle.tariff.specs.Statement.{outcome, statement_of, season_fault, event_fault}
use Rattle.tariff.specs.Tables.{Table}
use Rattle.tariff.specs.declared.season.Site.{Site}
use Rattle.tariff.specs.declared.call.Call.{Call}
use Rattle.tariff.specs.declared.call.Call.TheVariants.{Enrol, Nominate, Announce, Revoke, Close}
use Rattle.tariff.specs.declared.call.Answer.TheVariants.{Site as SiteNumber, Week, Announced, Revoked as RevokedHours}
use Rattle.tariff.proofs.Kept.{kept, kept_both}

-- a season without its sites
abbrev pub bare : Season → Season
bare s = with_sites s []

-- two seasons that a site cannot tell apart: the same but for the other sites, of which there are as many
pub record Agree (i : ℕ) (s t : Season) : Type 0 where
  pub same : bare s ≡ bare t
  pub many : length s.sites ≡ length t.sites
  pub own : 1 ≤ i → site_at s i ≡ site_at t i

-- ---- what only asks the year and the days is the same without the sites

fault_bare : (s : Season) (t : Table) → season_fault s t ≡ season_fault (bare s) t
unfolding season_fault event_fault comparison_days
fault_bare s t = refl

statement_bare : (s : Season) (x : Site) (t : Table) → statement_of s x t ≡ statement_of (bare s) x t
unfolding statement_of comparison_days
statement_bare s x t = refl

agree_outcome : (i : ℕ) (s t : Season) → Agree i s t → (b : Table) → outcome s i b ≡ outcome t i b
agree_outcome zero s t a b = let c : s.closed ≡ t.closed = ap (λ (u : Season). u.closed) a.same in cc
agree_outcome (suc i) s t a b =
    let c : s.closed ≡ t.closed = ap (λ (u : Season). u.closed) a.same in
    let d : s.days ≡ t.days = ap (λ (u : Season). u.days) a.same in
    let o : site_at s (suc i) ≡ site_at t (suc i) = a.own (omega arith) in
    cc (fault_bare s b, fault_bare t b, statement_bare s (site_at s (suc i)) b, statement_bare t (site_at t (suc i)) b)

agree_refl : (i : ℕ) (s : Season) → Agree i s s
agree_refl i s = record { same = refl; many = refl; own = λ _. refl }

agree_sym : {i : ℕ} {s t : Season} → Agree i s t → Agree i t s
agree_sym a = record { same = sym a.same; many = sym a.many; own = λ h. sym (a.own h) }

agree_trans : {i : ℕ} {s t u : Season} → Agree i s t → Agree i t u → Agree i s u
agree_trans a b = record { same = a.same ∙ b.same; many = a.many ∙ b.many; own = λ h. a.own h ∙ b.own h }

-- ---- a nomination for another site, taken or refused

another_agrees : (i : ℕ) (s : Season) (c : Call) → for_another i c ≡ true → Agree i (next s c) s
another_agrees i s (Enrol m k kw) e = absurd (false≢true e)
another_agrees i s (Nominate m j w kw) e =
    kept (λ u. Agree i u s) s (Nominate m j w kw) Week (nominate_checks s m j w kw) w (agree_refl i s)
    (λ p. record {
      same = refl;
      many = length-set s.sites (j - 1) (nominated_site (site_at s j) w kw);
      own = λ h. get_or-set_other s.sites (j - 1) (i - 1) (nominated_site (site_at s j) w kw) no_site (λ q. grind (arith, nat_tests));
    })
another_agrees i s (Announce m start len) e = absurd (false≢true e)
another_agrees i s (Revoke m) e = absurd (false≢true e)
another_agrees i s Close e = absurd (false≢true e)

-- ---- any other call gets one answer in both, and leaves them alike

module _ (i : ℕ) (s t : Season) (a : Agree i s t) where
  same_year : s.year ≡ t.year
  same_year = ap (λ (u : Season). u.year) a.same

  same_closed : s.closed ≡ t.closed
  same_closed = ap (λ (u : Season). u.closed) a.same

  same_clock : s.clock ≡ t.clock
  same_clock = ap (λ (u : Season). u.clock) a.same

  same_days : s.days ≡ t.days
  same_days = ap (λ (u : Season). u.days) a.same

  enrol_same : (m k kw : ℕ) → enrol_answer s m k kw ≡ enrol_answer t m k kw
  enrol_same m k kw = cc (same_closed, same_clock)

  announce_same : (m start len : ℕ) → announce_answer s m start len ≡ announce_answer t m start len
  announce_same m start len = cc (same_year, same_closed, same_clock, same_days)

  revoke_same : (m : ℕ) → revoke_answer s m ≡ revoke_answer t m
  revoke_same m = cc (same_closed, same_clock, same_days)

  close_same : close_answer s ≡ close_answer t
  close_same = cc (same_closed, same_days)

-- a nomination of the site's own
nominate_same : (i : ℕ) (s t : Season) → Agree i s t → (m w kw : ℕ) → nominate_answer s m i w kw ≡ nominate_answer t m i w kw
nominate_same zero s t a m w kw = cc (same_closed zero s t a, same_clock zero s t a)
nominate_same (suc i) s t a m w kw =
    let o : site_at s (suc i) ≡ site_at t (suc i) = a.own (omega arith) in
    cc (same_year (suc i) s t a, same_closed (suc i) s t a, same_clock (suc i) s t a, same_days (suc i) s t a)

-- one place of two lists as long as each other, after one element more or a store there
more_same : (xs ys : List Site) (k : ℕ) (x d : Site) → length xs ≡ length ys → get_or xs k d ≡ get_or ys k d → get_or (xs ++ x ∷ []) k d ≡ get_or (ys ++ x ∷ []) k d
more_same [] [] k x d n e = refl
more_same [] (y ∷ ys) k x d n e = let z : ⊥ = omega arith in absurd z
more_same (x' ∷ xs) [] k x d n e = let z : ⊥ = omega arith in absurd z
more_same (x' ∷ xs) (y ∷ ys) zero x d n e = e
more_same (x' ∷ xs) (y ∷ ys) (suc k) x d n e = more_same xs ys k x d (omega arith) e

set_same : (xs ys : List Site) (k : ℕ) (x d : Site) → length xs ≡ length ys → get_or xs k d ≡ get_or ys k d → get_or (set xs k x) k d ≡ get_or (set ys k x) k d
set_same [] [] k x d n e = refl
set_same [] (y ∷ ys) k x d n e = let z : ⊥ = omega arith in absurd z
set_same (x' ∷ xs) [] k x d n e = let z : ⊥ = omega arith in absurd z
set_same (x' ∷ xs) (y ∷ ys) zero x d n e = refl
set_same (x' ∷ xs) (y ∷ ys) (suc k) x d n e = set_same xs ys k x d (omega arith) e

module _ (i : ℕ) (s t : Season) (a : Agree i s t) where
  enrolled_agree : (k kw : ℕ) → Agree i (enrolled s k kw) (enrolled t k kw)
  enrolled_agree k kw = record {
    same = a.same;
    many = simp length-append (rw a.many);
    own = λ h. more_same s.sites t.sites (i - 1) (enrolled_site (kind_of k) kw) no_site a.many (a.own h);
  }

  nominated_agree : (w kw : ℕ) → Agree i (nominated s i w kw) (nominated t i w kw)
  nominated_agree w kw = record {
    same = a.same;
    many = simp length-set a.many;
    own = λ h. rw (a.own h) (set_same s.sites t.sites (i - 1) (nominated_site (site_at t i) w kw) no_site a.many (a.own h));
  }

  announced_agree : (m start len : ℕ) → Agree i (with_event s m start len) (with_event t m start len)
  announced_agree m start len = record { same = ap (λ (u : Season). with_event u m start len) a.same; many = a.many; own = a.own }

  revoked_agree : (m : ℕ) → Agree i (without_event s m) (without_event t m)
  revoked_agree m = record { same = ap (λ (u : Season). without_event u m) a.same; many = a.many; own = a.own }

  shut_agree : Agree i (shut s) (shut t)
  shut_agree = record { same = ap shut a.same; many = a.many; own = a.own }

  other_answer : (c : Call) → for_another i c ≡ false → answer s c ≡ answer t c
  other_answer (Enrol m k kw) e = ap (as_answer SiteNumber) (enrol_same i s t a m k kw)
  other_answer (Nominate m j w kw) e =
      let j≡i : j ≡ i = eqb-true j i (not-false (eqb j i) e) in
      rw j≡i (ap (as_answer Week) (nominate_same i s t a m w kw))
  other_answer (Announce m start len) e = ap (as_answer Announced) (announce_same i s t a m start len)
  other_answer (Revoke m) e = ap (as_answer RevokedHours) (revoke_same i s t a m)
  other_answer Close e = ap (as_answer closed_with) (close_same i s t a)

  other_agrees : (c : Call) → for_another i c ≡ false → Agree i (next s c) (next t c)
  other_agrees (Enrol m k kw) e = kept_both (Agree i) s t (Enrol m k kw) _ _ (other_answer (Enrol m k kw) e) a (λ _. enrolled_agree k kw)
  other_agrees (Nominate m j w kw) e =
      let j≡i : j ≡ i = eqb-true j i (not-false (eqb j i) e) in
      rw j≡i (kept_both (Agree i) s t (Nominate m i w kw) _ _ (ap (as_answer Week) (nominate_same i s t a m w kw)) a (λ x. nominated_agree (week_named w x) kw))
  other_agrees (Announce m start len) e = kept_both (Agree i) s t (Announce m start len) _ _ (other_answer (Announce m start len) e) a (λ _. announced_agree m start len)
  other_agrees (Revoke m) e = kept_both (Agree i) s t (Revoke m) _ _ (other_answer (Revoke m) e) a (λ _. revoked_agree m)
  other_agrees Close e = kept_both (Agree i) s t Close _ _ (other_answer Close e) a (λ _. shut_agree)

-- ---- a list of calls, and the same list without the nominations for other sites

pub without_agree : (i : ℕ) (s t : Season) (cs : List Call) → Agree i s t
    → Agree i (run s cs) (run t (without_others i cs)) × (answers_without_others i cs (answers s cs) ≡ answers t (without_others i cs))
unfolding run without_others answers answers_without_others
without_agree i s t [] a = (a, refl)
without_agree i s t (c ∷ cs) a =
    elim (cases_Bool (for_another i c)) [
      | inl e ↦ rw e (without_agree i (next s c) t cs (agree_trans (another_agrees i s c e) a))
      | inr e ↦
          let ih = without_agree i (next s c) (next t c) cs (other_agrees i s t a c e) in
          rw e (ih.0, ap₂ ◌∷◌ (other_answer i s t a c e) ih.1)
    ]

pub sites_stand_apart_lem : SitesStandApart
sites_stand_apart_lem old old' year low high site one two e =
    let l = without_agree site (opened old year) (opened old year) one (agree_refl site (opened old year)) in
    let r = without_agree site (opened old' year) (opened old year) two (agree_refl site (opened old year)) in
    let w : Agree site (run (opened old year) one) (run (opened old year) (without_others site two)) = rw e at l.0 in
    let b : answers_without_others site one (answers (opened old year) one) ≡ answers (opened old year) (without_others site two) = rw e at l.1 in
    (b ∙ sym r.1, λ t. agree_outcome site (run (opened old year) one) (run (opened old' year) two) (agree_trans w (agree_sym r.0)) t)

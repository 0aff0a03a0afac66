-- How a history goes with the calls that made it.
use Rattle.std.proofs.Common.{◌≡◌, ℕ, ◌+◌, Bool, true, false, cond, List, [], ◌∷◌, ◌++◌, length, Ok, Err, Result, refl, ap, ap₂, arith}
use Rattle.std.specs.List.{AllByRecursion}
use Rattle.std.proofs.lemmas.List.{append-nil, append_assoc}
use Rattle.tariff.specs.Calendar.{day_of}
use Rattle.tariff.specs.Events.{event_of}
use Rattle.tariff.specs.Season.{Season, day_at, announcements, standing_events, standing_hours}
use Rattle.tariff.specs.Calls.{Check, checked, as_answer, enrol_checks, nominate_checks, announce_checks, revoke_checks, close_checks, closed_with, answer, after_taken, after, next, run, answers}
use Rattle.tariff.specs.History.{Entry, History, paired, history, taken}
use Rattle.tariff.specs.declared.call.Call.{Call}
use Rattle.tariff.specs.declared.call.Call.TheVariants.{Enrol, Nominate, Announce, Revoke, Close}
use Rattle.tariff.specs.declared.call.Answer.{Answer}
use Rattle.tariff.specs.declared.call.Answer.TheVariants.{Site as SiteNumber, Week, Announced, Revoked as RevokedHours, Closed}
use Rattle.tariff.specs.declared.call.SeasonRefusal.{SeasonRefusal}

-- ---- one call

-- no check of a call refused it
abbrev pub Passed : List Check → Type 0
Passed = AllByRecursion (λ (c : Check). c.0 ≡ false)

accepted_with : {A : Type 0} (cs : List Check) (f : A → Answer) (a : A) (b : Answer) → as_answer f (checked cs a) ≡ Ok b → Passed cs × (b ≡ f a)
accepted_with [] f a b e = (tt, cc)
accepted_with {A = A} (c ∷ cs) f a b e = at c.0 refl e (accepted_with cs f a b)
  where
    at : (t : Bool) → c.0 ≡ t → as_answer {A = A} f (cond t (Err c.1) (checked cs a)) ≡ Ok b
        → (as_answer f (checked cs a) ≡ Ok b → Passed cs × (b ≡ f a)) → Passed (c ∷ cs) × (b ≡ f a)
    at true q r more = let z : ◌≡◌ {A = ℕ} 0 1 = cc in let n : ⊥ = omega arith in absurd n
    at false q r more = ((q, (more r).0), (more r).1)

-- what is known of a call that a season accepted: it passed its checks, and this was its answer
abbrev pub Answered : Season → Call → Answer → Type 0
Answered s (Enrol m k kw) a = Passed (enrol_checks s m k kw) × (a ≡ SiteNumber (length s.sites + 1))
Answered s (Nominate m i w kw) a = Passed (nominate_checks s m i w kw) × (a ≡ Week w)
Answered s (Announce m start len) a = Passed (announce_checks s m start len) × (a ≡ Announced (announcements s + 1))
Answered s (Revoke m) a = Passed (revoke_checks s m) × (a ≡ RevokedHours (event_of (day_at s (day_of m))).length)
Answered s Close a = Passed (close_checks s) × (a ≡ Closed (standing_events s) (standing_hours s))

pub answered : (s : Season) (c : Call) (a : Answer) → answer s c ≡ Ok a → Answered s c a
answered s (Enrol m k kw) a e = accepted_with (enrol_checks s m k kw) SiteNumber (length s.sites + 1) a e
answered s (Nominate m i w kw) a e = accepted_with (nominate_checks s m i w kw) Week w a e
answered s (Announce m start len) a e = accepted_with (announce_checks s m start len) Announced (announcements s + 1) a e
answered s (Revoke m) a e = accepted_with (revoke_checks s m) RevokedHours (event_of (day_at s (day_of m))).length a e
answered s Close a e = accepted_with (close_checks s) closed_with (standing_events s, standing_hours s) a e

-- a call with what it gets of a season, and a call that was refused
abbrev pub entry : Season → Call → Entry
entry s c = record { call = c; reply = answer s c }

abbrev pub refused : Call → SeasonRefusal → Entry
refused c r = record { call = c; reply = Err r }

-- what holds of every refusal and of every answer that the season may give holds of what the call gets
pub of_reply : (P : Result Answer SeasonRefusal → Type 0) (s : Season) (c : Call)
    → ((r : SeasonRefusal) → P (Err r)) → ((a : Answer) → Answered s c a → P (Ok a)) → P (answer s c)
of_reply P s c f g = at (answer s c) (answered s c)
  where
    at : (x : Result Answer SeasonRefusal) → ((a : Answer) → x ≡ Ok a → Answered s c a) → P x
    at (Ok a) t = g a (t a refl)
    at (Err r) t = f r

-- ---- any calls

-- what refused and accepted calls keep, with their entries added to the history, holds after any calls
module _ (P : Season → History → Type 0)
    (at-refused : (s : Season) (h : History) (c : Call) (r : SeasonRefusal) → P s h → P s (h ++ refused c r ∷ []))
    (at-accepted : (s : Season) (h : History) (c : Call) (a : Answer) → P s h → Answered s c a → P (after_taken s c a) (h ++ taken c a ∷ [])) where
  pub after_call : (s : Season) (h : History) (c : Call) → P s h → P (next s c) (h ++ entry s c ∷ [])
  after_call s h c p =
      of_reply (λ r. P (after s c r) (h ++ record { call = c; reply = r } ∷ [])) s c (λ r. at-refused s h c r p) (λ a t. at-accepted s h c a p t)

  pub after_calls : (s : Season) (h : History) (cs : List Call) → P s h → P (run s cs) (h ++ history s cs)
  unfolding run answers paired
  after_calls s h [] p = rw append-nil p
  after_calls s h (c ∷ cs) p = rw append_assoc at (after_calls (next s c) (h ++ entry s c ∷ []) cs (after_call s h c p))

-- ---- one entry of a history

-- the calls before it and after it, and the seasons that they met
pub record Split (s : Season) (calls : List Call) (before : History) (e : Entry) (later : History) : Type 0 where
  pub first : List Call
  pub rest : List Call
  pub before_is : history s first ≡ before
  pub entry_is : entry (run s first) e.call ≡ e
  pub later_is : history (next (run s first) e.call) rest ≡ later
  pub ends : run (next (run s first) e.call) rest ≡ run s calls

pub split : (s : Season) (calls : List Call) (before : History) (e : Entry) (later : History) → history s calls ≡ before ++ e ∷ later → Split s calls before e later
unfolding run answers paired
split s [] [] e later q = let z : ◌≡◌ {A = ℕ} 0 1 = cc in let n : ⊥ = omega arith in absurd n
split s [] (b ∷ before) e later q = let z : ◌≡◌ {A = ℕ} 0 1 = cc in let n : ⊥ = omega arith in absurd n
split s (c ∷ cs) [] e later q =
    let own : entry s c ≡ e = cc in
    let same : c ≡ e.call = ap (λ (x : Entry). x.call) own in
    record {
      first = [];
      rest = cs;
      before_is = refl;
      entry_is = rw same at own;
      later_is = rw (← same) (cc);
      ends = rw (← same) refl;
    }
split s (c ∷ cs) (b ∷ before) e later q =
    let own : entry s c ≡ b = cc in
    let more = split (next s c) cs before e later (cc) in
    record {
      first = c ∷ more.first;
      rest = more.rest;
      before_is = ap₂ ◌∷◌ own more.before_is;
      entry_is = more.entry_is;
      later_is = more.later_is;
      ends = more.ends;
    }

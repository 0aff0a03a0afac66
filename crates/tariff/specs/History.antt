-- The history of a season: its calls in their order, each with its answer or its refusal, and what can be told from these alone.
use Rattle.std.specs.Prelude.{ℕ, max, Bool, true, false, cond, ◌&&◌, ◌||◌, List, [], ◌∷◌, Ok, Err, fold, sum_by, count_by, Result, ◌==◌, nat_le}
use Rattle.tariff.specs.Calls.{answers}
use Rattle.tariff.specs.Season.{Season}
use Rattle.tariff.specs.declared.call.Call.{Call}
use Rattle.tariff.specs.declared.call.Call.TheVariants.{Enrol, Nominate, Announce, Revoke, Close}
use Rattle.tariff.specs.declared.call.Answer.{Answer}
use Rattle.tariff.specs.declared.call.Answer.TheVariants.{Site as SiteNumber, Week, Announced, Revoked as RevokedHours, Closed}
use Rattle.tariff.specs.declared.call.SeasonRefusal.{SeasonRefusal}

-- a call with what it got: an answer if it was accepted, and else a refusal
pub record Entry : Type 0 where
  pub call : Call
  pub reply : Result Answer SeasonRefusal

-- some calls with what they got, the earliest first
abbrev pub History : Type 0
History = List Entry

-- each call with the reply at the same place; there are as many replies as calls
unfoldable pub paired : List Call → List (Result Answer SeasonRefusal) → History
paired [] replies = []
paired (c ∷ cs) [] = []
paired (c ∷ cs) (r ∷ rs) = record { call = c; reply = r } ∷ paired cs rs

-- the history of a list of calls from a season on
abbrev pub history : Season → List Call → History
history s calls = paired calls (answers s calls)

-- ---- what an entry tells

-- a call that was accepted, with its answer
abbrev pub taken : Call → Answer → Entry
taken c a = record { call = c; reply = Ok a }

abbrev pub accepted : Result Answer SeasonRefusal → Bool
accepted (Ok a) = true
accepted (Err r) = false

abbrev pub is_announcement : Call → Bool
is_announcement (Enrol m k kw) = false
is_announcement (Nominate m i w kw) = false
is_announcement (Announce m start len) = true
is_announcement (Revoke m) = false
is_announcement Close = false

abbrev pub is_revocation : Call → Bool
is_revocation (Enrol m k kw) = false
is_revocation (Nominate m i w kw) = false
is_revocation (Announce m start len) = false
is_revocation (Revoke m) = true
is_revocation Close = false

abbrev pub is_enrolment : Call → Bool
is_enrolment (Enrol m k kw) = true
is_enrolment (Nominate m i w kw) = false
is_enrolment (Announce m start len) = false
is_enrolment (Revoke m) = false
is_enrolment Close = false

-- the entry is an announcement, a revocation or an enrolment, and was accepted
abbrev pub accepted_announcement : Entry → Bool
accepted_announcement e = accepted e.reply && is_announcement e.call

abbrev pub accepted_revocation : Entry → Bool
accepted_revocation e = accepted e.reply && is_revocation e.call

abbrev pub accepted_enrolment : Entry → Bool
accepted_enrolment e = accepted e.reply && is_enrolment e.call

-- the hours that an announcement asks for
abbrev pub length_asked : Call → ℕ
length_asked (Enrol m k kw) = 0
length_asked (Nominate m i w kw) = 0
length_asked (Announce m start len) = len
length_asked (Revoke m) = 0
length_asked Close = 0

-- the hours that a revocation answers, and that it got
abbrev pub length_answered : Answer → ℕ
length_answered (SiteNumber n) = 0
length_answered (Week w) = 0
length_answered (Announced n) = 0
length_answered (RevokedHours n) = n
length_answered (Closed n hours) = 0

abbrev pub length_replied : Result Answer SeasonRefusal → ℕ
length_replied (Ok a) = length_answered a
length_replied (Err r) = 0

-- the moment to which an accepted announcement or revocation moves the clock; other calls leave it
abbrev pub clock_after : ℕ → Call → ℕ
clock_after clock (Enrol m k kw) = clock
clock_after clock (Nominate m i w kw) = clock
clock_after clock (Announce m start len) = m
clock_after clock (Revoke m) = m
clock_after clock Close = clock

-- an answer, or what a call got, is the number of a site
abbrev pub site_answered : ℕ → Answer → Bool
site_answered site (SiteNumber n) = n == site
site_answered site (Week w) = false
site_answered site (Announced n) = false
site_answered site (RevokedHours n) = false
site_answered site (Closed n hours) = false

abbrev pub site_replied : ℕ → Result Answer SeasonRefusal → Bool
site_replied site (Ok a) = site_answered site a
site_replied site (Err r) = false

-- a call nominates a figure for a site
abbrev pub nominates : ℕ → Call → Bool
nominates site (Enrol m k kw) = false
nominates site (Nominate m i w kw) = i == site
nominates site (Announce m start len) = false
nominates site (Revoke m) = false
nominates site Close = false

-- and does so for a week or an earlier one
abbrev pub nominates_by : ℕ → ℕ → Call → Bool
nominates_by site week (Enrol m k kw) = false
nominates_by site week (Nominate m i w kw) = i == site && nat_le w week
nominates_by site week (Announce m start len) = false
nominates_by site week (Revoke m) = false
nominates_by site week Close = false

-- the figure that an enrolment or a nomination names, in kW
abbrev pub figure_named : Call → ℕ
figure_named (Enrol m k kw) = kw
figure_named (Nominate m i w kw) = kw
figure_named (Announce m start len) = 0
figure_named (Revoke m) = 0
figure_named Close = 0

-- the entry is a site's enrolment: an accepted enrolment that answered the site's number
abbrev pub enrolment_of : ℕ → Entry → Bool
enrolment_of site e = site_replied site e.reply && is_enrolment e.call

-- the entry is an accepted nomination for a site
abbrev pub accepted_nomination : ℕ → Entry → Bool
accepted_nomination site e = accepted e.reply && nominates site e.call

-- and is so for a week or an earlier one
abbrev pub accepted_nomination_by : ℕ → ℕ → Entry → Bool
accepted_nomination_by site week e = accepted e.reply && nominates_by site week e.call

-- the figure that an entry takes for a site, by its enrolment or by a nomination, and 0 where it takes none
abbrev pub figure_for : ℕ → Entry → ℕ
figure_for site e = cond (enrolment_of site e || accepted_nomination site e) (figure_named e.call) 0

-- ---- what a history tells

-- how many announcements, revocations and enrolments were accepted
unfoldable pub accepted_announcements : History → ℕ
accepted_announcements h = count_by accepted_announcement h

unfoldable pub accepted_revocations : History → ℕ
accepted_revocations h = count_by accepted_revocation h

unfoldable pub accepted_enrolments : History → ℕ
accepted_enrolments h = count_by accepted_enrolment h

-- the lengths of the accepted announcements, and those that the accepted revocations answered
unfoldable pub announced_hours : History → ℕ
announced_hours h = sum_by (λ e. cond (accepted_announcement e) (length_asked e.call) 0) h

unfoldable pub revoked_hours : History → ℕ
revoked_hours h = sum_by (λ e. cond (accepted_revocation e) (length_replied e.reply) 0) h

-- the moment of the last accepted announcement or revocation, and 0 if there is none
unfoldable pub last_moment : History → ℕ
last_moment h = fold (λ clock e. cond (accepted e.reply) (clock_after clock e.call) clock) 0 h

-- the highest figure taken for a site, by its enrolment or by a nomination, and 0 if there is none
unfoldable pub highest_figure : ℕ → History → ℕ
highest_figure site h = fold (λ highest e. max highest (figure_for site e)) 0 h

-- the figure of a site's enrolment
unfoldable pub enrolled_figure : ℕ → History → ℕ
enrolled_figure site h = fold (λ kw e. cond (enrolment_of site e) (figure_named e.call) kw) 0 h

-- the figure of the last accepted nomination for a site with a week or an earlier one, and another figure if there is none
unfoldable pub last_nominated : ℕ → ℕ → ℕ → History → ℕ
last_nominated site week other h =
    fold (λ kw e. cond (accepted_nomination_by site week e) (figure_named e.call) kw) other h

-- a site's figure for a week: that of the last accepted nomination for it with that or an earlier week, else its enrolment's
abbrev pub last_figure : ℕ → ℕ → History → ℕ
last_figure site week h = last_nominated site week (enrolled_figure site h) h

-- A record that a statement filled: what its lines are, place by place.
use Rattle.std.proofs.Common.{◌≡◌, ℕ, ◌+◌, ◌-◌, ◌*◌, ◌<◌, ◌≤◌, Bool, true, false, cond, not, List, map, length, get_or, replicate, Some, None, Ok, Err, sum_by, Option, refl, ap, ◌∙◌, arith}
use Rattle.std.proofs.lemmas.List.FromFn.{length-map-range_with_len, get_or-map-range_with_len}
use Rattle.std.proofs.lemmas.List.{get_or_append_left, get_or-append_right, get_or-map, length-append, length-map, length-replicate}
use Rattle.std.proofs.lemmas.List.Sums.{sum_by-append}
use Rattle.std.proofs.lemmas.List.Folds.{sum_by-replicate}
use Rattle.tariff.specs.Calendar.{weekday, first_monday, week_of, last_week}
use Rattle.tariff.specs.Lines.{line_at, week_at}
use Rattle.tariff.specs.Measure.{measured, measured_hours}
use Rattle.tariff.specs.Pay.{priced, week_line, week_lines, no_hour, no_week, filled, paid_for}
use Rattle.tariff.specs.Season.{Season, season_event_hours, has_site, site_at}
use Rattle.tariff.specs.Statement.{Outcome, season_fault, statement_of, refused_or, outcome}
use Rattle.tariff.specs.Tables.{Table}
use Rattle.tariff.specs.declared.season.EventHour.{EventHour}
use Rattle.tariff.specs.declared.season.Site.{Site}
use Rattle.tariff.specs.declared.statement.Statement.{Statement}
use Rattle.tariff.specs.declared.statement.StatementRefusal.{StatementRefusal}
use Rattle.tariff.specs.declared.statement.StatementRefusal.TheVariants.{SeasonNotClosed, NoSuchSite}
use Rattle.tariff.proofs.Pointwise.{replicate_at}

-- ---- a request that was answered

unrefused : (b : Bool) (r : StatementRefusal) (o : Outcome) (y : Statement × ℕ) → cond b (Err r) o ≡ Ok y → o ≡ Ok y
unrefused true r o y h = let z : ◌≡◌ {A = ℕ} 0 1 = cc in let n : ⊥ = omega arith in absurd n
unrefused false r o y h = h

faultless : (f : Option StatementRefusal) (z y : Statement × ℕ) → refused_or f z ≡ Ok y → z ≡ y
faultless (Some r) z y h = let e : ◌≡◌ {A = ℕ} 0 1 = cc in let n : ⊥ = omega arith in absurd n
faultless None z y h = cc

-- the statement and its number of hours, where nothing refuses them
abbrev answer_of : Season → ℕ → Table → Statement × ℕ
answer_of s site t = (statement_of s (site_at s site) t, length (season_event_hours s))

module _ (s : Season) (site : ℕ) (t : Table) (x : Statement) (n : ℕ) (answer : outcome s site t ≡ Ok (x, n)) where
  with_site : cond (not (has_site s site)) (Err NoSuchSite) (refused_or (season_fault s t) (answer_of s site t)) ≡ Ok (x, n)
  with_site = unrefused (not s.closed) SeasonNotClosed _ (x, n) answer

  whole : answer_of s site t ≡ (x, n)
  whole = faultless (season_fault s t) (answer_of s site t) (x, n) (unrefused (not (has_site s site)) NoSuchSite _ (x, n) with_site)

  pub statement_is : statement_of s (site_at s site) t ≡ x
  statement_is = ap (λ (y : Statement × ℕ). y.0) whole

  pub number_is : length (season_event_hours s) ≡ n
  number_is = ap (λ (y : Statement × ℕ). y.1) whole

-- ---- lists that are filled up

module _ {X : Type 0} (a : X) where
  filled_used : (n : ℕ) (xs : List X) (k : ℕ) (d : X) → k < length xs → get_or (filled a n xs) k d ≡ get_or xs k d
  filled_used n xs k d l = get_or_append_left xs (replicate (n - length xs) a) d k l

  filled_unused : (n : ℕ) (xs : List X) (k : ℕ) → length xs ≤ k → get_or (filled a n xs) k a ≡ a
  filled_unused n xs k l = get_or-append_right xs (replicate (n - length xs) a) (length xs) k a refl l ∙ replicate_at a (n - length xs) (k - length xs)

  length_filled : (n : ℕ) (xs : List X) → length xs ≤ n → length (filled a n xs) ≡ n
  length_filled n xs l = length-append xs (replicate (n - length xs) a) ∙ ap (λ m. length xs + m) (length-replicate (n - length xs) a) ∙ omega arith

  pub sumBy_filled : (f : X → ℕ) → f a ≡ 0 → (n : ℕ) (xs : List X) → sum_by f (filled a n xs) ≡ sum_by f xs
  sumBy_filled f e n xs =
      let m : ℕ = n - length xs in
      let none : sum_by f (replicate m a) ≡ m * 0 = sum_by-replicate f m a ∙ ap (λ k. m * k) e in
      sum_by-append f xs (replicate m a) ∙ omega (arith, none)

-- ---- weeks

pub weeks_few : (year : ℕ) → last_week year ≤ 10
unfolding last_week week_of first_monday weekday
weeks_few year = omega arith

pub week_counted : (year d : ℕ) → 1 ≤ week_of year d
unfolding week_of
week_counted year d = omega arith

pub week_within : (year d : ℕ) → d ≤ 75 → week_of year d ≤ last_week year
unfolding last_week week_of
week_within year d h = omega arith

-- ---- the lines of a statement

module _ (s : Season) (x : Site) (t : Table) where
  length_lines : length (map priced (measured_hours s x t)) ≡ length (season_event_hours s)
  length_lines = length-map (measured_hours s x t) priced ∙ length-map (season_event_hours s) (measured s x t)

  length_weeks : length (week_lines s.year x (measured_hours s x t)) ≡ last_week s.year
  unfolding week_lines
  length_weeks = length-map-range_with_len (week_line s.year x (measured_hours s x t)) 1 (last_week s.year)

  pub sixty_lines : length (season_event_hours s) ≤ 60 → length (statement_of s x t).hours ≡ 60
  unfolding statement_of paid_for
  sixty_lines l = length_filled no_hour 60 (map priced (measured_hours s x t)) (omega (arith, length_lines))

  pub ten_weeks : length (statement_of s x t).weeks ≡ 10
  unfolding statement_of paid_for
  ten_weeks = length_filled no_week 10 (week_lines s.year x (measured_hours s x t)) (omega (arith, length_weeks, weeks_few s.year))

  pub line_is : (k : ℕ) (o : EventHour) → k < length (season_event_hours s) → line_at (statement_of s x t) k ≡ priced (measured s x t (get_or (season_event_hours s) k o))
  unfolding statement_of paid_for
  line_is k o l =
      let m : k < length (measured_hours s x t) = omega (arith, length-map (season_event_hours s) (measured s x t)) in
      filled_used no_hour 60 (map priced (measured_hours s x t)) k no_hour (omega (arith, length_lines))
      ∙ get_or-map priced (measured_hours s x t) k (measured s x t o) no_hour m
      ∙ ap priced (get_or-map (measured s x t) (season_event_hours s) k o (measured s x t o) l)

  pub unused_line : (k : ℕ) → length (season_event_hours s) ≤ k → line_at (statement_of s x t) k ≡ no_hour
  unfolding statement_of paid_for
  unused_line k l = filled_unused no_hour 60 (map priced (measured_hours s x t)) k (omega (arith, length_lines))

  pub week_is : (k : ℕ) → k < last_week s.year → week_at (statement_of s x t) k ≡ week_line s.year x (measured_hours s x t) (k + 1)
  unfolding statement_of paid_for week_lines
  week_is k l =
      filled_used no_week 10 (week_lines s.year x (measured_hours s x t)) k no_week (omega (arith, length_weeks))
      ∙ get_or-map-range_with_len (week_line s.year x (measured_hours s x t)) 1 (last_week s.year) k (k + 1) no_week l (omega arith)

  pub unused_week : (k : ℕ) → last_week s.year ≤ k → week_at (statement_of s x t) k ≡ no_week
  unfolding statement_of paid_for
  unused_week k l = filled_unused no_week 10 (week_lines s.year x (measured_hours s x t)) k (omega (arith, length_weeks))

-- The figures of a statement add up.
use Rattle.std.proofs.Common.{◌≡◌, ℕ, zero, suc, ◌+◌, ◌-◌, ◌*◌, ◌/◌, ◌<◌, min, Bool, List, [], ◌∷◌, map, length, get_or, replicate, sum_by, filter, sym, refl, ap, ◌∙◌, subst, ap₂, inl, inr, arith}
use Rattle.std.proofs.lemmas.List.Elements.{filter-append}
use Rattle.std.proofs.lemmas.List.Sums.{sum_by-append, sum_by-cons}
use Rattle.std.proofs.lemmas.Bool.{cases_Bool, cases_lt}
use Rattle.std.proofs.lemmas.Bool.Decides.{nat_tests}
use Rattle.tariff.specs.AddsUp.{HourAddsUp, WeekAddsUp, AddsUp, TheStatementAddsUp}
use Rattle.tariff.specs.Calendar.{week_of, in_week, last_week}
use Rattle.tariff.specs.Calls.{run}
use Rattle.tariff.specs.Events.{event_hour}
use Rattle.tariff.specs.Lines.{line_at, week_at}
use Rattle.tariff.specs.Measure.{measured, measured_hours, nomination_on}
use Rattle.tariff.specs.Pay.{priced, week_line_of, week_lines, hours_in_week, counted_sum, no_hour, no_week, filled, incentive_of, charged_of, paid_for}
use Rattle.tariff.specs.Season.{Season, opened, season_event_hours, site_at, nomination_for}
use Rattle.tariff.specs.Sound.{OfSoundSeasons, AfterAnyCalls}
use Rattle.tariff.specs.Statement.{statement_of}
use Rattle.tariff.specs.Tables.{Table}
use Rattle.tariff.specs.declared.season.EventHour.{EventHour}
use Rattle.tariff.specs.declared.season.Site.{Site}
use Rattle.tariff.specs.declared.statement.MeasuredHour.{MeasuredHour}
use Rattle.tariff.specs.declared.statement.HourLine.{HourLine}
use Rattle.tariff.specs.declared.statement.WeekLine.{WeekLine}
use Rattle.tariff.specs.declared.statement.Statement.{Statement}
use Rattle.tariff.proofs.HoursOfEvents.{listed_at}
use Rattle.tariff.proofs.RecordFilled.{statement_is, number_is, sumBy_filled, week_counted, week_within, line_is, unused_line, week_is, unused_week}

-- ---- sums over what a filter keeps

module _ {X : Type 0} (f : X → ℕ) (p : X → Bool) where
  sum_kept_unused : (a : X) → f a ≡ 0 → (n : ℕ) → sum_by f (filter p (replicate n a)) ≡ 0
  sum_kept_unused a e zero = refl
  sum_kept_unused a e (suc n) =
      elim (cases_Bool (p a)) [
        | inl q ↦ rw q (omega (arith, sum_by-cons f a (filter p (replicate n a)), sum_kept_unused a e n))
        | inr q ↦ rw q (sum_kept_unused a e n)
      ]

  sum_kept_filled : (a : X) → f a ≡ 0 → (n : ℕ) (xs : List X) → sum_by f (filter p (filled a n xs)) ≡ sum_by f (filter p xs)
  sum_kept_filled a e n xs =
      ap (sum_by f) (filter-append p xs (replicate (n - length xs) a))
      ∙ omega (arith, sum_by-append f (filter p xs) (filter p (replicate (n - length xs) a)), sum_kept_unused a e (n - length xs))

  sum_kept_map : {Y : Type 0} (g : Y → X) (ys : List Y) → sum_by f (filter p (map g ys)) ≡ sum_by (λ y. f (g y)) (filter (λ y. p (g y)) ys)
  sum_kept_map g [] = refl
  sum_kept_map g (y ∷ ys) =
      elim (cases_Bool (p (g y))) [
        | inl q ↦ rw q (omega (arith, sum_by-cons f (g y) (filter p (map g ys)), sum_by-cons (λ v. f (g v)) y (filter (λ v. p (g v)) ys), sum_kept_map g ys))
        | inr q ↦ rw q (sum_kept_map g ys)
      ]

-- ---- line by line

priced_adds_up : (m : MeasuredHour) → HourAddsUp (priced m)
priced_adds_up m = record {
  energy_to_3 = λ h. grind (arith, nat_tests);
  energy_from_4 = λ h. grind (arith, nat_tests);
  adjustment_to_3 = λ h. grind (arith, nat_tests);
  adjustment_from_4 = λ h. grind (arith, nat_tests);
}

unused_hour_adds_up : HourAddsUp no_hour
unused_hour_adds_up = record { energy_to_3 = λ h. refl; energy_from_4 = λ h. refl; adjustment_to_3 = λ h. refl; adjustment_from_4 = λ h. refl }

week_adds_up : (nominated : ℕ) (hours : List MeasuredHour) (days : ℕ) → WeekAddsUp (week_line_of nominated hours days)
week_adds_up nominated hours days = record { without_hours = λ h. grind (arith, nat_tests); with_hours = λ h. grind (arith, nat_tests) }

unused_week_adds_up : WeekAddsUp no_week
unused_week_adds_up = record { without_hours = λ h. refl; with_hours = λ h. refl }

-- ---- a statement

-- what is read where there is no event hour
nowhere : EventHour
nowhere = event_hour 0 0 0

module _ (s : Season) (x : Site) (t : Table) where
  abbrev made : Statement
  made = statement_of s x t

  incentive_adds : made.incentive ≡ sum_by (λ l. l.capacity) made.weeks + sum_by (λ l. l.energy) made.hours
  unfolding statement_of paid_for incentive_of
  incentive_adds =
      ap₂ ◌+◌ (sym (sumBy_filled no_week (λ l. l.capacity) refl 10 (week_lines s.year x (measured_hours s x t))))
      (sym (sumBy_filled no_hour (λ l. l.energy) refl 60 (map priced (measured_hours s x t))))

  charged_adds : made.charged ≡ sum_by (λ l. l.adjustment) made.hours
  unfolding statement_of paid_for charged_of
  charged_adds = sym (sumBy_filled no_hour (λ l. l.adjustment) refl 60 (map priced (measured_hours s x t)))

  taken_is : made.taken ≡ min made.charged made.incentive
  unfolding statement_of paid_for
  taken_is = refl

  net_is : made.net ≡ made.incentive - made.taken
  unfolding statement_of paid_for
  net_is = refl

  paid_is : made.paid ≡ made.net / 1000
  unfolding statement_of paid_for
  paid_is = refl

  hour_adds : (k : ℕ) → HourAddsUp (line_at made k)
  hour_adds k =
      elim (cases_lt k (length (season_event_hours s))) [
        | inl l ↦ subst HourAddsUp (sym (line_is s x t k nowhere l)) (priced_adds_up (measured s x t (get_or (season_event_hours s) k nowhere)))
        | inr l ↦ subst HourAddsUp (sym (unused_line s x t k l)) unused_hour_adds_up
      ]

  week_adds : (k : ℕ) → WeekAddsUp (week_at made k)
  unfolding hours_in_week
  week_adds k =
      elim (cases_lt k (last_week s.year)) [
        | inl l ↦ subst WeekAddsUp (sym (week_is s x t k l)) (week_adds_up (nomination_for x (k + 1)) (hours_in_week s.year (k + 1) (measured_hours s x t)) _)
        | inr l ↦ subst WeekAddsUp (sym (unused_week s x t k l)) unused_week_adds_up
      ]

  -- the nomination on the line of a day's week
  nominated_on : (d : ℕ) → d < 76 → (week_at made (week_of s.year d - 1)).nomination ≡ nomination_on s x d
  nominated_on d b =
      let l : week_of s.year d - 1 < last_week s.year = omega (arith, week_counted s.year d, week_within s.year d (omega arith)) in
      ap (λ (m : WeekLine). m.nomination) (week_is s x t (week_of s.year d - 1) l) ∙ ap (nomination_for x) (omega (arith, week_counted s.year d))

  shortfall_is : (k : ℕ) → k < length (season_event_hours s)
      → (line_at made k).shortfall ≡ 1000 * (week_at made (week_of s.year (line_at made k).day - 1)).nomination - (line_at made k).reduction
  shortfall_is k l =
      let p : EventHour = get_or (season_event_hours s) k nowhere in
      let b = (listed_at s.days 76 k nowhere l).0 in
      subst (λ (m : HourLine). m.shortfall ≡ 1000 * (week_at made (week_of s.year m.day - 1)).nomination - m.reduction) (sym (line_is s x t k nowhere l))
      (ap (λ (n : ℕ). 1000 * n - (measured s x t p).reduction) (sym (nominated_on p.day b)))

  counted_is : (k : ℕ) → k < last_week s.year
      → (week_at made k).counted ≡ sum_by (λ l. min l.reduction (1200 * (week_at made k).nomination)) (filter (λ l. in_week s.year (k + 1) l.day) made.hours)
  unfolding statement_of paid_for counted_sum hours_in_week
  counted_is k l =
      let ms : List MeasuredHour = measured_hours s x t in
      let nominated : ℕ = nomination_for x (k + 1) in
      let f : HourLine → ℕ = λ m. min m.reduction (1200 * nominated) in
      let q : HourLine → Bool = λ m. in_week s.year (k + 1) m.day in
      ap (λ (m : WeekLine). m.counted) (week_is s x t k l)
      ∙ sym (sum_kept_map f q priced ms)
      ∙ sym (sum_kept_filled f q no_hour (omega arith) 60 (map priced ms))
      ∙ ap (λ (n : ℕ). sum_by (λ (m : HourLine). min m.reduction (1200 * n)) (filter q made.hours)) (sym (ap (λ (m : WeekLine). m.nomination) (week_is s x t k l)))

made_adds_up : (s : Season) (x : Site) (t : Table) → AddsUp s.year (statement_of s x t) (length (season_event_hours s))
made_adds_up s x t = record {
  incentive = incentive_adds s x t;
  charged = charged_adds s x t;
  taken = taken_is s x t;
  net = net_is s x t;
  paid = paid_is s x t;
  lines = λ k l. hour_adds s x t k;
  weeks = λ k l. week_adds s x t k;
  shortfalls = shortfall_is s x t;
  counted = counted_is s x t;
}

-- of every season, sound or not
pub every_statement_adds_up : (s : Season) → TheStatementAddsUp s
every_statement_adds_up s site t x n e =
    subst (λ (y : Statement). AddsUp s.year y n) (statement_is s site t x n e)
    (subst (λ (m : ℕ). AddsUp s.year (statement_of s (site_at s site) t) m) (number_is s site t x n e) (made_adds_up s (site_at s site) t))

pub the_statement_adds_up_lem : OfSoundSeasons TheStatementAddsUp
the_statement_adds_up_lem s sound = every_statement_adds_up s

-- the same of every season that calls have made
pub the_statement_adds_up_after : AfterAnyCalls TheStatementAddsUp
the_statement_adds_up_after old year l m calls = every_statement_adds_up (run (opened old year) calls)

-- No event hour is left out of a statement, and none comes twice.
use Rattle.std.proofs.Common.{◌≡◌, ℕ, zero, suc, ◌+◌, ◌<◌, ◌≤◌, Bool, true, false, cond, List, map, length, get_or, take, Ok, count_by, filter, sym, refl, ap, ◌∙◌, subst, ap₂, inl, inr, add-one, arith}
use Rattle.std.proofs.lemmas.List.{take_all}
use Rattle.std.proofs.lemmas.List.Sums.{sum_by_more, length-filter}
use Rattle.std.proofs.lemmas.Bool.{cases_Bool, cases_order}
use Rattle.tariff.specs.Calendar.{in_week, last_week}
use Rattle.tariff.specs.Calls.{shut, close_answer}
use Rattle.tariff.specs.Counting.{count}
use Rattle.tariff.specs.EveryHour.{InStandingEvent, HasLine, Earlier, ZeroHour, ZeroWeek, EachHourOnce, EveryEventHourOnce}
use Rattle.tariff.specs.Events.{event_of, event_hour, standing_before, hours_before, week_hours_before}
use Rattle.tariff.specs.Lines.{line_at, week_at}
use Rattle.tariff.specs.Measure.{measured, measured_hours}
use Rattle.tariff.specs.Pay.{hours_in_week}
use Rattle.tariff.specs.Season.{Season, day_at, standing, standing_events, standing_hours, season_event_hours, hours_of_week, site_at}
use Rattle.tariff.specs.Sound.{Fit, Sound, OfSoundSeasons, AfterAnyCalls, SeasonsAreSound}
use Rattle.tariff.specs.Statement.{statement_of}
use Rattle.tariff.specs.Tables.{Table}
use Rattle.tariff.specs.declared.season.EventHour.{EventHour}
use Rattle.tariff.specs.declared.season.Site.{Site}
use Rattle.tariff.specs.declared.statement.HourLine.{HourLine}
use Rattle.tariff.specs.declared.statement.WeekLine.{WeekLine}
use Rattle.tariff.specs.declared.statement.Statement.{Statement}
use Rattle.tariff.proofs.HoursOfEvents.{listed_at, none_left_out, hours_rise}
use Rattle.tariff.proofs.Pointwise.{sumBy_map}
use Rattle.tariff.proofs.Runs.{standing_fit}
use Rattle.tariff.proofs.Totals.{count_same}
use Rattle.tariff.proofs.RecordFilled.{statement_is, number_is, weeks_few, sixty_lines, ten_weeks, line_is, unused_line, week_is, unused_week}

-- ---- counts

count_none : (p : ℕ → Bool) (n : ℕ) → ((k : ℕ) → k < n → p k ≡ false) → count p n ≡ 0
unfolding count
count_none p zero h = refl
count_none p (suc n) h = ap₂ ◌+◌ (count_none p n (λ k l. h k (omega arith))) (ap (λ (b : Bool). cond b 1 0) (h n (omega arith)))

count_front : {X : Type 0} (p : X → Bool) (xs : List X) (o : X) (i : ℕ) → i ≤ length xs → count (λ k. p (get_or xs k o)) i ≡ count_by p (take i xs)
unfolding count
count_front p xs o zero l = refl
count_front p xs o (suc i) l =
    ap (λ (n : ℕ). n + cond (p (get_or xs i o)) 1 0) (count_front p xs o i (omega arith))
    ∙ sym (sum_by_more (λ x. cond (p x) 1 0) xs i o (omega arith)) ∙ ap (λ (j : ℕ). count_by p (take j xs)) (add-one i)

-- how many elements pass a test, by their places
count_places : {X : Type 0} (p : X → Bool) (xs : List X) (o : X) → count (λ k. p (get_or xs k o)) (length xs) ≡ length (filter p xs)
count_places p xs o = count_front p xs o (length xs) (omega arith) ∙ ap (count_by p) (take_all (length xs) xs (omega arith)) ∙ sym (length-filter p xs)

length_kept_map : {X Y : Type 0} (p : Y → Bool) (f : X → Y) (xs : List X) → length (filter p (map f xs)) ≡ length (filter (λ x. p (f x)) xs)
length_kept_map p f xs = length-filter p (map f xs) ∙ sym (sumBy_map (λ y. cond (p y) 1 0) f xs) ∙ sym (length-filter (λ x. p (f x)) xs)

-- ---- the lines of a sound season

-- what is read where there is no event hour
nowhere : EventHour
nowhere = event_hour 0 0 0

module _ (s : Season) (x : Site) (t : Table) where
  abbrev hour_at : ℕ → EventHour
  hour_at k = get_or (season_event_hours s) k nowhere

  abbrev made : Statement
  made = statement_of s x t

  abbrev used : ℕ
  used = length (season_event_hours s)

  line_day : (k : ℕ) → k < used → (line_at made k).day ≡ (hour_at k).day
  line_day k l = ap (λ (m : HourLine). m.day) (line_is s x t k nowhere l)

  line_hour : (k : ℕ) → k < used → (line_at made k).hour ≡ (hour_at k).hour
  line_hour k l = ap (λ (m : HourLine). m.hour) (line_is s x t k nowhere l)

  line_event : (k : ℕ) → k < used → (line_at made k).event ≡ (hour_at k).event
  line_event k l = ap (λ (m : HourLine). m.event) (line_is s x t k nowhere l)

  has_line : (d h : ℕ) → d < 76 → InStandingEvent s d h → HasLine made used d h
  has_line d h b e =
      let f = none_left_out s.days 76 d h b e.stands_that_day e.begun e.not_over in
      (f.0, f.1, line_day f.0 f.1 ∙ ap (λ (p : EventHour). p.day) (f.2 nowhere), line_hour f.0 f.1 ∙ ap (λ (p : EventHour). p.hour) (f.2 nowhere))

  lies_in : (k : ℕ) → k < used → InStandingEvent s (hour_at k).day (hour_at k).hour
  lies_in k l =
      let f = listed_at s.days 76 k nowhere l in
      record { stands_that_day = f.1.standing_then; begun = f.1.begun; not_over = f.1.not_over }

  line_lies_in : (d h : ℕ) → HasLine made used d h → InStandingEvent s d h
  line_lies_in d h f =
      let e : (hour_at f.0).day ≡ d = sym (line_day f.0 f.1) ∙ f.2 in
      let g : (hour_at f.0).hour ≡ h = sym (line_hour f.0 f.1) ∙ f.3 in
      subst (λ (v : ℕ). InStandingEvent s v h) e (subst (λ (v : ℕ). InStandingEvent s (hour_at f.0).day v) g (lies_in f.0 f.1))

  lines_rise : (j k : ℕ) → j < k → k < used → Earlier (line_at made j) (line_at made k)
  lines_rise j k l m =
      let dj = line_day j (omega arith) in
      let dk = line_day k m in
      let hj = line_hour j (omega arith) in
      let hk = line_hour k m in
      elim (hours_rise s.days 76 j k nowhere l m) [
        | inl e ↦ inl (omega arith)
        | inr e ↦ inr (dj ∙ e.0 ∙ sym dk, omega arith)
      ]

  lines_apart : (j k : ℕ) → j < used → k < used → (line_at made j).day ≡ (line_at made k).day → (line_at made j).hour ≡ (line_at made k).hour → j ≡ k
  lines_apart j k l m d h =
      elim (cases_order j k) [
        | inl e ↦ e
        | inr (inl e) ↦ let z : ⊥ = elim (lines_rise j k e m) [ inl p ↦ omega arith | inr p ↦ omega arith ] in absurd z
        | inr (inr e) ↦ let z : ⊥ = elim (lines_rise k j e l) [ inl p ↦ omega arith | inr p ↦ omega arith ] in absurd z
      ]

  line_numbered : (k : ℕ) → k < used → (line_at made k).event ≡ count (standing s) (line_at made k).day + 1
  unfolding standing_before
  line_numbered k l =
      line_event k l ∙ (listed_at s.days 76 k nowhere l).1.number_is ∙ ap (λ (d : ℕ). count (standing s) d + 1) (sym (line_day k l))

  zero_line : (k : ℕ) → used ≤ k → ZeroHour (line_at made k)
  zero_line k l =
      subst ZeroHour (sym (unused_line s x t k l)) (record { event = refl; day = refl; hour = refl; base = refl; adjusted = refl; reduction = refl; shortfall = refl; energy = refl; adjustment = refl })

  zero_week : (k : ℕ) → last_week s.year ≤ k → ZeroWeek (week_at made k)
  zero_week k l = subst ZeroWeek (sym (unused_week s x t k l)) (record { nomination = refl; hours = refl; counted = refl; days = refl; capacity = refl })

  week_length : (w : ℕ) → length (hours_in_week s.year w (measured_hours s x t)) ≡ hours_of_week s w
  unfolding hours_in_week week_hours_before
  week_length w = length_kept_map (λ m. in_week s.year w m.day) (measured s x t) (season_event_hours s)

  week_hours_are : (k : ℕ) → k < last_week s.year → (week_at made k).hours ≡ hours_of_week s (k + 1)
  week_hours_are k l = ap (λ (m : WeekLine). m.hours) (week_is s x t k l) ∙ week_length (k + 1)

  week_counts_lines : (k : ℕ) → k < last_week s.year → (week_at made k).hours ≡ count (λ j. in_week s.year (k + 1) (line_at made j).day) used
  unfolding week_hours_before
  week_counts_lines k l =
      week_hours_are k l
      ∙ sym (count_places (λ p. in_week s.year (k + 1) p.day) (season_event_hours s) nowhere)
      ∙ count_same (λ j. in_week s.year (k + 1) (hour_at j).day) (λ j. in_week s.year (k + 1) (line_at made j).day) used (λ j m. ap (in_week s.year (k + 1)) (sym (line_day j m)))

  used_are : used ≡ standing_hours s
  unfolding hours_before
  used_are = refl

  module _ (sound : Sound s) where
    fit : (d : ℕ) → standing s d ≡ true → Fit s.year d (event_of (day_at s d))
    fit d e = standing_fit s d sound e

    within_summer : (k : ℕ) → k < used → ((line_at made k).day < 76) × ((line_at made k).hour < 24)
    within_summer k l =
        let e = lies_in k l in
        let f = fit (hour_at k).day e.stands_that_day in
        (omega (arith, line_day k l), omega (arith, line_hour k l))

    first_day : (l : 0 < used) (d : ℕ) → d < (line_at made 0).day → standing s d ≡ false
    first_day l d b =
        elim (cases_Bool (standing s d)) [
          | inl e ↦
              let f = fit d e in
              let h = has_line d (event_of (day_at s d)).start (omega arith) (record { stands_that_day = e; begun = omega arith; not_over = omega arith }) in
              later h.0 h.1 h.2
          | inr e ↦ e
        ]
      where
        later : (k : ℕ) → k < used → (line_at made k).day ≡ d → standing s d ≡ false
        later zero m e = let z : ⊥ = omega arith in absurd z
        later (suc k) m e =
            let r = lines_rise 0 (suc k) (omega arith) m in
            let z : ⊥ = elim r [ inl p ↦ omega arith | inr p ↦ omega arith ] in
            absurd z

    first_is_one : 0 < used → (line_at made 0).event ≡ 1
    first_is_one l = line_numbered 0 l ∙ ap (λ (n : ℕ). n + 1) (count_none (standing s) (line_at made 0).day (first_day l))

closed_with_hours : (s before : Season) → before.closed ≡ false → shut before ≡ s → close_answer before ≡ Ok (standing_events s, length (season_event_hours s))
unfolding hours_before
closed_with_hours s before e q = subst (λ (v : Season). close_answer before ≡ Ok (standing_events v, length (season_event_hours v))) q (rw e refl)

made_once : (s : Season) → Sound s → (site : ℕ) (t : Table) → EachHourOnce s site (statement_of s (site_at s site) t) (length (season_event_hours s))
made_once s sound site t =
    let x : Site = site_at s site in
    let room : length (season_event_hours s) ≤ 60 = omega (arith, sound.overall, used_are s x t) in
    record {
      sixty = sixty_lines s x t room;
      ten = ten_weeks s x t;
      number = used_are s x t;
      room = room;
      closing = closed_with_hours s;
      of_summer = within_summer s x t sound;
      exactly = λ d h b c. (has_line s x t d h b, line_lies_in s x t d h);
      rising = lines_rise s x t;
      once = lines_apart s x t;
      numbered = line_numbered s x t;
      first_event = first_is_one s x t sound;
      later_lines = λ k l m. zero_line s x t k l;
      week_room = weeks_few s.year;
      weeks = λ k l. record {
        nomination = ap (λ (m : WeekLine). m.nomination) (week_is s x t k l);
        hours = week_hours_are s x t k l;
        days = ap (λ (m : WeekLine). m.days) (week_is s x t k l);
      };
      later_weeks = λ k l m. zero_week s x t k l;
      week_hours = week_counts_lines s x t;
    }

pub every_event_hour_once : OfSoundSeasons EveryEventHourOnce
every_event_hour_once s sound site t x n e =
    subst (λ (y : Statement). EachHourOnce s site y n) (statement_is s site t x n e)
    (subst (λ (m : ℕ). EachHourOnce s site (statement_of s (site_at s site) t) m) (number_is s site t x n e) (made_once s sound site t))

-- the same of every season that calls have made, where those are sound
pub every_event_hour_once_after : SeasonsAreSound → AfterAnyCalls EveryEventHourOnce
every_event_hour_once_after sound old year l m calls = every_event_hour_once _ (sound old year l m calls)

-- Reading and writing stamps. Assumes nothing.
use Rattle.std.proofs.Common.{◌≡◌, ℕ, ◌+◌, ◌-◌, ◌*◌, ◌/◌, ◌%◌, ◌<◌, ◌≤◌, true, cond, ◌&&◌, eqb, ltb, leb, List, length, get_or, IfSome, Some, None, Option, sym, refl, ap, ◌∙◌, ⊎_elim, arith}
use Rattle.std.proofs.lemmas.Slice.Eq.{text_from_reads}
use Rattle.std.proofs.lemmas.Bool.{cases_Bool, cond-true, cond-false, cond_both, and_parts, leb-true, eqb-true, ltb-true}
use Rattle.std.proofs.lemmas.Option.{MatchOption-at_some}
use Rattle.std.proofs.lemmas.Bool.Decides.{nat_tests}
use Rattle.text.specs.Stamps.{and_then, two_digits, day_to, day_of_summer, minute_of_day, moment_of, shaped, field, stamp_of, month_of, day_in_month, stamp_text}
use Rattle.text.specs.Stamps.{StampsLieInTheSummer, WrittenStampsReadBack, AMomentHasOneStamp, StampsWorkedOut}

-- ---- going on with what was read

pub then_at : {X Y : Type 0} (o : Option X) (go : X → Option Y) {x : X} {y : Option Y} → Some x ≡ o → y ≡ go x → y ≡ and_then o go
then_at o go e f = f ∙ ap (λ p. and_then p go) e

-- what holds of whatever comes after holds of what there is at the end
then_keeps : {X Y : Type 0} (P : Y → Type 0) (o : Option X) (go : X → Option Y) → ((x : X) → IfSome (go x) P) → IfSome (and_then o go) P
then_keeps P (Some x) go each = each x
then_keeps P None go each = tt

-- ---- the moment of a month, a day, an hour and a minute

pub at_moment : (month day hour minute : ℕ) {d m : ℕ} → Some d ≡ day_of_summer month day → Some m ≡ minute_of_day hour minute → Some (d * 1440 + m) ≡ moment_of month day hour minute
unfolding moment_of
at_moment month day hour minute e f = then_at (day_of_summer month day) _ e (then_at (minute_of_day hour minute) _ f refl)

-- ---- the four numbers of a stamp

module _ (word : List ℕ) where
  module _ (whole : true ≡ shaped word) where
    whole_stamp : {x y : Option ℕ} → x ≡ y → x ≡ cond (shaped word) y None
    whole_stamp {x} {y} e = e ∙ sym (cond-true (shaped word) y None (sym whole))

    pub at_stamp : {a b c d : ℕ} → Some a ≡ field word 0 → Some b ≡ field word 3 → Some c ≡ field word 6 → Some d ≡ field word 9 → moment_of a b c d ≡ stamp_of word
    unfolding stamp_of
    at_stamp a b c d = whole_stamp (then_at (field word 0) _ a (then_at (field word 3) _ b (then_at (field word 6) _ c (then_at (field word 9) _ d refl))))

-- ---- no stamp names a moment after the summer

day_in_summer : (month day : ℕ) → IfSome (day_of_summer month day) (λ d. d ≤ 75)
day_in_summer month day =
    let P : Option ℕ → Type 0 = λ o. IfSome o (λ d. d ≤ 75) in
    cond_both (eqb month 6 && day_to 30 day) (Some (day - 1)) _ P
    (λ e. let h = leb-true day 30 (and_parts (leb 1 day) (leb day 30) (and_parts (eqb month 6) (day_to 30 day) e).1).1 in omega (arith, h))
    (λ _. cond_both (eqb month 7 && day_to 31 day) (Some (30 + (day - 1))) _ P
    (λ e. let h = leb-true day 31 (and_parts (leb 1 day) (leb day 31) (and_parts (eqb month 7) (day_to 31 day) e).1).1 in omega (arith, h))
    (λ _. cond_both (eqb month 8 && day_to 15 day) (Some (61 + (day - 1))) None P
    (λ e. let h = leb-true day 15 (and_parts (leb 1 day) (leb day 15) (and_parts (eqb month 8) (day_to 15 day) e).1).1 in omega (arith, h))
    (λ _. tt)))

minute_in_day : (hour minute : ℕ) → IfSome (minute_of_day hour minute) (λ m. m ≤ 1439)
minute_in_day hour minute =
    cond_both (ltb hour 24 && ltb minute 60) (Some (hour * 60 + minute)) None (λ o. IfSome o (λ m. m ≤ 1439))
    (λ e.
    let h = and_parts (ltb hour 24) (ltb minute 60) e in
    omega (arith, ltb-true hour 24 h.0, ltb-true minute 60 h.1))
    (λ _. tt)

joined_in_summer : (o p : Option ℕ) → IfSome o (λ d. d ≤ 75) → IfSome p (λ m. m ≤ 1439) → IfSome (and_then o (λ d. and_then p (λ m. Some (d * 1440 + m)))) (λ m. m ≤ 109439)
joined_in_summer (Some d) (Some m) h k = omega (arith, h, k)
joined_in_summer (Some d) None h k = tt
joined_in_summer None p h k = tt

moment_in_summer : (month day hour minute : ℕ) → IfSome (moment_of month day hour minute) (λ m. m ≤ 109439)
unfolding moment_of
moment_in_summer month day hour minute = joined_in_summer (day_of_summer month day) (minute_of_day hour minute) (day_in_summer month day) (minute_in_day hour minute)

stamp_in_summer : (word : List ℕ) → IfSome (stamp_of word) (λ m. m ≤ 109439)
unfolding stamp_of
stamp_in_summer word =
    let P : ℕ → Type 0 = λ m. m ≤ 109439 in
    cond_both (shaped word) _ None (λ o. IfSome o P)
    (λ _. then_keeps P (field word 0) _ (λ month. then_keeps P (field word 3) _ (λ day. then_keeps P (field word 6) _ (λ hour. then_keeps P (field word 9) _ (λ minute. moment_in_summer month day hour minute)))))
    (λ _. tt)

pub stamps_lie_in_the_summer_lem : StampsLieInTheSummer
stamps_lie_in_the_summer_lem word m e = MatchOption-at_some (Unit {0}) (λ m. m ≤ 109439) m e (stamp_in_summer word)

-- ---- a moment written as a stamp, and read

two_digits_back : (n : ℕ) → n < 100 → Some n ≡ two_digits (48 + n / 10) (48 + n % 10)
two_digits_back n h = grind (arith, nat_tests)

day_back : (d : ℕ) → d < 76 → Some d ≡ day_of_summer (month_of d) (day_in_month d)
day_back d h = grind (arith, nat_tests)

minute_back : (m : ℕ) → Some (m % 1440) ≡ minute_of_day (m % 1440 / 60) (m % 60)
minute_back m = grind (arith, nat_tests)

month_two : (d : ℕ) → month_of d < 100
month_two d = grind (arith, nat_tests)

day_two : (d : ℕ) → d < 76 → day_in_month d < 100
day_two d h = grind (arith, nat_tests)

pub written_stamps_read_back_lem : WrittenStampsReadBack
unfolding stamp_text
written_stamps_read_back_lem m h =
    let d = m / 1440 in
    let l : d < 76 = omega arith in
    sym (
    ap Some (omega arith)
    ∙ at_moment (month_of d) (day_in_month d) (m % 1440 / 60) (m % 60) (day_back d l) (minute_back m)
    ∙ at_stamp (stamp_text m) refl (two_digits_back (month_of d) (month_two d)) (two_digits_back (day_in_month d) (day_two d l)) (two_digits_back (m % 1440 / 60) (omega arith)) (two_digits_back (m % 60) (omega arith)))

-- ---- a word that is read is its moment written

some_then : {X Y : Type 0} (o : Option X) (go : X → Option Y) (y : Y) → and_then o go ≡ Some y → (x : X) × (o ≡ Some x) × (go x ≡ Some y)
some_then (Some x) go y e = (x, refl, e)
some_then None go y e = absurd (grind arith)

digits_written : (t u n : ℕ) → two_digits t u ≡ Some n → (t ≡ 48 + n / 10) × (u ≡ 48 + n % 10)
digits_written t u n e = (grind (arith, nat_tests), grind (arith, nat_tests))

day_written : (month day d : ℕ) → day_of_summer month day ≡ Some d → (month ≡ month_of d) × (day ≡ day_in_month d)
day_written month day d e = (grind (arith, nat_tests), grind (arith, nat_tests))

minute_written : (hour minute q : ℕ) → minute_of_day hour minute ≡ Some q → (hour ≡ q / 60) × (minute ≡ q % 60) × (q < 1440)
minute_written hour minute q e = (grind (arith, nat_tests), grind (arith, nat_tests), grind (arith, nat_tests))

-- the numbers of a moment
record NumbersOf (m month day hour minute : ℕ) : Type 0 where
  month_is : month ≡ month_of (m / 1440)
  day_is : day ≡ day_in_month (m / 1440)
  hour_is : hour ≡ m % 1440 / 60
  minute_is : minute ≡ m % 60

moment_numbers : (month day hour minute m : ℕ) → moment_of month day hour minute ≡ Some m → NumbersOf m month day hour minute
unfolding moment_of
moment_numbers month day hour minute m e =
    let at-day = some_then (day_of_summer month day) _ m e in
    let at-minute = some_then (minute_of_day hour minute) _ m at-day.2 in
    let d = at-day.0 in
    let q = at-minute.0 in
    let days = day_written month day d at-day.1 in
    let minutes = minute_written hour minute q at-minute.1 in
    let sum : d * 1440 + q ≡ m = grind (arith, at-minute.2) in
    let few = minutes.2 in
    let same_day : d ≡ m / 1440 = omega arith in
    let same-minute : q ≡ m % 1440 = omega arith in
    record {
      month_is = days.0 ∙ ap month_of same_day;
      day_is = days.1 ∙ ap day_in_month same_day;
      hour_is = minutes.0 ∙ ap (λ k. k / 60) same-minute;
      minute_is = minutes.1 ∙ omega arith;
    }

-- a word with four numbers at their places, between the signs of a stamp
stamp_written : (word : List ℕ) (m month day hour minute : ℕ) → shaped word ≡ true → field word 0 ≡ Some month → field word 3 ≡ Some day → field word 6 ≡ Some hour → field word 9 ≡ Some minute → NumbersOf m month day hour minute → word ≡ stamp_text m
unfolding stamp_text
stamp_written word m month day hour minute whole f0 f3 f6 f9 is =
    let shape = and_parts (eqb (length word) 11) _ whole in
    let dash = and_parts (eqb (get_or word 2 0) 45) _ shape.1 in
    let tee = and_parts (eqb (get_or word 5 0) 84) _ dash.1 in
    let a = digits_written (get_or word 0 0) (get_or word 1 0) month f0 in
    let b = digits_written (get_or word 3 0) (get_or word 4 0) day f3 in
    let c = digits_written (get_or word 6 0) (get_or word 7 0) hour f6 in
    let d = digits_written (get_or word 9 0) (get_or word 10 0) minute f9 in
    text_from_reads word (stamp_text m) (eqb-true (length word) 11 shape.0) (
      a.0 ∙ ap (λ n. 48 + n / 10) is.month_is,
      (
        a.1 ∙ ap (λ n. 48 + n % 10) is.month_is,
        (
          eqb-true (get_or word 2 0) 45 dash.0,
          (
            b.0 ∙ ap (λ n. 48 + n / 10) is.day_is,
            (
              b.1 ∙ ap (λ n. 48 + n % 10) is.day_is,
              (
                eqb-true (get_or word 5 0) 84 tee.0,
                (
                  c.0 ∙ ap (λ n. 48 + n / 10) is.hour_is,
                  (
                    c.1 ∙ ap (λ n. 48 + n % 10) is.hour_is,
                    (
                      eqb-true (get_or word 8 0) 58 tee.1,
                      (
                        d.0 ∙ ap (λ n. 48 + n / 10) is.minute_is,
                        (
                          d.1 ∙ ap (λ n. 48 + n % 10) is.minute_is,
                          tt,
                        ),
                      ),
                    ),
                  ),
                ),
              ),
            ),
          ),
        ),
      ),
    )

pub a_moment_has_one_stamp_lem : AMomentHasOneStamp
unfolding stamp_of
a_moment_has_one_stamp_lem word m e =
    ⊎_elim
    (λ whole.
    let read = sym (cond-true (shaped word) _ None whole) ∙ e in
    let month = some_then (field word 0) _ m read in
    let day = some_then (field word 3) _ m month.2 in
    let hour = some_then (field word 6) _ m day.2 in
    let minute = some_then (field word 9) _ m hour.2 in
    stamp_written word m month.0 day.0 hour.0 minute.0 whole month.1 day.1 hour.1 minute.1 (moment_numbers month.0 day.0 hour.0 minute.0 m minute.2))
    (λ none. let no-stamp = sym (cond-false (shaped word) _ None none) ∙ e in absurd (grind arith))
    (cases_Bool (shaped word))

pub stamps_worked_out_lem : StampsWorkedOut
unfolding stamp_of moment_of
stamps_worked_out_lem = record {
  first = refl;
  noon = refl;
  july = refl;
  august = refl;
  last = refl;
  no_june_31 = refl;
  no_august_16 = refl;
  no_day_0 = refl;
  no_hour_24 = refl;
  no_minute_60 = refl;
  no_seconds = refl;
}

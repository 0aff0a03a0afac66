-- A stamp MM-DDTHH:MM of the summer, and the moment that it names: whole minutes since June 1, 00:00. Assumes nothing.
use Rattle.std.specs.Prelude.{◌≡◌, ℕ, ◌+◌, ◌-◌, ◌*◌, ◌/◌, ◌%◌, ◌≤◌, Bool, cond, ◌&&◌, List, [], ◌∷◌, ◌++◌, length, Some, None, codes, Option, ◌==◌, nat_le, nat_lt, slice_index}
use Rattle.std.specs.Char.{is_ascii_digit}

-- go on with what was read; where there is nothing, there stays nothing
abbrev pub and_then : {X Y : Type 0} → Option X → (X → Option Y) → Option Y
and_then (Some x) go = go x
and_then None go = None

-- the number that two decimal digits write
abbrev pub two_digits : ℕ → ℕ → Option ℕ
two_digits tens units = cond (is_ascii_digit tens && is_ascii_digit units) (Some ((tens - 48) * 10 + (units - 48))) None

-- the month has such a day: its days are 1 to last
abbrev pub day_to : ℕ → ℕ → Bool
day_to last day = nat_le 1 day && nat_le day last

-- the day of the summer, June 1 being 0: June has 30 days, July 31, and the summer ends with August 15
abbrev pub day_of_summer : ℕ → ℕ → Option ℕ
day_of_summer month day =
    cond (month == 6 && day_to 30 day) (Some (day - 1))
    (cond (month == 7 && day_to 31 day) (Some (30 + (day - 1)))
    (cond (month == 8 && day_to 15 day) (Some (61 + (day - 1))) None))

-- the minute of the day, of the hours 0 to 23 and the minutes 0 to 59
abbrev pub minute_of_day : ℕ → ℕ → Option ℕ
minute_of_day hour minute = cond (nat_lt hour 24 && nat_lt minute 60) (Some (hour * 60 + minute)) None

-- the moment of a month, a day, an hour and a minute: a day has 1440 minutes
unfoldable pub moment_of : ℕ → ℕ → ℕ → ℕ → Option ℕ
moment_of month day hour minute = and_then (day_of_summer month day) (λ d. and_then (minute_of_day hour minute) (λ m. Some (d * 1440 + m)))

-- eleven bytes with '-', 'T' and ':' at their places
abbrev pub shaped : List ℕ → Bool
shaped word = length word == 11 && (slice_index word 2 == 45 && (slice_index word 5 == 84 && slice_index word 8 == 58))

-- the number that the two bytes from a place on write
abbrev pub field : List ℕ → ℕ → Option ℕ
field word k = two_digits (slice_index word k) (slice_index word (k + 1))

-- the moment that a word names, as MM-DDTHH:MM
unfoldable pub stamp_of : List ℕ → Option ℕ
stamp_of word =
    cond (shaped word)
    (and_then (field word 0) (λ month. and_then (field word 3) (λ day. and_then (field word 6) (λ hour. and_then (field word 9) (λ minute. moment_of month day hour minute)))))
    None

-- a number below 100 as two digits
abbrev pub two_of : ℕ → List ℕ
two_of n = (48 + n / 10) ∷ (48 + n % 10) ∷ []

-- the month of a day of the summer, and which of its days it is
abbrev pub month_of : ℕ → ℕ
month_of d = cond (nat_lt d 30) 6 (cond (nat_lt d 61) 7 8)

abbrev pub day_in_month : ℕ → ℕ
day_in_month d = cond (nat_lt d 30) (d + 1) (cond (nat_lt d 61) (d - 29) (d - 60))

-- a moment as a stamp
unfoldable pub stamp_text : ℕ → List ℕ
stamp_text m =
    two_of (month_of (m / 1440)) ++ (45 ∷ (two_of (day_in_month (m / 1440)) ++ (84 ∷ (two_of (m % 1440 / 60) ++ (58 ∷ two_of (m % 60))))))

-- a stamp names no moment after August 15, 23:59
abbrev pub StampsLieInTheSummer : Type 0
StampsLieInTheSummer = (word : List ℕ) (m : ℕ) → stamp_of word ≡ Some m → m ≤ 109439

-- every moment of the summer, written as a stamp and read, is that moment again
abbrev pub WrittenStampsReadBack : Type 0
WrittenStampsReadBack = (m : ℕ) → m ≤ 109439 → stamp_of (stamp_text m) ≡ Some m

-- and no other word names that moment
abbrev pub AMomentHasOneStamp : Type 0
AMomentHasOneStamp = (word : List ℕ) (m : ℕ) → stamp_of word ≡ Some m → word ≡ stamp_text m

-- stamps worked out by hand
pub record StampsWorkedOut : Type 0 where
  pub first : stamp_of (codes "06-01T00:00") ≡ Some 0
  pub noon : stamp_of (codes "06-15T12:00") ≡ Some 20880
  pub july : stamp_of (codes "07-01T00:00") ≡ Some 43200
  pub august : stamp_of (codes "08-01T00:00") ≡ Some 87840
  pub last : stamp_of (codes "08-15T23:59") ≡ Some 109439
  pub no_june_31 : stamp_of (codes "06-31T00:00") ≡ None
  pub no_august_16 : stamp_of (codes "08-16T00:00") ≡ None
  pub no_day_0 : stamp_of (codes "07-00T00:00") ≡ None
  pub no_hour_24 : stamp_of (codes "06-15T24:00") ≡ None
  pub no_minute_60 : stamp_of (codes "06-15T12:60") ≡ None
  pub no_seconds : stamp_of (codes "06-15T12:00:00") ≡ None

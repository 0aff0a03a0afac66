-- The calendar of a summer. Day 0 is June 1, day 14 is June 15 and day 75 is August 15, of a year from 2015 to 2099.
use Rattle.std.specs.Prelude.{ℕ, ◌+◌, ◌-◌, ◌*◌, ◌/◌, ◌%◌, Bool, cond, not, ◌&&◌, ◌==◌, nat_le, nat_lt}
use Rattle.tariff.specs.Counting.{count}

-- 0 is Monday and 6 is Sunday. Each year moves the weekday of a date by one, and each leap day by one more; June 1, 2015, is a Monday.
unfoldable pub weekday : ℕ → ℕ → ℕ
weekday year day = (year + year / 4 + year / 400 + 3 + day - year / 100) % 7

-- Monday to Friday, the holiday included
unfoldable pub workweek_day : ℕ → ℕ → Bool
workweek_day year day = nat_lt (weekday year day) 5

-- July 4 (day 33), or the Friday before where it is a Saturday, or the Monday after where it is a Sunday
unfoldable pub holiday : ℕ → ℕ
holiday year = cond (weekday year 33 == 5) 32 (cond (weekday year 33 == 6) 34 33)

-- Monday to Friday without the holiday
unfoldable pub business : ℕ → ℕ → Bool
business year day = workweek_day year day && not (day == holiday year)

-- the season runs from June 15 to August 15
abbrev pub in_season : ℕ → Bool
in_season day = nat_le 14 day && nat_le day 75

-- the Monday of week 1, the week that holds June 15
unfoldable pub first_monday : ℕ → ℕ
first_monday year = 14 - weekday year 14

-- the Monday of a week, counted from 1
unfoldable pub monday : ℕ → ℕ → ℕ
monday year week = first_monday year + 7 * week - 7

-- the week of a day, counted from 1; a day before week 1 would give 1 too, and only days of the season are asked for
unfoldable pub week_of : ℕ → ℕ → ℕ
week_of year day = (day - first_monday year) / 7 + 1

-- the day lies in the week
abbrev pub in_week : ℕ → ℕ → ℕ → Bool
in_week year week day = week_of year day == week

-- the week that holds August 15
unfoldable pub last_week : ℕ → ℕ
last_week year = week_of year 75

-- a programme day of a week is a Monday to Friday of it inside the season, the holiday included
unfoldable pub programme_day : ℕ → ℕ → ℕ → Bool
programme_day year week day = workweek_day year day && (in_season day && in_week year week day)

-- how many programme days a week has
unfoldable pub programme_days : ℕ → ℕ → ℕ
programme_days year week = count (programme_day year week) 76

-- a moment is a number of minutes since June 1, 00:00; this is its day
abbrev pub day_of : ℕ → ℕ
day_of moment = moment / 1440

-- and this is its minute of the day
abbrev pub minute_of : ℕ → ℕ
minute_of moment = moment % 1440

-- until when a nomination for a week is taken: 10:00 on Thursday of the week before
unfoldable pub deadline : ℕ → ℕ → ℕ
deadline year week = 1440 * (monday year week - 4) + 600

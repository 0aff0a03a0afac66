-- What a meter means: a table with a reading for each hour of the summer.
use Rattle.std.specs.Prelude.{◌≡◌, ℕ, ◌<◌, Bool, cond, ◌&&◌, nat_le, Ok, Err, Result}
use Rattle.tariff.specs.declared.reading.Gap.{Gap}

-- a reading of an hour: its load in Wh, or why there is none
abbrev pub Reading : Type 0
Reading = Result ℕ Gap

-- a reading for each day and hour, by their numbers
abbrev pub Table : Type 0
Table = ℕ → ℕ → Reading

-- a day from 0 (June 1) to 75 (August 15) and an hour from 0 to 23
abbrev pub in_summer : ℕ → ℕ → Bool
in_summer d h = nat_le d 75 && nat_le h 23

-- the one value that the meaning of every meter has outside the summer, where nobody asks
abbrev pub outside : Reading
outside = Ok 0

-- a table of the summer's hours, with that value everywhere else
abbrev pub summer : Table → Table
summer t d h = cond (in_summer d h) (t d h) outside

-- something that holds of each of the 1,824 hours of the summer
abbrev pub Hourly : (ℕ → ℕ → Type 0) → Type 0
Hourly P = (d h : ℕ) → d < 76 → h < 24 → P d h

-- two tables agree on the hours of the summer
abbrev pub Agree : Table → Table → Type 0
Agree t u = Hourly (λ d h. t d h ≡ u d h)

-- the watt-hours of a reading; a gap counts for none, and no statement is made where one is needed
abbrev pub load_of : Reading → ℕ
load_of (Ok w) = w
load_of (Err g) = 0

abbrev pub load : Table → ℕ → ℕ → ℕ
load t d h = load_of (t d h)

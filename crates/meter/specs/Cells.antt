-- What tables of cells and pairs of meters mean.
use Rattle.std.specs.Prelude.{◌≡◌, ℕ, zero, suc, ◌+◌, ◌/◌, ◌*◌, cond, ◌&&◌, List, length, Some, None, Option, nat_le, nat_lt, slice_index, Ok, Err}
use Rattle.tariff.specs.Tables.{Table, Reading}
use Rattle.tariff.specs.declared.reading.Gap.TheVariants.{Missing, Over}

-- what a cell holds: a cell past the end, or above the limit, holds no load
abbrev pub held : ℕ → List ℕ → ℕ → Option ℕ
held limit cells k = cond (nat_lt k (length cells) && nat_le (slice_index cells k) limit) (Some (slice_index cells k)) None

-- an hour without a load is missing, under the number that the meter was made with
abbrev pub read_as : ℕ → Option ℕ → Reading
read_as number (Some w) = Ok w
read_as number None = Err (Missing number)

-- two loads together, where both are there
abbrev pub both : Option ℕ → Option ℕ → Option ℕ
both (Some a) (Some b) = Some (a + b)
both (Some a) None = None
both None b = None

-- n cells from one on together, where each of them holds a load
unfoldable pub together : ℕ → List ℕ → ℕ → ℕ → Option ℕ
together limit cells first zero = Some 0
together limit cells first (suc k) = both (together limit cells first k) (held limit cells (first + k))

-- a table with n cells to an hour, each with at most its part of what an hour may hold: cells n × (24 × day + hour) and the n - 1 after it
abbrev pub tabled : ℕ → List ℕ → ℕ → Table
tabled n cells number d h = read_as number (together (100000000 / n) cells (n * (24 * d + h)) n)

-- a table with a cell to an hour
abbrev pub hourly : List ℕ → ℕ → Table
hourly = tabled 1

-- a table with a cell to a quarter-hour
abbrev pub quarterly : List ℕ → ℕ → Table
quarterly = tabled 4

-- An hour of an hourly table is cell 24 × day + hour, of at most 100,000,000 Wh.
abbrev pub HourlyTablesHaveACellToAnHour : Type 0
HourlyTablesHaveACellToAnHour = (cells : List ℕ) (number d h : ℕ) → hourly cells number d h ≡ read_as number (held 100000000 cells (24 * d + h))

-- the k-th of the quarter-hours from one on
abbrev pub quarter : List ℕ → ℕ → ℕ → Option ℕ
quarter cells first k = held 25000000 cells (first + k)

-- four quarter-hours together
abbrev pub four : List ℕ → ℕ → Option ℕ
four cells first = both (both (both (quarter cells first 0) (quarter cells first 1)) (quarter cells first 2)) (quarter cells first 3)

-- An hour of a table of quarter-hours is cells 96 × day + 4 × hour to that plus 3, each of at most 25,000,000 Wh.
abbrev pub QuarterTablesHaveFourCellsToAnHour : Type 0
QuarterTablesHaveFourCellsToAnHour = (cells : List ℕ) (number d h : ℕ) → quarterly cells number d h ≡ read_as number (four cells (96 * d + 4 * h))

-- two meters on one site: the first gap of the two, or what both drew, which is over where it is more than an hour may hold
abbrev pub joined : Reading → Reading → Reading
joined (Ok a) (Ok b) = cond (nat_le (a + b) 100000000) (Ok (a + b)) (Err Over)
joined (Ok a) (Err g) = Err g
joined (Err g) r = Err g

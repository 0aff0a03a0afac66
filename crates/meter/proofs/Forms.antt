-- Tables with one cell or four to an hour, written out.
use Rattle.std.proofs.Common.{◌≡◌, ℕ, ◌+◌, ◌*◌, List, Some, None, Option, ap, ◌∙◌, refl, arith}
use Rattle.meter.specs.Cells.{both, held, four, quarter, read_as, together, HourlyTablesHaveACellToAnHour, QuarterTablesHaveFourCellsToAnHour}

nothing_and : (o : Option ℕ) → both (Some 0) o ≡ o
nothing_and (Some w) = ap Some (omega arith)
nothing_and None = refl

one_cell : (limit : ℕ) (cells : List ℕ) (first k : ℕ) → first ≡ k → together limit cells first 1 ≡ held limit cells k
unfolding together
one_cell limit cells first k e = nothing_and _ ∙ ap (held limit cells) (omega arith)

four_cells : (cells : List ℕ) (first : ℕ) → together 25000000 cells first 4 ≡ four cells first
unfolding together
four_cells cells first =
    ap (λ o. both (both (both o (quarter cells first 1)) (quarter cells first 2)) (quarter cells first 3)) (nothing_and (quarter cells first 0))

pub hourly_tables : HourlyTablesHaveACellToAnHour
hourly_tables cells number d h = ap (read_as number) (one_cell 100000000 cells (1 * (24 * d + h)) (24 * d + h) (omega arith))

pub quarter_tables : QuarterTablesHaveFourCellsToAnHour
quarter_tables cells number d h =
    ap (read_as number) (four_cells cells (4 * (24 * d + h)) ∙ ap (four cells) (omega arith))

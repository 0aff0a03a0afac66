-- What an entry asks for, with its texts as lists of bytes. Assumes nothing.
use Rattle.std.specs.Prelude.{ℕ, List}
use Rattle.meter.specs.declared.kind.TableKind.{TableKind}
use Rattle.tariff.specs.declared.call.Call.{Call}
use Rattle.entries.specs.declared.entry.Entry.{Entry}
use Rattle.entries.specs.declared.entry.Entry.TheVariants.{Label, Open, Call as ACall, TableMeter, PairMeter, Statement, Compare}

-- a label's text; a year; a call; a meter's name, and its kind, number and file, or the names of two meters; a site and the names of its meters
pub data Asked : Type 0 where
  asks_label : List ℕ → Asked
  asks_open : ℕ → Asked
  asks_call : Call → Asked
  asks_table : List ℕ → TableKind → ℕ → List ℕ → Asked
  asks_pair : List ℕ → List ℕ → List ℕ → Asked
  asks_statement : ℕ → List ℕ → Asked
  asks_compare : ℕ → List ℕ → List ℕ → Asked

-- what an entry asks for
abbrev pub asked : Entry → Asked
asked (Label text) = asks_label text.now
asked (Open year) = asks_open year
asked (ACall call) = asks_call call
asked (TableMeter name kind number file) = asks_table name.now kind number file.now
asked (PairMeter name first second) = asks_pair name.now first.now second.now
asked (Statement site meter) = asks_statement site meter.now
asked (Compare site first second) = asks_compare site first.now second.now

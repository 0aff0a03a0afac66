-- Two outcomes that compare so leave two statements that do.
use Rattle.std.proofs.Common.{Ok, Err}
use Rattle.tariff.specs.Lines.{Both}
use Rattle.tariff.specs.Statement.{Outcome}
use Rattle.tariff.specs.declared.statement.Statement.{Statement}
use Rattle.statement.specs.Compared.{both_of, WrittenSo}

pub written_so : (P : Statement → Statement → Type 0) (a b : Outcome) → Both P a b → WrittenSo P (both_of a b)
written_so P (Ok x) (Ok y) h = h.1
written_so P (Ok x) (Err r) h = absurd h
written_so P (Err r) (Ok y) h = absurd h
written_so P (Err r) (Err q) h = tt

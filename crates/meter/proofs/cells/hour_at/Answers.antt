use Rattle.std.proofs.Common.{rules, arith, ◌≡◌, ℕ, ◌+◌, ◌/◌, ◌<◌, ◌≤◌, subst, sym, ◌∙◌, get_or, Some, None}
use Rattle.meter.specs.Cells.{together}
use Rattle.meter.proofs.Together.{past_end, above_limit, one_more, held_load, of_hour}
use Rattle.meter.proofs.cells.hour_at.Goals as goal

pub returns-in_err-cell-items-clause-sum : goal.returns-in_err-cell-items-clause-sum
returns-in_err-cell-items-clause-sum g c =
    c.from_residual.ensures ∙ sym (past_end (100000000 / g.row.N) c.args.cells.now c.args.first g.row.N (omega arith) c.in_err-cell-items.ensures)

pub loop-cell-init : goal.loop-cell-init
unfolding together
loop-cell-init g c = search rules

pub returns-then-cell-most-clause-sum : goal.returns-then-cell-most-clause-sum
returns-then-cell-most-clause-sum g c =
    let most : ℕ = c.most-most.result in
    let i : ℕ = c.loop-cell.cell-index in
    let found = c.in_ok-cell-items.ensures in
    let is = of_hour c.args.cells.now c.in_ok-cell-items.cell-items.now c.args.first g.row.N i found.1 (omega arith) in
    subst (λ (x : ℕ). None ≡ together x c.args.cells.now c.args.first g.row.N) c.most-most.ensures
    (sym (above_limit most c.args.cells.now c.args.first i g.row.N (omega arith) (subst (λ x. most < x) is c.if-cell-most.true)))

pub loop-cell-preserved : goal.loop-cell-preserved
loop-cell-preserved g c =
    let most : ℕ = c.most-most.result in
    let i : ℕ = c.loop-cell.cell-index in
    let found = c.in_ok-cell-items.ensures in
    let is = of_hour c.args.cells.now c.in_ok-cell-items.cell-items.now c.args.first g.row.N i found.1 (omega arith) in (
      subst (λ x. Some (c.loop-cell.sum + x) ≡ together most c.args.cells.now c.args.first (i + 1)) (sym is)
          (one_more most c.args.cells.now c.args.first i c.loop-cell.sum (get_or c.args.cells.now (c.args.first + i) 0) c.loop-cell.invariant.0
          (held_load most c.args.cells.now (c.args.first + i) (omega arith) (subst (λ x. x ≤ most) is c.if-cell-most.false))),
      (let sum = c.loop-cell.invariant.1 in let cell = c.if-cell-most.false in omega arith),
    )

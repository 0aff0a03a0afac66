use Rattle.std.proofs.Common.{refl, ◌∙◌, arith, rules, length-set}
use Rattle.pay.proofs.Filling.{hours_filled, lines_none, lines_more, lines_all}
use Rattle.pay.proofs.summer.Summer.hour_lines.Goals as goal

pub loop-k-init : goal.loop-k-init
loop-k-init c = (refl, lines_none c.args.self.now.hours.now c.default-lines.result (search rules))

pub loop-k-preserved : goal.loop-k-preserved
loop-k-preserved c =
    let k = c.loop-k.k in
    let ls = c.loop-k.lines in
    let y = c.priced.result in
    let inv = c.loop-k.invariant in
    (length-set ls k y ∙ inv.0, lines_more c.args.self.now.hours.now k ls y c.hour-item.result (omega arith) (omega (arith, c.args.self.now.few)) c.hour-item.is c.priced.ensures inv.1)

pub returns : goal.returns
returns c =
    let hours = c.args.self.now.hours.now in
    let inv = c.loop-k.invariant in
    hours_filled hours c.loop-k.lines c.args.self.now.few inv.0 (lines_all hours c.loop-k.k c.loop-k.lines (omega arith) inv.1)

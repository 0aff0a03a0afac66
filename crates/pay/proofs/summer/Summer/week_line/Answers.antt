use Rattle.std.proofs.Common.{◌+◌, get_or, arith}
use Rattle.pay.proofs.Sums.{counted_few}
use Rattle.pay.proofs.summer.Summer.week_line.Goals as goal

pub capacity-requires : goal.capacity-requires
capacity-requires c =
    omega (arith, c.counted-counted.ensures, counted_few (get_or c.args.self.now.nominations.now c.args.k 0) (c.args.k + 1) c.args.self.now.hours.now c.args.self.now.few)

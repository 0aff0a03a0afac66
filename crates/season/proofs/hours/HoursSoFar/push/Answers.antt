use Rattle.std.proofs.Common.{arith, length-set}
use Rattle.season.specs.Rest.{no_hour}
use Rattle.season.proofs.HourLists.{rest_more}
use Rattle.season.proofs.hours.HoursSoFar.push.Goals as goal

pub invariant_of-self : goal.invariant_of-self
invariant_of-self c =
    let s = c.args.self.now in
    record {
      cells = simp length-set s.cells;
      within = omega arith;
      rest = rest_more s.list.hours s.list.count c.args.hour no_hour s.rest;
    }

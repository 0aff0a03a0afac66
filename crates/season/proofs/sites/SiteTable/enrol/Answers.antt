use Rattle.std.proofs.Common.{arith, length-set}
use Rattle.tariff.specs.Season.{enrolled_site}
use Rattle.season.proofs.Tables.{blank_more}
use Rattle.season.proofs.sites.SiteTable.enrol.Goals as goal

pub invariant_of-self : goal.invariant_of-self
invariant_of-self c =
    let s = c.args.self.now in
    record {
      room = omega arith;
      cells = simp length-set s.cells;
      blank = blank_more s.count s.sites (enrolled_site c.args.kind c.args.kw) s.blank;
    }

use Rattle.std.proofs.Common.{Ok, rules}
use Rattle.tariff.specs.declared.call.Answer.TheVariants.{Announced}
use Rattle.tariff.specs.declared.call.Call.TheVariants.{Announce}
use Rattle.season.proofs.Sounds.{facts_after}
use Rattle.season.proofs.season.Season.announce.Goals as goal

pub invariant_of-self : goal.invariant_of-self
invariant_of-self c =
    let s = c.args.self.now in
    facts_after s (Announce c.args.moment c.args.start c.args.length) (Ok (Announced c.in_ok-accepted.accepted)) s.year c.args.moment s.closed s.sites c.put.new.self (search rules) (search rules)

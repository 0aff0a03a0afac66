use Rattle.std.proofs.Common.{Ok, rules}
use Rattle.tariff.specs.declared.call.Answer.TheVariants.{Week}
use Rattle.tariff.specs.declared.call.Call.TheVariants.{Nominate}
use Rattle.season.proofs.Sounds.{facts_after}
use Rattle.season.proofs.season.Season.nominate.Goals as goal

pub invariant_of-self : goal.invariant_of-self
invariant_of-self c =
    let s = c.args.self.now in
    facts_after s (Nominate c.args.moment c.args.site c.args.week c.args.kw) (Ok (Week c.in_ok-taken.taken)) s.year s.clock s.closed c.nominate.new.self s.events (search rules) (search rules)

use Rattle.std.proofs.Common.{Ok, rules}
use Rattle.tariff.specs.declared.call.Answer.TheVariants.{Revoked as RevokedHours}
use Rattle.tariff.specs.declared.call.Call.TheVariants.{Revoke}
use Rattle.season.proofs.Sounds.{facts_after}
use Rattle.season.proofs.season.Season.revoke.Goals as goal

pub invariant_of-self : goal.invariant_of-self
invariant_of-self c =
    let s = c.args.self.now in
    facts_after s (Revoke c.args.moment) (Ok (RevokedHours c.in_ok-event.event.length)) s.year c.args.moment s.closed s.sites c.put.new.self (search rules) (search rules)

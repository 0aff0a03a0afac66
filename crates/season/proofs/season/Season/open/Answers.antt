use Rattle.season.proofs.Sounds.{fresh_facts}
use Rattle.season.proofs.season.Season.open.Goals as goal

pub invariant_of-self : goal.invariant_of-self
invariant_of-self c = fresh_facts c.args.year c.new-self.result c.new-self-2.result c.new-self.ensures c.new-self-2.ensures

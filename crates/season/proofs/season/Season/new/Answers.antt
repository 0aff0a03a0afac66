use Rattle.season.proofs.Sounds.{fresh_facts}
use Rattle.season.proofs.season.Season.new.Goals as goal

pub invariant_of-result : goal.invariant_of-result
invariant_of-result c = fresh_facts 0 c.new.result c.new-2.result c.new.ensures c.new-2.ensures

use Rattle.std.proofs.Common.{◌+◌, ◌*◌, length}
use Rattle.settlement.proofs.choose.+choose.Given as goal

abbrev pub decreases-choose : goal.decreases-choose
decreases-choose l = 2 * length l.meters.now

abbrev pub decreases-choose_pair : goal.decreases-choose_pair
decreases-choose_pair l = 2 * length l.before.now + 1

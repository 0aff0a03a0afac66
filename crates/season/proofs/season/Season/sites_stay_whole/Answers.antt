use Rattle.std.proofs.Common.{◌-◌, ◌<◌, length, arith}
use Rattle.std.proofs.ByRecursion.{All-get_or}
use Rattle.std.proofs.lemmas.Bool.Decides.{nat_tests}
use Rattle.tariff.specs.Season.{no_site}
use Rattle.tariff.specs.Sound.{Whole}
use Rattle.season.specs.View.{view}
use Rattle.season.proofs.Sounds.{sound_of}
use Rattle.season.proofs.season.Season.sites_stay_whole.Goals as goal

pub returns : goal.returns
returns c = λ has.
    let s = view c.args.self.now in
    let lt : c.args.number - 1 < length s.sites = grind (arith, nat_tests) in
    All-get_or Whole s.sites (c.args.number - 1) no_site lt (sound_of c.args.self.now).whole

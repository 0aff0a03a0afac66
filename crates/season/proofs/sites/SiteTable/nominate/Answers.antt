use Rattle.std.proofs.Common.{◌-◌, ◌<◌, arith}
use Rattle.tariff.specs.Season.{no_site, nominated_site}
use Rattle.season.proofs.Tables.{front_set}
use Rattle.season.proofs.sites.SiteTable.nominate.Goals as goal

pub returns-clause-list : goal.returns-clause-list
returns-clause-list c =
    let lt : c.args.number - 1 < c.args.self.now.count = omega arith in
    front_set _ _ _ _ no_site (λ x. nominated_site x c.args.week c.args.kw) lt c.take_figure.ensures

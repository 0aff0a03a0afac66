use Rattle.season.specs.View.{view}
use Rattle.statement.proofs.Settled.{settled}
use Rattle.statement.proofs.site.SeasonSite.settle_site.Goals as goal

pub returns-clause-answer : goal.returns-clause-answer
returns-clause-answer g c =
    let s = view c.args.self.now.season.now in
    let t = g.M.Meter.table c.args.meter.now in
    settled s c.args.self.now.site.now t c.in_ok-list.list c.weeks_of-weeks.result c.year.result c.statement_from-record.result c.len.result c.in_ok-list.ensures.told c.statement_from-record.ensures.tariff c.year.ensures c.weeks_of-weeks.ensures.last c.weeks_of-weeks.ensures.days c.len.ensures.value

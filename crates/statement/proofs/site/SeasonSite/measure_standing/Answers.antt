use Rattle.std.proofs.Common.{ap, ◌∙◌, rules}
use Rattle.baseline.specs.declared.measured.MeasuredEvent.{MeasuredEvent}
use Rattle.season.specs.View.{view}
use Rattle.statement.specs.Measured.{with_number, standing_measured}
use Rattle.statement.proofs.Standing.{numbered_by, span_measured}
use Rattle.statement.proofs.site.SeasonSite.measure_standing.Goals as goal

pub returns-clause-answer : goal.returns-clause-answer
unfolding standing_measured
returns-clause-answer g c =
    let t = g.M.Meter.table c.args.meter.now in
    let told = c.span_of-span.ensures in
    let same = span_measured (view c.args.self.now.season.now) c.args.self.now.site.now t c.args.number c.args.day c.args.event c.span_of-span.result c.comparison_of-days.result.days c.nomination_on-nominated.result c.requires.stands c.comparison_of-days.ensures c.nomination_on-nominated.ensures told.number told.day told.notice told.start told.length in
    numbered_by c.args.number c.measure_event.result c.map_err.result _ (λ f e own. search rules) c.map_err.ensures.cases ∙ ap (with_number {A = MeasuredEvent} c.args.number) (c.measure_event.ensures.answer ∙ same)

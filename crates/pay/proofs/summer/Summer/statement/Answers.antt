use Rattle.std.proofs.Common.{◌≡◌, ◌∙◌}
use Rattle.pay.specs.Paying.{statement_from}
use Rattle.pay.proofs.Sums.{energy_sum, adjustment_sum, totalled_is}
use Rattle.pay.proofs.YearWeeks.{year_paid}
use Rattle.pay.proofs.summer.Summer.statement.Goals as goal

pub returns : goal.returns
returns c =
    let hours = c.args.self.now.hours.now in
    let nominations = c.args.self.now.nominations.now in
    let weeks = c.args.self.now.weeks.now in
    let told : c.written.result ≡ statement_from hours nominations weeks.days weeks.last =
    c.written.ensures ∙ totalled_is hours nominations weeks.days weeks.last c.hour_lines.result c.week_lines-weeks.result c.total_capacity.result c.energy.result c.adjustment.result
    c.hour_lines.ensures c.week_lines-weeks.ensures.value c.total_capacity.ensures (c.energy.ensures ∙ energy_sum hours) (c.adjustment.ensures ∙ adjustment_sum hours) in
    record { value = told; tariff = λ year x of. told ∙ year_paid year x hours nominations weeks.days weeks.last of }

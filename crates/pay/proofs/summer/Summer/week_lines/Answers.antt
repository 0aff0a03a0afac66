use Rattle.std.proofs.Common.{◌≡◌, ℕ, ◌+◌, ◌<◌, ◌≤◌, get_or, refl, rules, tests, arith}
use Rattle.std.proofs.lemmas.List.Elements.{All-from_get_or}
use Rattle.std.proofs.lemmas.List.Sums.{sum_by-le}
use Rattle.tariff.specs.Pay.{no_week}
use Rattle.tariff.specs.declared.statement.WeekLine.{WeekLine}
use Rattle.pay.specs.Paying.{week_line_in}
use Rattle.pay.proofs.Filling.{calls_at, weeks_filled}
use Rattle.pay.proofs.summer.Summer.week_lines.Goals as goal

pub returns : goal.returns
returns c =
    let self = c.args.self.now in
    let ls = c.from_fn.result in
    let items = c.from_fn.ensures.items in
    let IsLine = λ (k : ℕ) (y : WeekLine). (k < self.weeks.now.last → y ≡ week_line_in self.nominations.now self.weeks.now.days self.hours.now (k + 1)) × (self.weeks.now.last ≤ k → y ≡ no_week) × (y.capacity ≤ 71189082914625000) in
    let at : (k : ℕ) → k < 10 → IsLine k (get_or ls k no_week) = λ k l. calls_at _ _ IsLine (λ i y q h. search (rules, tests)) 10 0 _ ls refl items.each k no_week (omega arith) (omega arith) in
    record {
      value = weeks_filled self.nominations.now self.weeks.now.days self.weeks.now.last self.hours.now ls self.weeks.now.within items.long (λ k l. (at k (omega arith)).0 l) (λ k l m. (at k m).1 l);
      bound = omega (arith, items.long, sum_by-le (λ (w : WeekLine). w.capacity) 71189082914625000 ls (All-from_get_or (λ (w : WeekLine). w.capacity ≤ 71189082914625000) ls no_week (λ k l. (at k (omega arith)).2)));
    }

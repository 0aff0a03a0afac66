use Rattle.std.proofs.Common.{sym, subst}
use Rattle.tariff.specs.Lines.{NoWorse, OthersKept}
use Rattle.tariff.specs.Statement.{outcome}
use Rattle.season.specs.View.{view}
use Rattle.statement.specs.Compared.{WrittenSo}
use Rattle.statement.proofs.Comparing.{written_so}
use Rattle.statement.proofs.settle.Request.compared.Goals as goal

pub returns : goal.returns
returns g c =
    let s = view c.args.self.now.season.now in
    let t = g.M.Meter.table c.args.first.now in
    let u = g.N.Meter.table c.args.second.now in
    let a = outcome s c.args.self.now.site t in
    let b = outcome s c.args.self.now.site u in
    let told = c.both.ensures in
    let deeper = c.deeper_cut_never_costs.ensures.sound s c.stays_sound.ensures in
    let apart = c.events_stand_apart.ensures.sound s c.stays_sound.ensures in
    record {
      answer = told.answer;
      keeps_first = told.keeps_first;
      keeps_second = told.keeps_second;
      deeper_cut_never_costs = deeper;
      events_stand_apart = apart;
      no_worse = λ cut. subst (WrittenSo NoWorse) (sym told.answer) (written_so NoWorse a b (deeper c.args.self.now.site t u cut));
      others_kept = λ day stands only. subst (WrittenSo (OthersKept day)) (sym told.answer) (written_so (OthersKept day) a b (apart c.args.self.now.site t u day stands only));
    }

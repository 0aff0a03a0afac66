use Rattle.std.proofs.Common.{◌∙◌, arith}
use Rattle.season.proofs.HourLists.{listed_more}
use Rattle.season.specs.Hours.{hours_listed}
use Rattle.tariff.specs.Events.{event_hour}
use Rattle.season.proofs.hours.HoursSoFar.push_event.Goals as goal

pub loop-hour-preserved : goal.loop-hour-preserved
loop-hour-preserved c =
    let inv = c.loop-hour.invariant in (
      omega arith,
      c.push.ensures.list
          ∙ listed_more (event_hour c.args.number c.args.day) (hours_listed c.args.self.now.list) _ c.args.event.start c.loop-hour.hour (omega arith) inv.1,
    )

use Rattle.tariff.proofs.EventsApart.{events_stand_apart_lem, events_stand_apart_after_calls}
use Rattle.tariff.proofs.laws.events_stand_apart.Goals as goal

pub returns : goal.returns
returns c = record { sound = events_stand_apart_lem; called = events_stand_apart_after_calls }

use Rattle.tariff.proofs.RecordHours.{every_event_hour_once, every_event_hour_once_after}
use Rattle.tariff.proofs.Runs.{seasons_are_sound_lem}
use Rattle.tariff.proofs.laws.every_event_hour_has_one_line.Goals as goal

pub returns : goal.returns
returns c = record { sound = every_event_hour_once; called = every_event_hour_once_after seasons_are_sound_lem }

-- The season of a batch is one that calls have made.
use Rattle.std.specs.Prelude.{◌≡◌, ℕ, ◌≤◌, ◌⊎◌, List}
use Rattle.tariff.specs.Calls.{run}
use Rattle.tariff.specs.Season.{Season, never_opened, opened}
use Rattle.tariff.specs.declared.call.Call.{Call}
use Rattle.batch.specs.declared.plan.Step.{Step}
use Rattle.settlement.specs.Running.{season_after_all}

-- a season that was opened for a year from 2015 to 2099 and has received calls since, whatever the record held before
pub record MadeByCalls (s : Season) : Type 0 where
  pub old : Season
  pub year : ℕ
  pub first : 2015 ≤ year
  pub last : year ≤ 2099
  pub calls : List Call
  pub is : s ≡ run (opened old year) calls

-- a record that was never opened, or such a season
abbrev pub Called : Season → Type 0
Called s = (s ≡ never_opened) ⊎ MadeByCalls s

-- Whatever tasks a batch has, the season that they leave is one that calls have made, so that what holds after any calls holds of it.
abbrev pub TasksLeaveCalledSeasons : Type 0
TasksLeaveCalledSeasons = (s : Season) (steps : List Step) → Called s → Called (season_after_all s steps)

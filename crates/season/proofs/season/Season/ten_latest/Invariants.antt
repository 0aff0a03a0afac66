use Rattle.std.proofs.Common.{◌≡◌, ◌-◌, ◌≤◌, ◌++◌, length, take}
use Rattle.tariff.specs.Comparison.{comparable, comparison_days, latest}
use Rattle.season.specs.View.{view}
use Rattle.season.proofs.season.Season.ten_latest.Given as goal

abbrev pub invariant-loop-slot : goal.invariant-loop-slot
invariant-loop-slot l =
    record {
      ten : length l.slot-items ≡ 10;
      within : l.before ≤ l.day;
      so_far : take l.slot-index l.slot-items ++ latest (comparable (view l.self)) (10 - l.slot-index) l.before ≡ comparison_days (view l.self) l.day;
    }

use Rattle.std.proofs.Common.{◌≡◌, ◌+◌, ◌-◌, ◌≤◌, ◌++◌, length, drop, vec_items, vec_len, vec_capacity}
use Rattle.tariff.specs.Calls.{run, answers}
use Rattle.season.specs.View.{view}
use Rattle.season.proofs.season.Season.make_calls.Given as goal

abbrev pub invariant-loop-call : goal.invariant-loop-call
invariant-loop-call l =
    (vec_len l.answers + (length l.calls - l.call-index) ≤ vec_capacity l.answers)
    × (run (view l.self) (drop l.call-index l.calls) ≡ run (view l.initial.self) l.calls)
    × (vec_items l.answers ++ answers (view l.self) (drop l.call-index l.calls) ≡ vec_items l.initial.answers ++ answers (view l.initial.self) l.calls)

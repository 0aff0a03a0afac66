-- Tasks lead from seasons that calls have made to such seasons.
use Rattle.std.proofs.Common.{◌≡◌, ℕ, ◌≤◌, Bool, cond, ◌||◌, ltb, List, [], ◌∷◌, ◌++◌, Ok, Err, sym, refl, ap, ◌∙◌, subst, inl, inr}
use Rattle.std.proofs.lemmas.Bool.{cases_Bool, ltb-false, or_parts}
use Rattle.tariff.specs.Calendar.{last_week}
use Rattle.tariff.specs.Calls.{after_open, next, open_answer, run}
use Rattle.tariff.specs.Season.{Season, never_opened, opened}
use Rattle.tariff.specs.declared.call.Call.{Call}
use Rattle.tariff.specs.declared.call.Call.TheVariants.{Enrol, Nominate, Announce, Revoke, Close}
use Rattle.tariff.specs.declared.call.SeasonRefusal.TheVariants.{YearOutside}
use Rattle.batch.specs.declared.plan.Task.{Task}
use Rattle.batch.specs.declared.plan.Task.TheVariants.{Open, Call as CallTask, Meter, Statement, Compare}
use Rattle.settlement.specs.Running.{season_after, season_after_all}
use Rattle.settlement.specs.Seasons.{Called, MadeByCalls, TasksLeaveCalledSeasons}

-- one call more
run_push : (s : Season) (cs : List Call) (c : Call) → run s (cs ++ c ∷ []) ≡ next (run s cs) c
unfolding run
run_push s [] c = refl
run_push s (x ∷ cs) c = run_push (next s x) cs c

-- a record that was never opened takes no call
never_called : (c : Call) → next never_opened c ≡ never_opened
never_called (Enrol m k kw) = refl
never_called (Nominate m i w kw) = refl
never_called (Announce m start len) = refl
never_called (Revoke m) = refl
never_called Close = refl

after_call : (s : Season) (c : Call) → Called s → Called (next s c)
after_call s c (inl never) = inl (ap (λ t. next t c) never ∙ never_called c)
after_call s c (inr made) =
    inr (record {
      old = made.old;
      year = made.year;
      first = made.first;
      last = made.last;
      calls = made.calls ++ c ∷ [];
      is = ap (λ t. next t c) made.is ∙ sym (run_push (opened made.old made.year) made.calls c);
    })

newly_opened : (s : Season) (year : ℕ) → 2015 ≤ year → year ≤ 2099 → MadeByCalls (opened s year)
unfolding run
newly_opened s year first last = record { old = s; year = year; first = first; last = last; calls = []; is = refl }

after_opening : (s : Season) (year : ℕ) → Called s → Called (after_open s year (open_answer s year))
after_opening s year called =
    let outside : Bool = ltb year 2015 || ltb 2099 year in
    elim (cases_Bool outside) [
      | inl e ↦ subst (λ (b : Bool). Called (after_open s year (cond b (Err YearOutside) (Ok (last_week year))))) (sym e) called
      | inr e ↦
          let within = or_parts (ltb year 2015) (ltb 2099 year) e in
          subst (λ (b : Bool). Called (after_open s year (cond b (Err YearOutside) (Ok (last_week year))))) (sym e)
          (inr (newly_opened s year (ltb-false year 2015 within.0) (ltb-false 2099 year within.1)))
    ]

after_task : (s : Season) (x : Task) → Called s → Called (season_after s x)
after_task s (Open year) called = after_opening s year called
after_task s (CallTask c) called = after_call s c called
after_task s (Meter place) called = called
after_task s (Statement site place) called = called
after_task s (Compare site first second) called = called

pub tasks_leave_called : TasksLeaveCalledSeasons
unfolding season_after_all
tasks_leave_called s [] called = called
tasks_leave_called s (x ∷ xs) called = tasks_leave_called (season_after s x.task) xs (after_task s x.task called)

use Rattle.std.proofs.Common.{◌≡◌, ℕ, ◌+◌, ◌<◌, List, [], ◌∷◌, ◌++◌, length, IfOk, Ok, Err, Result, ap, ◌∙◌, sym, subst, true, arith, rules}
use Rattle.std.proofs.lemmas.Result.{err_from_is_err_and, IfErr-at_err}
use Rattle.std.specs.Result.{is_ok}
use Rattle.std.specs.Iterator.Adapters.{enumerate_source, enumerate_count}
use Rattle.text.specs.Left.{lines_left}
use Rattle.worked_table.specs.declared.InputFault.{InputFault}
use Rattle.worked_table.specs.declared.InputFault.TheVariants.{MoreThanTenDays, TooFewDays}
use Rattle.worked_table.specs.declared.WorkedTable.{WorkedTable}
use Rattle.worked_table.specs.Days.{days_from, WithinLimits}
use Rattle.worked_table.proofs.Limits.{lines_low}
use Rattle.worked_table.proofs.Steps.{first_line, too_few, ten_days, bad_line, eleventh, no_day, one_day, refused, on_ok}
use Rattle.worked_table.proofs.read_days.Goals as goal

pub loop-before-init : goal.loop-before-init
loop-before-init c =
    let start = c.into_iter-before-iterator.ensures.into_iter_gives in
    let steps = c.enumerate-before-items.ensures in
    let none = ap enumerate_count start ∙ steps.count in
    (search rules, search rules, sym none, first_line _ _ _ c.new-days.ensures none (ap (λ s. lines_left (enumerate_source s)) start ∙ ap lines_left steps.source))

-- what the definition gives keeps to the limits
both : (r : Result WorkedTable InputFault) (ls : List (List ℕ)) → r ≡ days_from 0 [] ls → record { value : r ≡ days_from 0 [] ls; limits : IfOk r WithinLimits }
both r ls e = record { value = e; limits = subst (λ x. IfOk x WithinLimits) (sym e) (lines_low ls) }

pub returns-in_err-day : goal.returns-in_err-day
returns-in_err-day c =
    let p = err_from_is_err_and c.from_residual.result c.from_residual.ensures.1 in
    let steps = c.in-Some.ensures.steps in
    both _ (lines_left c.args.lines) (p.1 ∙ ap Err p.2 ∙ bad_line c.loop-before.invariant.3 steps.0 (ap (λ k. k + 1) steps.1) _ c.in_err-day.ensures)

pub returns-in_err-map_err : goal.returns-in_err-map_err
returns-in_err-map_err c =
    let p = err_from_is_err_and c.from_residual-in_err-map_err.result c.from_residual-in_err-map_err.ensures.1 in
    let steps = c.in-Some.ensures.steps in
    let m = refused c.try_push.result c.map_err.result (MoreThanTenDays (c.in-Some.before + 1)) _ (λ e g own. search rules) c.map_err.ensures.cases c.in_err-map_err.was in
    let full : length c.loop-before.days.items ≡ 10 = IfErr-at_err (λ _. length c.loop-before.days.items ≡ 10) m.1 c.try_push.ensures.full in
    both _ (lines_left c.args.lines) (p.1 ∙ ap Err (p.2 ∙ m.2) ∙ eleventh c.loop-before.invariant.3 steps.0 (ap (λ k. k + 1) steps.1) c.in-Some-2.day (sym (ap Ok c.in-Some-2.is) ∙ c.in_ok-day.ensures) full)

pub loop-before-preserved-in-Continue-branch-3 : goal.loop-before-preserved-in-Continue-branch-3
loop-before-preserved-in-Continue-branch-3 c =
    let steps = c.in-Some.ensures.steps in
    let pushed : is_ok c.try_push.result ≡ true = sym c.map_err.ensures.variant ∙ ap is_ok c.in_ok-map_err.was in
    let few : length c.loop-before.days.items < 10 = c.try_push.ensures.variant.0 pushed in
    let put : c.try_push.new.self.items ≡ c.loop-before.days.items ++ c.in-Some-2.day ∷ [] = on_ok _ pushed c.try_push.ensures.ok in
    (search rules, search rules, omega (arith, steps.1, steps.2), one_day c.loop-before.invariant.3 steps.0 (ap (λ k. k + 1) steps.1) c.in-Some-2.day _ _ (sym (ap Ok c.in-Some-2.is) ∙ c.in_ok-day.ensures) (λ z. omega (arith, few)) put steps.2)

pub loop-before-preserved : goal.loop-before-preserved
loop-before-preserved c =
    let steps = c.in-Some.ensures.steps in
    (search rules, search rules, omega (arith, steps.1, steps.2), no_day c.loop-before.invariant.3 steps.0 (ap (λ k. k + 1) steps.1) _ (sym (ap Ok c.in_default.is) ∙ c.in_ok-day.ensures) steps.2)

pub returns-in-Ok : goal.returns-in-Ok
returns-in-Ok c =
    let same : c.in-Ok.days ≡ c.loop-before.days.items = search rules in
    let ten : length c.loop-before.days.items ≡ 10 = search rules in
    both _ (lines_left c.args.lines) (ten_days c.loop-before.invariant.3 c.in-None.ensures.steps.0.0 c.in-Ok.days same ten)

pub returns-in-Err : goal.returns-in-Err
returns-in-Err c =
    let counted = c.loop-before.invariant.2 in
    let found : c.len.result ≡ length c.loop-before.days.items = search rules in
    let few : length c.loop-before.days.items ≡ 10 → ⊥ = search rules in
    both _ (lines_left c.args.lines) ((λ i. Err (TooFewDays (counted i) (found i))) ∙ too_few c.loop-before.invariant.3 c.in-None.ensures.steps.0.0 few)

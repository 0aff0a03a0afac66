-- A list of tasks, one task on and at its end.
use Rattle.std.proofs.Common.{◌≡◌, ℕ, ◌+◌, ◌<◌, ◌≤◌, Bool, true, ◌&&◌, List, [], ◌∷◌, ◌++◌, length, get_or, drop, sym, ap, ◌∙◌}
use Rattle.std.proofs.lemmas.List.{append_assoc, append-nil, at_drop_more, at_drop_all}
use Rattle.tariff.specs.Season.{Season}
use Rattle.tariff.specs.Tables.{Table}
use Rattle.tariff.specs.declared.statement.Statement.{Statement}
use Rattle.batch.specs.declared.plan.Step.{Step}
use Rattle.settlement.specs.Running.{StoppedFor, all_have_meters, has_meters, outcome_of, outcomes_of, season_after, season_after_all, statements_of, statements_of_all}
use Rattle.settlement.specs.declared.fault.RunFault.{RunFault}
use Rattle.settlement.specs.declared.fault.RunFault.TheVariants.{NoSuchMeter, NoMemory}
use Rattle.settlement.specs.declared.results.Outcome.{Outcome}
use Rattle.settlement.specs.declared.results.ReadMeter.{ReadMeter}

module _ (steps : List Step) (i : ℕ) where
  pub there_more : (ms : List ReadMeter) (all : Bool) (x : Step) → i < length steps → has_meters ms (get_or steps i x).task ≡ true → all_have_meters ms (drop i steps) ≡ all → all_have_meters ms (drop (i + 1) steps) ≡ all
  unfolding all_have_meters
  there_more ms all x lt here h =
      ap (λ b. b && all_have_meters ms (drop (i + 1) steps)) (sym here) ∙ sym (at_drop_more (all_have_meters ms) steps i x lt) ∙ h

  pub there_all : (ms : List ReadMeter) (all : Bool) → length steps ≤ i → all_have_meters ms (drop i steps) ≡ all → all ≡ true
  unfolding all_have_meters
  there_all ms all past h = sym h ∙ at_drop_all (all_have_meters ms) steps i past

  pub stopped_here : (ms : List ReadMeter) (all : Bool) (x : Step) (e : RunFault) → i < length steps → StoppedFor (has_meters ms (get_or steps i x).task) e → all_have_meters ms (drop i steps) ≡ all → StoppedFor all e
  unfolding all_have_meters
  stopped_here ms all x NoSuchMeter lt here h =
      sym h ∙ at_drop_more (all_have_meters ms) steps i x lt ∙ ap (λ b. b && all_have_meters ms (drop (i + 1) steps)) here
  stopped_here ms all x NoMemory lt here h = tt

  pub season_more : (s t end : Season) (x : Step) → i < length steps → t ≡ season_after s (get_or steps i x).task → season_after_all s (drop i steps) ≡ end → season_after_all t (drop (i + 1) steps) ≡ end
  unfolding season_after_all
  season_more s t end x lt e h =
      ap (λ u. season_after_all u (drop (i + 1) steps)) e ∙ sym (at_drop_more (season_after_all s) steps i x lt) ∙ h

  pub season_all : (s end : Season) → length steps ≤ i → season_after_all s (drop i steps) ≡ end → s ≡ end
  unfolding season_after_all
  season_all s end past h = sym (at_drop_all (season_after_all s) steps i past) ∙ h

  module _ (tables : ℕ → Table) where
    pub outcomes_more : (s t : Season) (xs ys all : List Outcome) (o : Outcome) (x : Step) → i < length steps → t ≡ season_after s (get_or steps i x).task → o ≡ outcome_of tables s (get_or steps i x).task → ys ≡ xs ++ o ∷ [] → xs ++ outcomes_of tables s (drop i steps) ≡ all → ys ++ outcomes_of tables t (drop (i + 1) steps) ≡ all
    unfolding outcomes_of
    outcomes_more s t xs ys all o x lt e f pushed h =
        ap (λ zs. zs ++ outcomes_of tables t (drop (i + 1) steps)) pushed
        ∙ append_assoc xs (o ∷ []) (outcomes_of tables t (drop (i + 1) steps))
        ∙ ap (λ y. xs ++ (y ∷ outcomes_of tables t (drop (i + 1) steps))) f
        ∙ ap (λ u. xs ++ (outcome_of tables s (get_or steps i x).task ∷ outcomes_of tables u (drop (i + 1) steps))) e
        ∙ ap (λ zs. xs ++ zs) (sym (at_drop_more (outcomes_of tables s) steps i x lt))
        ∙ h

    pub outcomes_all : (s : Season) (xs all : List Outcome) → length steps ≤ i → xs ++ outcomes_of tables s (drop i steps) ≡ all → xs ≡ all
    unfolding outcomes_of
    outcomes_all s xs all past h =
        sym (append-nil xs) ∙ ap (λ zs. xs ++ zs) (sym (at_drop_all (outcomes_of tables s) steps i past)) ∙ h

    pub statements_more : (s t : Season) (xs ys all : List Statement) (x : Step) → i < length steps → t ≡ season_after s (get_or steps i x).task → ys ≡ xs ++ statements_of tables s (get_or steps i x).task → xs ++ statements_of_all tables s (drop i steps) ≡ all → ys ++ statements_of_all tables t (drop (i + 1) steps) ≡ all
    unfolding statements_of_all
    statements_more s t xs ys all x lt e pushed h =
        ap (λ zs. zs ++ statements_of_all tables t (drop (i + 1) steps)) pushed
        ∙ append_assoc xs (statements_of tables s (get_or steps i x).task) (statements_of_all tables t (drop (i + 1) steps))
        ∙ ap (λ u. xs ++ (statements_of tables s (get_or steps i x).task ++ statements_of_all tables u (drop (i + 1) steps))) e
        ∙ ap (λ zs. xs ++ zs) (sym (at_drop_more (statements_of_all tables s) steps i x lt))
        ∙ h

    pub statements_all : (s : Season) (xs all : List Statement) → length steps ≤ i → xs ++ statements_of_all tables s (drop i steps) ≡ all → xs ≡ all
    unfolding statements_of_all
    statements_all s xs all past h =
        sym (append-nil xs) ∙ ap (λ zs. xs ++ zs) (sym (at_drop_all (statements_of_all tables s) steps i past)) ∙ h

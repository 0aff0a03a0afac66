-- A list of calls and its answers, one call on and at its end.
use Rattle.std.proofs.Common.{◌≡◌, ℕ, ◌+◌, ◌<◌, ◌≤◌, List, [], ◌∷◌, ◌++◌, length, get_or, drop, Result, sym, ap, ◌∙◌}
use Rattle.std.proofs.lemmas.List.{append_assoc, append-nil, at_drop_more, at_drop_all}
use Rattle.tariff.specs.Calls.{run, answers, answer, after, next}
use Rattle.tariff.specs.Season.{Season}
use Rattle.tariff.specs.declared.call.Answer.{Answer}
use Rattle.tariff.specs.declared.call.Call.{Call}
use Rattle.tariff.specs.declared.call.SeasonRefusal.{SeasonRefusal}

-- the season that a call was proved to leave is the next one
next_from : (s t : Season) (c : Call) (a : Result Answer SeasonRefusal) → a ≡ answer s c → t ≡ after s c a → t ≡ next s c
next_from s t c a e f = f ∙ ap (after s c) e

module _ (cs : List Call) (i : ℕ) where
  pub run_more : (s t end : Season) (c : Call) (a : Result Answer SeasonRefusal) → i < length cs → a ≡ answer s (get_or cs i c) → t ≡ after s (get_or cs i c) a → run s (drop i cs) ≡ end → run t (drop (i + 1) cs) ≡ end
  unfolding run
  run_more s t end c a lt e f h =
      ap (λ x. run x (drop (i + 1) cs)) (next_from s t (get_or cs i c) a e f) ∙ sym (at_drop_more (run s) cs i c lt) ∙ h

  pub run_all : (s end : Season) → length cs ≤ i → run s (drop i cs) ≡ end → s ≡ end
  unfolding run
  run_all s end past h = sym (at_drop_all (run s) cs i past) ∙ h

  pub answers_more : (s t : Season) (xs all : List (Result Answer SeasonRefusal)) (c : Call) (a : Result Answer SeasonRefusal) → i < length cs → a ≡ answer s (get_or cs i c) → t ≡ after s (get_or cs i c) a → xs ++ answers s (drop i cs) ≡ all → (xs ++ a ∷ []) ++ answers t (drop (i + 1) cs) ≡ all
  unfolding answers
  answers_more s t xs all c a lt e f h =
      append_assoc xs (a ∷ []) (answers t (drop (i + 1) cs))
      ∙ ap (λ y. xs ++ (y ∷ answers t (drop (i + 1) cs))) e
      ∙ ap (λ u. xs ++ (answer s (get_or cs i c) ∷ answers u (drop (i + 1) cs))) (next_from s t (get_or cs i c) a e f)
      ∙ ap (λ ys. xs ++ ys) (sym (at_drop_more (answers s) cs i c lt)) ∙ h

  pub answers_all : (s : Season) (xs all : List (Result Answer SeasonRefusal)) → length cs ≤ i → xs ++ answers s (drop i cs) ≡ all → xs ≡ all
  unfolding answers
  answers_all s xs all past h = sym (append-nil xs) ∙ ap (λ ys. xs ++ ys) (sym (at_drop_all (answers s) cs i past)) ∙ h

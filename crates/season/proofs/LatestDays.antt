-- The latest days that pass a test, one day at a time.
use Rattle.std.proofs.Common.{◌≡◌, ℕ, zero, suc, ◌+◌, ◌-◌, ◌<◌, ◌≤◌, Bool, true, false, ◌&&◌, ltb, List, [], ◌∷◌, ◌++◌, length, take, set, get_or, Option, Some, None, IsSome, sym, refl, ap, ◌∙◌, subst, inl, inr, arith}
use Rattle.std.specs.List.{AllByRecursion, find}
use Rattle.std.specs.Option.{option_to_list}
use Rattle.std.specs.Iterator.Adapters.{rev_source, rev_steps}
use Rattle.std.specs.declared.iter.Rev.{Rev}
use Rattle.std.specs.declared.ops.Range.{Range}
use Rattle.std.proofs.iter.runs.Sources.{nat_range_steps_back}
use Rattle.std.proofs.lemmas.Iterator.{YieldsList}
use Rattle.std.proofs.lemmas.Iterator.Consumers.{YieldsList-from_shown}
use Rattle.std.proofs.lemmas.List.{append_assoc, append-nil, length-take, take_all, take_more_set}
use Rattle.std.proofs.lemmas.Bool.{cases_Bool, cond-true, cond-false, and_from, and_left, and_right, lt-ltb, le-ltb}
use Rattle.tariff.specs.Comparison.{comparable, comparison_days, latest}
use Rattle.tariff.specs.Season.{Season, standing}
use Rattle.tariff.specs.Sound.{Sound}
use Rattle.tariff.proofs.Latest.{latest_pass}
use Rattle.tariff.proofs.TenDays.{ten_comparison_days}

-- n numbers from a on, the last first
pub falling : ℕ → ℕ → List ℕ
falling a zero = []
falling a (suc n) = (a + n) ∷ falling a n

one_down : (a n m x : ℕ) → n ≡ suc m → x ≡ a + m → falling a n ≡ x ∷ falling a m
unfolding falling
one_down a n m x e f = ap (falling a) e ∙ ap (λ y. y ∷ falling a m) (sym f)

pub YieldsList-from_range_back : {s : Rev (Range ℕ)} (n : ℕ) → rev_source s ≡ record { start = 0; end = n } → YieldsList (rev_steps nat_range_steps_back) (λ x. x) s (falling 0 n)
unfolding falling
YieldsList-from_range_back {s} n e =
    subst (YieldsList (rev_steps nat_range_steps_back) (λ x. x) s) (ap (λ (r : Range ℕ). falling r.start (r.end - r.start)) e ∙ ap (falling 0) (omega arith))
    (YieldsList-from_shown (rev_steps nat_range_steps_back) (λ x. x) (λ t. falling (rev_source t).start ((rev_source t).end - (rev_source t).start))
    (λ t u h. ap (λ k. length (falling (rev_source t).start k)) h.1.0)
    (λ t x u h. one_down (rev_source t).start ((rev_source t).end - (rev_source t).start) ((rev_source u).end - (rev_source u).start) x (omega (arith, h.0, h.1.0, h.1.2)) (omega (arith, h.0, h.1.0, h.1.1, h.1.2))
    ∙ ap (λ a. x ∷ falling a ((rev_source u).end - (rev_source u).start)) (sym h.0))
    s)

module _ (p : ℕ → Bool) where
  latest_none : (wanted : ℕ) → latest p wanted 0 ≡ []
  unfolding latest
  latest_none wanted = refl

  latest_takes : (wanted d : ℕ) → p d ≡ true → 0 < wanted → latest p wanted (suc d) ≡ d ∷ latest p (wanted - 1) d
  unfolding latest
  latest_takes wanted d e l = cond-true (p d && ltb 0 wanted) _ _ (and_from (p d) (ltb 0 wanted) e (lt-ltb 0 wanted l))

  latest_passes : (wanted d : ℕ) → p d ≡ false → latest p wanted (suc d) ≡ latest p wanted d
  unfolding latest
  latest_passes wanted d e = cond-false (p d && ltb 0 wanted) _ _ (and_left (p d) (ltb 0 wanted) e)

  latest_of_none : (n : ℕ) → latest p 0 n ≡ []
  unfolding latest
  latest_of_none zero = refl
  latest_of_none (suc n) = cond-false (p n && ltb 0 0) _ _ (and_right (p n) (ltb 0 0) (le-ltb 0 0 (omega arith))) ∙ latest_of_none n

  -- the first of several is the one latest day, and the others lie before it
  pub latest_first : (wanted n x : ℕ) → 0 < wanted → latest p 1 n ≡ x ∷ [] → latest p wanted n ≡ x ∷ latest p (wanted - 1) x
  latest_first wanted zero x some h =
      let z : ⊥ = omega (arith, ap length (sym (latest_none 1) ∙ h)) in
      absurd z
  latest_first wanted (suc n) x some h =
      elim (cases_Bool (p n)) [
        | inl e ↦
            let here : n ≡ x = ap (λ xs. get_or xs 0 0) (sym (latest_takes 1 n e (omega arith)) ∙ h) in
            latest_takes wanted n e some ∙ ap (λ k. k ∷ latest p (wanted - 1) k) here
        | inr e ↦ latest_passes wanted n e ∙ latest_first wanted n x some (sym (latest_passes 1 n e) ∙ h)
      ]

  latest_gone : (wanted n : ℕ) → latest p 1 n ≡ [] → latest p wanted n ≡ []
  latest_gone wanted zero h = latest_none wanted
  latest_gone wanted (suc n) h =
      elim (cases_Bool (p n)) [
        | inl e ↦
            let z : ⊥ = omega (arith, ap length (sym (latest_takes 1 n e (omega arith)) ∙ h)) in
            absurd z
        | inr e ↦ latest_passes wanted n e ∙ latest_gone wanted n (sym (latest_passes 1 n e) ∙ h)
      ]

  pub latest_before : (n x : ℕ) → latest p 1 n ≡ x ∷ [] → x < n
  latest_before n x h = (subst (AllByRecursion (λ k. k < n)) h (latest_pass p (λ k. k < n) 1 n (λ k l _. l))).0

  -- the first that passes among the days from the latest on
  pub latest_found : (n : ℕ) → option_to_list (find p (falling 0 n)) ≡ latest p 1 n
  unfolding falling
  latest_found zero = sym (latest_none 1)
  latest_found (suc n) =
      let start : 0 + n ≡ n = omega arith in
      elim (cases_Bool (p n)) [
        | inl e ↦
            ap option_to_list (cond-true (p (0 + n)) (Some (0 + n)) (find p (falling 0 n)) (ap p start ∙ e)) ∙ ap (λ k. k ∷ []) start
            ∙ ap (λ xs. n ∷ xs) (sym (latest_of_none n)) ∙ sym (latest_takes 1 n e (omega arith))
        | inr e ↦
            ap option_to_list (cond-false (p (0 + n)) (Some (0 + n)) (find p (falling 0 n)) (ap p start ∙ e)) ∙ latest_found n ∙ sym (latest_passes 1 n e)
      ]

-- the days found so far, and those that are still to be found before day b
module _ (s : Season) (d : ℕ) (days : List ℕ) (n b : ℕ) where
  abbrev SoFar : Type 0
  SoFar = take n days ++ latest (comparable s) (10 - n) b ≡ comparison_days s d

  pub one_more : (x : ℕ) → n < length days → n < 10 → latest (comparable s) 1 b ≡ x ∷ [] → SoFar → take (n + 1) (set days n x) ++ latest (comparable s) (10 - (n + 1)) x ≡ comparison_days s d
  one_more x l few h so =
      let p : ℕ → Bool = comparable s in
      let rest : List ℕ = latest p (10 - (n + 1)) x in
      let next : latest p (10 - n) b ≡ x ∷ rest = latest_first p (10 - n) b x (omega arith) h ∙ ap (λ w. x ∷ latest p w x) (omega arith) in
      ap (λ xs. xs ++ rest) (take_more_set days n x l) ∙ append_assoc (take n days) (x ∷ []) rest ∙ ap (λ xs. take n days ++ xs) (sym next) ∙ so

  -- ten comparable days lie before every standing event, so there is one more while fewer are found
  pub another : Sound s → standing s d ≡ true → n < 10 → SoFar → (r : Option ℕ) → option_to_list r ≡ latest (comparable s) 1 b → IsSome r
  another sound stands few so (Some x) h = refl
  another sound stands few so None h =
      let none : latest (comparable s) (10 - n) b ≡ [] = latest_gone (comparable s) (10 - n) b (sym h) in
      let all : take n days ≡ comparison_days s d = sym (append-nil (take n days)) ∙ ap (λ xs. take n days ++ xs) (sym none) ∙ so in
      let z : ⊥ = omega (arith, ap length all, length-take n days, ten_comparison_days s sound d stands) in
      absurd z

  -- at the end all ten are found
  pub ten_found : length days ≡ 10 → 10 ≤ n → SoFar → days ≡ comparison_days s d
  ten_found long end so =
      let none : latest (comparable s) (10 - n) b ≡ [] = ap (λ w. latest (comparable s) w b) (omega arith) ∙ latest_of_none (comparable s) b in
      sym (take_all n days (omega arith)) ∙ sym (append-nil (take n days)) ∙ ap (λ xs. take n days ++ xs) (sym none) ∙ so

module _ (s : Season) (d : ℕ) where
  pub all_before : AllByRecursion (λ k. k < d) (comparison_days s d)
  unfolding comparison_days
  all_before = latest_pass (comparable s) (λ k. k < d) 10 d (λ k l _. l)

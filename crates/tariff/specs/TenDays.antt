-- The comparison days of an event are ten, and the ten latest.
use Rattle.std.specs.Prelude.{◌≡◌, ℕ, ◌<◌, Bool, true, false, not, ◌&&◌, List, [], ◌∷◌, length, nat_lt}
use Rattle.std.specs.List.{ContainsAt as Has, AllByRecursion}
use Rattle.tariff.specs.Calendar.{business}
use Rattle.tariff.specs.Comparison.{comparison_days}
use Rattle.tariff.specs.Counting.{count}
use Rattle.tariff.specs.Season.{Season, standing}
use Rattle.tariff.specs.Sound.{OfSoundSeasons}

-- each number is less than those before it
abbrev pub Falling : List ℕ → Type 0
Falling [] = Unit {0}
Falling (x ∷ xs) = AllByRecursion (λ y. y < x) xs × Falling xs

-- how many of the numbers strictly between a and b pass a test
abbrev pub between : (ℕ → Bool) → ℕ → ℕ → ℕ
between p a b = count (λ k. nat_lt a k && p k) b

-- day k lies before day d and is a business day without a standing event, and fewer than ten such days lie between the two
pub record Late (s : Season) (d k : ℕ) : Type 0 where
  pub before : k < d
  pub on_business : business s.year k ≡ true
  pub no_event : standing s k ≡ false
  pub few_between : between (λ j. business s.year j && not (standing s j)) k d < 10

-- The comparison days of a day are the latest ten such days before it, those and no others, the latest first.
abbrev pub ComparisonDaysAreLatest : Type 0
ComparisonDaysAreLatest =
    (s : Season) (d : ℕ) →
    Falling (comparison_days s d) × ((k : ℕ) → (Has (comparison_days s d) k → Late s d k) × (Late s d k → Has (comparison_days s d) k))

-- Every standing event is compared with ten days: the two weeks before June 15 hold ten business days, no holiday and no event.
abbrev pub TenComparisonDays : Type 0
TenComparisonDays = OfSoundSeasons (λ s. (d : ℕ) → standing s d ≡ true → length (comparison_days s d) ≡ 10)

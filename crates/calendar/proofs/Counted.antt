-- The numbers of a range that pass a test, as a chain counts them and as the tariff does.
use Rattle.std.proofs.Common.{◌≡◌, ℕ, Bool, cond, length, filter, sym, ◌∙◌}
use Rattle.std.specs.List.{range_with_len}
use Rattle.std.proofs.lemmas.List.Sums.{length-filter}
use Rattle.tariff.specs.Calendar.{programme_day, programme_days}
use Rattle.tariff.specs.Counting.{count}
use Rattle.tariff.proofs.HistoryTotals.{count_total}
use Rattle.tariff.proofs.Summing.{range_total}

range_counted : (p : ℕ → Bool) (n : ℕ) → length (filter p (range_with_len 0 n)) ≡ count p n
range_counted p n = length-filter p (range_with_len 0 n) ∙ range_total (λ k. cond (p k) 1 0) n ∙ sym (count_total p n)

pub programme_days_counted : (year week : ℕ) → length (filter (programme_day year week) (range_with_len 0 76)) ≡ programme_days year week
unfolding programme_days
programme_days_counted year week = range_counted (programme_day year week) 76

-- One hour more and one day more in the count of the hours that hold a load.
use Rattle.std.proofs.Common.{◌≡◌, ℕ, ◌+◌, cond, sym, ap, ◌∙◌, ap₂}
use Rattle.tariff.proofs.Summing.{total_more}
use Rattle.tariff.proofs.Totals.{count_more}
use Rattle.tariff.specs.Tables.{Table}
use Rattle.settlement.specs.Held.{held_before, held_on_day, holds_load}

pub hour_more : (t u : Table) (d h found one : ℕ) → u ≡ t → found ≡ held_on_day t d h → one ≡ cond (holds_load (u d h)) 1 0 → found + one ≡ held_on_day t d (h + 1)
hour_more t u d h found one same so_far here =
    ap₂ ◌+◌ so_far (here ∙ ap (λ (v : Table). cond (holds_load (v d h)) 1 0) same) ∙ sym (count_more (λ k. holds_load (t d k)) h)

pub day_more : (t u : Table) (d found more : ℕ) → u ≡ t → found ≡ held_before t d → more ≡ held_on_day u d 24 → found + more ≡ held_before t (d + 1)
day_more t u d found more same so_far here =
    ap₂ ◌+◌ so_far (here ∙ ap (λ (v : Table). held_on_day v d 24) same) ∙ sym (total_more (λ k. held_on_day t k 24) d)

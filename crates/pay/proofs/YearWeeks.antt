-- At a year's own weeks and programme days, and a site's nominations, a statement is the tariff's.
use Rattle.std.proofs.Common.{◌≡◌, ℕ, ◌-◌, ◌≤◌, Bool, true, false, cond, eqb, List, [], ◌∷◌, map, get_or, filter, refl, ap, ◌∙◌, arith}
use Rattle.std.specs.List.{range_with_len, AllByRecursion}
use Rattle.tariff.specs.Calendar.{week_of, in_week}
use Rattle.tariff.specs.Pay.{priced, week_line_of, week_line, week_lines, hours_in_week, incentive_of, charged_of, written, paid_for}
use Rattle.tariff.specs.Season.{nomination_for}
use Rattle.tariff.specs.declared.season.Site.{Site}
use Rattle.tariff.specs.declared.statement.MeasuredHour.{MeasuredHour}
use Rattle.tariff.proofs.Pointwise.{map_same}
use Rattle.tariff.proofs.Ranking.{all_counting}
use Rattle.pay.specs.declared.placed.PlacedHour.{PlacedHour}
use Rattle.pay.specs.Paying.{measured_list, measured_in_week, hour_lines_of, week_line_in, week_lines_of, statement_from, OfYear}

kept_one : (p : PlacedHour) (ks : List PlacedHour) (ms : List MeasuredHour) → measured_list ks ≡ ms → (b : Bool) → measured_list (cond b (p ∷ ks) ks) ≡ cond b (p.measured ∷ ms) ms
kept_one p ks ms e true = ap (λ ns. p.measured ∷ ns) e
kept_one p ks ms e false = e

module _ (year w : ℕ) where
  kept_same : (hours : List PlacedHour) → AllByRecursion (λ p. p.week ≡ week_of year p.measured.day) hours → measured_list (filter (λ p. eqb p.week w) hours) ≡ filter (λ m. in_week year w m.day) (measured_list hours)
  kept_same [] h = refl
  kept_same (p ∷ hours) h =
      let ks : List PlacedHour = filter (λ q. eqb q.week w) hours in
      let ms : List MeasuredHour = filter (λ m. in_week year w m.day) (measured_list hours) in
      kept_one p ks ms (kept_same hours h.1) (eqb p.week w) ∙ ap (λ n. cond (eqb n w) (p.measured ∷ ms) ms) h.0

  week_same : (hours : List PlacedHour) → AllByRecursion (λ p. p.week ≡ week_of year p.measured.day) hours → measured_in_week w hours ≡ hours_in_week year w (measured_list hours)
  unfolding measured_in_week hours_in_week
  week_same hours h = kept_same hours h

module _ (year : ℕ) (x : Site) (hours : List PlacedHour) (nominations days : List ℕ) (last : ℕ) (of : OfYear year x hours nominations days last) where
  line_same : (w : ℕ) → 1 ≤ w → w ≤ last → week_line_in nominations days hours w ≡ week_line year x (measured_list hours) w
  line_same w l h =
      ap (λ n. week_line_of n (measured_in_week w hours) (get_or days (w - 1) 0)) (ap (λ (ns : List ℕ). get_or ns (w - 1) 0) of.of_site)
      ∙ ap (λ ms. week_line_of (nomination_for x w) ms (get_or days (w - 1) 0)) (week_same year w hours of.in_weeks)
      ∙ ap (week_line_of (nomination_for x w) (hours_in_week year w (measured_list hours))) (of.of_weeks w l h)

  weeks_same : week_lines_of nominations days last hours ≡ week_lines year x (measured_list hours)
  unfolding week_lines_of week_lines
  weeks_same =
      map_same (week_line_in nominations days hours) (week_line year x (measured_list hours)) (range_with_len 1 last)
      (all_counting (λ w. week_line_in nominations days hours w ≡ week_line year x (measured_list hours) w) 1 last (λ w l h. line_same w l (omega arith)))
      ∙ ap (λ n. map (week_line year x (measured_list hours)) (range_with_len 1 n)) of.to_last

  pub year_paid : statement_from hours nominations days last ≡ paid_for year x (measured_list hours)
  unfolding statement_from paid_for hour_lines_of
  year_paid = ap (λ ws. written (map priced (measured_list hours)) ws (incentive_of (map priced (measured_list hours)) ws) (charged_of (map priced (measured_list hours)))) weeks_same

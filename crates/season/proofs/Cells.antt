-- A record holds nothing but its season: its unused cells are all alike.
use Rattle.std.proofs.Common.{◌≡◌, ℕ, ◌-◌, ◌≤◌, true, ◌&&◌, eqb, List, [], ◌∷◌, ◌++◌, length, drop, replicate, sym, refl, ap, ◌∙◌, ap₂, subst, arith}
use Rattle.std.proofs.lemmas.List.{length-take, length-drop, take-append-drop}
use Rattle.std.proofs.lemmas.Bool.{and_parts, eqb-true, false≢true}
use Rattle.std.proofs.Math.Bool.{Bool-set}
use Rattle.std.proofs.Math.Bridge.{le_prop}
use Rattle.std.proofs.Math.Nat.{ℕ_set}
use Rattle.tariff.specs.Season as model
use Rattle.tariff.specs.declared.season.Day.{Day}
use Rattle.tariff.specs.declared.season.Kind.{Kind}
use Rattle.tariff.specs.declared.season.Kind.TheVariants.{Single, Aggregated}
use Rattle.tariff.specs.declared.season.Site.{Site}
use Rattle.season.specs.Blank.{blank_site, is_single, zeros, is_blank, blanks, Blank}
use Rattle.season.specs.Tables.{listed}
use Rattle.season.specs.View.{view, SameCells}
use Rattle.season.specs.declared.events.EventTable.{EventTable}
use Rattle.season.specs.declared.season.Season.{Season}
use Rattle.season.specs.declared.sites.SiteTable.{SiteTable}

single_is : (k : Kind) → is_single k ≡ true → k ≡ Single
single_is Single h = refl
single_is Aggregated h = absurd (false≢true h)

zeros_are : (xs : List ℕ) → zeros xs ≡ true → xs ≡ replicate (length xs) 0
unfolding zeros
zeros_are [] h = refl
zeros_are (x ∷ xs) h = ap₂ ◌∷◌ (eqb-true x 0 (and_parts (eqb x 0) (zeros xs) h).0) (zeros_are xs (and_parts (eqb x 0) (zeros xs) h).1)

blank_is : (x : Site) → is_blank x ≡ true → x ≡ blank_site
blank_is x h =
    let p = and_parts (is_single x.kind) (eqb x.highest 0 && (eqb (length x.weeks) 10 && zeros x.weeks)) h in
    let q = and_parts (eqb x.highest 0) (eqb (length x.weeks) 10 && zeros x.weeks) p.1 in
    let r = and_parts (eqb (length x.weeks) 10) (zeros x.weeks) q.1 in
    let kind : x.kind ≡ Single = single_is x.kind p.0 in
    let highest : x.highest ≡ 0 = eqb-true x.highest 0 q.0 in
    let weeks : x.weeks ≡ replicate 10 0 = zeros_are x.weeks r.1 ∙ ap (λ n. replicate n 0) (eqb-true (length x.weeks) 10 r.0) in
    let with-kind : Kind → Site = λ k. record { kind = k; highest = x.highest; weeks = x.weeks } in
    let with-highest : ℕ → Site = λ n. record { kind = Single; highest = n; weeks = x.weeks } in
    let with-weeks : List ℕ → Site = λ ws. record { kind = Single; highest = 0; weeks = ws } in
    ap with-kind kind ∙ ap with-highest highest ∙ ap with-weeks weeks

blanks_are : (xs : List Site) → blanks xs ≡ true → xs ≡ replicate (length xs) blank_site
unfolding blanks
blanks_are [] h = refl
blanks_are (x ∷ xs) h = ap₂ ◌∷◌ (blank_is x (and_parts (is_blank x) (blanks xs) h).0) (blanks_are xs (and_parts (is_blank x) (blanks xs) h).1)

-- a table's cells are its sites and then blank cells
abbrev padded : List Site → List Site
padded xs = xs ++ replicate (64 - length xs) blank_site

count_is : (t : SiteTable) → t.count ≡ length (listed t)
count_is t = let room = t.room in let cells = t.cells in sym (length-take t.count t.sites ∙ omega arith)

cells_are : (t : SiteTable) → t.sites ≡ padded (listed t)
cells_are t =
    let many = count_is t in
    let cells = t.cells in
    let rest : drop t.count t.sites ≡ replicate (64 - length (listed t)) blank_site =
    blanks_are (drop t.count t.sites) t.blank ∙ ap (λ n. replicate n blank_site) (length-drop t.count t.sites ∙ omega arith) in
    sym (take-append-drop t.count t.sites) ∙ ap (λ ys. listed t ++ ys) rest

-- two tables are the same where their fields are
table : (n : ℕ) (xs : List Site) → n ≤ 64 → length xs ≡ 64 → Blank n xs → SiteTable
table n xs room cells blank = record { count = n; sites = xs; room = room; cells = cells; blank = blank }

facts_same : (n : ℕ) (xs : List Site) (a b : n ≤ 64) (c d : length xs ≡ 64) (e f : Blank n xs) → table n xs a c e ≡ table n xs b d f
facts_same n xs a b c d e f =
    ap (λ r. table n xs r c e) (le_prop a b) ∙ ap (λ r. table n xs b r e) (ℕ_set _ _ c d) ∙ ap (λ r. table n xs b d r) (Bool-set _ _ e f)

table_same : (s t : SiteTable) → s.count ≡ t.count → s.sites ≡ t.sites → s ≡ t
unfolding table
table_same s t count sites =
    fields s.count t.count s.sites t.sites count sites s.room t.room s.cells t.cells s.blank t.blank
  where
    fields : (m n : ℕ) (xs ys : List Site) → m ≡ n → xs ≡ ys → (a : m ≤ 64) (b : n ≤ 64) (c : length xs ≡ 64) (d : length ys ≡ 64) (e : Blank m xs) (f : Blank n ys) → table m xs a c e ≡ table n ys b d f
    fields m n xs ys p q = subst (λ k. (a : m ≤ 64) (b : k ≤ 64) (c : length xs ≡ 64) (d : length ys ≡ 64) (e : Blank m xs) (f : Blank k ys) → table m xs a c e ≡ table k ys b d f) p
        (subst (λ zs. (a b : m ≤ 64) (c : length xs ≡ 64) (d : length zs ≡ 64) (e : Blank m xs) (f : Blank m zs) → table m xs a c e ≡ table m zs b d f) q (facts_same m xs))

days_same : (s t : EventTable) → s.days ≡ t.days → s ≡ t
days_same s t = fields s.days t.days s.summer t.summer
  where
    held : (xs : List Day) → length xs ≡ 76 → EventTable
    held xs summer = record { days = xs; summer = summer }

    fields : (xs ys : List Day) (a : length xs ≡ 76) (b : length ys ≡ 76) → xs ≡ ys → held xs a ≡ held ys b
    fields xs ys a b p = subst (λ zs. (c : length zs ≡ 76) → held xs a ≡ held zs c) p (λ c. ap (held xs) (ℕ_set _ _ a c)) b

pub same_cells : (s t : Season) → view s ≡ view t → SameCells s t
same_cells s t e =
    record {
      year = ap (λ (m : model.Season). m.year) e;
      closed = ap (λ (m : model.Season). m.closed) e;
      clock = ap (λ (m : model.Season). m.clock) e;
      sites = table_same s.sites t.sites
          (count_is s.sites ∙ ap (λ (m : model.Season). length m.sites) e ∙ sym (count_is t.sites))
          (cells_are s.sites ∙ ap (λ (m : model.Season). padded m.sites) e ∙ sym (cells_are t.sites));
      events = days_same s.events t.events (ap (λ (m : model.Season). m.days) e);
    }

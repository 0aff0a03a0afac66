-- The cells of a table that no site uses.
use Rattle.std.specs.Prelude.{◌≡◌, ℕ, Bool, true, false, ◌&&◌, List, [], ◌∷◌, length, drop, replicate, ◌==◌}
use Rattle.tariff.specs.declared.season.Kind.{Kind}
use Rattle.tariff.specs.declared.season.Kind.TheVariants.{Single, Aggregated}
use Rattle.tariff.specs.declared.season.Site.{Site}

-- a cell that no site uses
abbrev pub blank_site : Site
blank_site = record { kind = Single; highest = 0; weeks = replicate 10 0 }

-- the same as tests
abbrev pub is_single : Kind → Bool
is_single Single = true
is_single Aggregated = false

unfoldable pub zeros : List ℕ → Bool
zeros [] = true
zeros (x ∷ xs) = x == 0 && zeros xs

abbrev pub is_blank : Site → Bool
is_blank x = is_single x.kind && (x.highest == 0 && (length x.weeks == 10 && zeros x.weeks))

unfoldable pub blanks : List Site → Bool
blanks [] = true
blanks (x ∷ xs) = is_blank x && blanks xs

-- the cells past the first n are blank
abbrev pub Blank : ℕ → List Site → Type 0
Blank n xs = blanks (drop n xs) ≡ true

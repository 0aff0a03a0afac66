-- The words of a text, one after another, and how many they are. Assumes nothing.
use Rattle.std.proofs.Common.{◌≡◌, ℕ, ◌<◌, ◌≤◌, false, cond, eqb, List, [], ◌∷◌, length, get_or, Some, None, Option, Bor, sym, refl, ap, ◌∙◌, ⊎_elim, arith}
use Rattle.std.proofs.lemmas.Bool.{cases_Bool, cond-false, ne_eqb}
use Rattle.std.proofs.lemmas.Iterator.Consumers.{count_from_yields_List, YieldsList-from_first}
use Rattle.std.specs.Iterator.{Drains, YieldsFirstRef}
use Rattle.text.specs.declared.line.Lines.{Lines}
use Rattle.text.specs.declared.word.Words.{Words}
use Rattle.text.specs.Left.{lines_left, words_left}
use Rattle.text.specs.Pieces.{blank, upto, beyond, pieces, solid, between_blanks, unblanked, first_word, next_word}
use Rattle.text.proofs.Cutting.{pieces_cut, solid_some, pieces_fit}

-- a word and those that follow it
abbrev pub words_of : Option (List ℕ × List ℕ) → List (List ℕ)
words_of None = []
words_of (Some next) = next.0 ∷ between_blanks next.1

upto_some : (b : ℕ) (bs : List ℕ) → blank b ≡ false → 0 < length (upto blank (b ∷ bs))
unfolding upto
upto_some b bs e = rw e (omega arith)

pub words_next : (bs : List ℕ) → between_blanks bs ≡ words_of (next_word bs)
unfolding unblanked pieces solid
words_next [] = refl
words_next (b ∷ bs) =
    ⊎_elim (λ e. rw e (words_next bs))
    (λ e.
    let some = cond-false (eqb (length (b ∷ bs)) 0) None (Some (upto blank (b ∷ bs), beyond blank (b ∷ bs))) (ne_eqb (length (b ∷ bs)) 0 (λ z. omega arith)) in
    ap solid (pieces_cut blank b bs) ∙ solid_some (upto blank (b ∷ bs)) (pieces blank (beyond blank (b ∷ bs))) (upto_some b bs e)
    ∙ sym (ap (λ v. words_of (first_word (cond v (unblanked bs) (b ∷ bs)))) e ∙ ap words_of some))
    (cases_Bool (blank b))

pub no_words : (bs : List ℕ) → None ≡ next_word bs → between_blanks bs ≡ []
no_words bs e = words_next bs ∙ ap words_of (sym e)

pub first_of_words : (bs word rest : List ℕ) → Some (word, rest) ≡ next_word bs → between_blanks bs ≡ word ∷ between_blanks rest
first_of_words bs word rest e = words_next bs ∙ ap words_of (sym e)

pub fewer_words : (bs word rest : List ℕ) → Some (word, rest) ≡ next_word bs → length (between_blanks rest) < length (between_blanks bs)
fewer_words bs word rest e = omega (arith, ap length (first_of_words bs word rest e))

solid_first : (ps : List (List ℕ)) {word : List ℕ} {rest : List (List ℕ)} → solid ps ≡ word ∷ rest → 0 < length word
unfolding solid
solid_first [] e = absurd (grind arith)
solid_first ([] ∷ ps) e = solid_first ps e
solid_first ((b ∷ bs) ∷ ps) e = let same = ap (λ ws. length (get_or ws 0 [])) e in omega arith

-- a word has a byte
pub word_has_bytes : (bs : List ℕ) {word : List ℕ} {rest : List (List ℕ)} → between_blanks bs ≡ word ∷ rest → 0 < length word
word_has_bytes bs e = solid_first (pieces blank bs) e

solid_fit : (ps : List (List ℕ)) → length (solid ps) ≤ length ps
unfolding solid
solid_fit [] = omega arith
solid_fit ([] ∷ ps) = omega (arith, solid_fit ps)
solid_fit ((b ∷ bs) ∷ ps) = omega (arith, solid_fit ps)

-- a text has no more words than bytes
pub words_fit : (bs : List ℕ) → length (between_blanks bs) ≤ length bs
words_fit bs = omega (arith, solid_fit (pieces blank bs), pieces_fit blank bs)

-- counted to their end, the words of a text are as many as it has
pub words_counted : (s : Words) (r : ℕ) → ((xs : List (Bor (List ℕ))) × Drains (YieldsFirstRef words_left) s xs × (r ≡ length xs)) → r ≡ length (words_left s)
words_counted s r ran = count_from_yields_List s r ran (YieldsList-from_first (λ x. x.now) words_left (words_left s) refl)

pub lines_counted : (s : Lines) (r : ℕ) → ((xs : List (Bor (List ℕ))) × Drains (YieldsFirstRef lines_left) s xs × (r ≡ length xs)) → r ≡ length (lines_left s)
lines_counted s r ran = count_from_yields_List s r ran (YieldsList-from_first (λ x. x.now) lines_left (lines_left s) refl)

-- What is read of a line is a proper entry. Assumes nothing.
use Rattle.std.proofs.Common.{◌≡◌, ℕ, ◌<◌, Bool, true, false, cond, eqb, leb, List, [], ◌∷◌, ◌++◌, reverse, length, IfSome, IfOk, Some, None, Ok, Err, Option, Result, sym, refl, ap, ◌∙◌, subst, arith, lit≤}
use Rattle.std.proofs.lemmas.List.{reverse-append, reverse-reverse}
use Rattle.std.proofs.lemmas.Result.{IfOk-at_ok}
use Rattle.std.proofs.lemmas.Bool.{cond_both, leb-true, eqb-false}
use Rattle.std.specs.List.{AllByRecursion}
use Rattle.std.specs.Str.{all_ascii_digits, bytes_eq}
use Rattle.std.specs.Option.{ok_or}
use Rattle.text.specs.declared.number.NumberFault.{NumberFault}
use Rattle.text.specs.declared.number.NumberFault.TheVariants.{NoNumber as NoDigits, TooLarge}
use Rattle.text.specs.Numbers.{number_from, within_32_bits, number_of}
use Rattle.text.specs.Pieces.{line_end, hash, blank, upto, beyond, unblanked, trimmed, next_word}
use Rattle.text.specs.Stamps.{stamp_of}
use Rattle.text.proofs.Stamps.{stamps_lie_in_the_summer_lem}
use Rattle.text.proofs.Written.{free_append}
use Rattle.entries.specs.declared.entry.EntryFault.{EntryFault}
use Rattle.entries.specs.declared.entry.EntryFault.TheVariants.{TooFewWords, NoMoment, NoKind}
use Rattle.entries.specs.declared.word.Figure.{Figure}
use Rattle.entries.specs.declared.word.Figure.TheVariants.{Number, Moment, Kind}
use Rattle.entries.specs.declared.word.Keyword.{Keyword}
use Rattle.entries.specs.declared.word.Keyword.TheVariants as first
use Rattle.entries.specs.declared.word.MeterForm.{MeterForm}
use Rattle.entries.specs.declared.word.MeterForm.TheVariants.{Table, Pair}
use Rattle.entries.specs.Asked.{Asked}
use Rattle.entries.specs.Reading.{label_saying, label_after, open_after, enrol_after, nominate_after, announce_after, revoke_after, close_after, table_after, pair_after, meter_after, form_after, statement_after, compare_after, entry_after, entry_from, entry_of_line}
use Rattle.text.proofs.Going.{made_then}
use Rattle.entries.specs.Taking.{take_word, take_figure, no_more, last_word, last_figure}
use Rattle.entries.specs.Words.{meaning, kinds, kind_named, other_figure, figure_from, figure_of, keyword_of, meter_form_of}
use Rattle.entries.specs.Written.{Without, Number32, ProperWord, Proper, EntriesReadAreProper}
use Rattle.entries.proofs.Back.{Fit}

-- what holds of a part that is read, and then of what is made of it
-- what holds of anything at all
anything : {X : Type 0} (r : Result X EntryFault) → IfOk r (λ _. Unit {0})
anything (Ok x) = tt
anything (Err e) = tt

-- a number that is read is one of 32 bits
number_small : (w : List ℕ) → IfOk (number_of w) Number32
unfolding number_of
number_small [] = tt
number_small (c ∷ cs) =
    let n = number_from 0 (c ∷ cs) in
    cond_both (all_ascii_digits (c ∷ cs)) (within_32_bits n) _ (λ r. IfOk r Number32) (λ _. cond_both (leb n 4294967295) (Ok n) (Err TooLarge) (λ r. IfOk r Number32) (λ e. leb-true n 4294967295 e) (λ e. tt)) (λ _. tt)

meaning_has : {X : Type 0} (P : X → Type 0) (fault : EntryFault) (ps : List (List ℕ × X)) (w : List ℕ) → AllByRecursion (λ p. P p.1) ps → IfOk (meaning fault ps w) P
meaning_has P fault [] w h = tt
meaning_has P fault (p ∷ ps) w h = cond_both (bytes_eq w p.0) (Ok p.1) (meaning fault ps w) (λ r. IfOk r P) (λ _. h.0) (λ _. meaning_has P fault ps w h.1)

stamp_small : (w : List ℕ) (o : Option ℕ) → stamp_of w ≡ o → IfOk (ok_or o NoMoment) Number32
stamp_small w None e = tt
stamp_small w (Some m) e = omega (arith, stamps_lie_in_the_summer_lem w m e)

other_small : (f : Figure) (w : List ℕ) → IfOk (other_figure f w) Number32
unfolding kind_named
other_small Number w = tt
other_small Moment w = stamp_small w (stamp_of w) refl
other_small Kind w = meaning_has Number32 NoKind kinds w (lit≤ tt, (lit≤ tt, tt))

figure_small : (f : Figure) (w : List ℕ) → IfOk (figure_of f w) Number32
unfolding figure_of
figure_small f w = from (number_of w) (number_small w)
  where
    from : (r : Result ℕ NumberFault) → IfOk r Number32 → IfOk (figure_from f w r) Number32
    from (Ok n) h = h
    from (Err TooLarge) h = tt
    from (Err NoDigits) h = other_small f w

-- a part of a line lacks what the line lacks
module _ (p : ℕ → Bool) where
  upto_lacks : (q : ℕ → Bool) (bs : List ℕ) → Without p bs → Without p (upto q bs)
  unfolding upto
  upto_lacks q [] h = tt
  upto_lacks q (b ∷ bs) h = elim (q b) as (λ v. Without p (cond v [] (b ∷ upto q bs))) [ true ↦ tt | false ↦ (h.0, upto_lacks q bs h.1) ]

  beyond_lacks : (q : ℕ → Bool) (bs : List ℕ) → Without p bs → Without p (beyond q bs)
  unfolding beyond
  beyond_lacks q [] h = tt
  beyond_lacks q (b ∷ bs) h = elim (q b) as (λ v. Without p (cond v bs (beyond q bs))) [ true ↦ h.1 | false ↦ beyond_lacks q bs h.1 ]

  unblanked_lacks : (bs : List ℕ) → Without p bs → Without p (unblanked bs)
  unfolding unblanked
  unblanked_lacks [] h = tt
  unblanked_lacks (b ∷ bs) h = elim (blank b) as (λ v. Without p (cond v (unblanked bs) (b ∷ bs))) [ true ↦ unblanked_lacks bs h.1 | false ↦ h ]

  reverse_lacks : (bs : List ℕ) → Without p bs → Without p (reverse bs)
  reverse_lacks [] h = tt
  reverse_lacks (b ∷ bs) h = subst (Without p) (sym (reverse-append (b ∷ []) bs)) (free_append p (reverse bs) (b ∷ []) (reverse_lacks bs h.1) (h.0, tt))

  trimmed_lacks : (bs : List ℕ) → Without p bs → Without p (trimmed bs)
  trimmed_lacks bs h = reverse_lacks _ (unblanked_lacks _ (reverse_lacks _ (unblanked_lacks bs h)))

  -- what is cut off before the first stop has none
  upto_stops : (bs : List ℕ) → Without p (upto p bs)
  unfolding upto
  upto_stops [] = tt
  upto_stops (b ∷ bs) = cond_both (p b) [] (b ∷ upto p bs) (Without p) (λ e. tt) (λ e. (e, upto_stops bs))

-- a line that begins with no blank
abbrev Starts : List ℕ → Type 0
Starts [] = Unit {0}
Starts (b ∷ bs) = blank b ≡ false

starts_unblanked : (bs : List ℕ) → Starts (unblanked bs)
unfolding unblanked
starts_unblanked [] = tt
starts_unblanked (b ∷ bs) = cond_both (blank b) (unblanked bs) (b ∷ bs) Starts (λ e. starts_unblanked bs) (λ e. e)

starts_stays : (bs : List ℕ) → Starts bs → unblanked bs ≡ bs
unfolding unblanked
starts_stays [] h = refl
starts_stays (b ∷ bs) h = rw h refl

starts_front : (xs ys : List ℕ) → Starts (xs ++ ys) → Starts xs
starts_front [] ys h = tt
starts_front (x ∷ xs) ys h = h

-- and still does when blanks are taken from its end
starts_back : (bs : List ℕ) → Starts (reverse bs) → Starts (reverse (unblanked bs))
unfolding unblanked
starts_back [] h = h
starts_back (b ∷ bs) h =
    cond_both (blank b) (unblanked bs) (b ∷ bs) (λ l. Starts (reverse l)) (λ e. starts_back bs (starts_front (reverse bs) (b ∷ []) (subst Starts (reverse-append (b ∷ []) bs) h))) (λ e. h)

-- a line without blanks at its ends has none to take away
trimmed_twice : (bs : List ℕ) → trimmed (trimmed bs) ≡ trimmed bs
trimmed_twice bs =
    let u = unblanked bs in
    let v = unblanked (reverse u) in
    ap (λ l. reverse (unblanked (reverse l))) (starts_stays (reverse v) (starts_back (reverse u) (subst Starts (sym (reverse-reverse u)) (starts_unblanked bs)))) ∙
    ap (λ l. reverse (unblanked l)) (reverse-reverse v) ∙
    ap reverse (starts_stays v (starts_unblanked (reverse u)))

starts_some : (bs : List ℕ) → Starts bs → 0 < length bs → 0 < length (upto blank bs)
unfolding upto
starts_some [] h some = some
starts_some (b ∷ bs) h some = rw h (omega arith)

word_proper : (line : List ℕ) → Fit line → IfSome (next_word line) (λ p. ProperWord p.0 × Fit p.1)
word_proper line fit =
    let l = unblanked line in
    let h = unblanked_lacks hash line fit.0 in
    let e = unblanked_lacks line_end line fit.1 in
    cond_both (eqb (length l) 0) None (Some (upto blank l, beyond blank l)) (λ o. IfSome o (λ p. ProperWord p.0 × Fit p.1)) (λ _. tt) (λ long. (
      record { some = starts_some l (starts_unblanked line) (positive (length l) (eqb-false (length l) 0 long)); no_blank = upto_stops blank l; no_hash = upto_lacks hash blank l h; no_end = upto_lacks line_end blank l e },
      (beyond_lacks hash blank l h, beyond_lacks line_end blank l e),
    ))
  where
    positive : (n : ℕ) → (n ≡ 0 → ⊥) → 0 < n
    positive n h = omega (arith, h)

-- a word and the rest of a line
abbrev WordTaken : List ℕ × List ℕ → Type 0
WordTaken p = ProperWord p.0 × Fit p.1

-- a figure and the rest of a line
abbrev FigureTaken : ℕ × List ℕ → Type 0
FigureTaken p = Number32 p.0 × Fit p.1

take_word_has : (line : List ℕ) → Fit line → IfOk (take_word line) WordTaken
unfolding take_word
take_word_has line fit = from (next_word line) (word_proper line fit)
  where
    from : (o : Option (List ℕ × List ℕ)) → IfSome o WordTaken → IfOk (ok_or o TooFewWords) WordTaken
    from None h = tt
    from (Some p) h = h

take_figure_has : (f : Figure) (line : List ℕ) → Fit line → IfOk (take_figure f line) FigureTaken
unfolding take_figure
take_figure_has f line fit = made_then WordTaken FigureTaken _ _ (take_word_has line fit) (λ p h. made_then Number32 FigureTaken _ _ (figure_small f p.0) (λ n small. (small, h.1)))

last_word_has : (line : List ℕ) → Fit line → IfOk (last_word line) ProperWord
unfolding last_word
last_word_has line fit = made_then WordTaken ProperWord _ _ (take_word_has line fit) (λ p h. made_then (λ _. Unit {0}) ProperWord _ _ (anything (no_more p.1)) (λ _ _. h.0))

last_figure_has : (f : Figure) (line : List ℕ) → Fit line → IfOk (last_figure f line) Number32
unfolding last_figure
last_figure_has f line fit = made_then FigureTaken Number32 _ _ (take_figure_has f line fit) (λ p h. made_then (λ _. Unit {0}) Number32 _ _ (anything (no_more p.1)) (λ _ _. h.0))

label_has : (line : List ℕ) → Fit line → IfOk (label_after line) Proper
unfolding label_after
label_has line fit = from (trimmed line) (trimmed_twice line) (trimmed_lacks hash line fit.0) (trimmed_lacks line_end line fit.1)
  where
    from : (t : List ℕ) → trimmed t ≡ t → Without hash t → Without line_end t → IfOk (label_saying t) Proper
    from [] e h l = tt
    from (b ∷ bs) e h l = record { some = omega arith; no_hash = h; no_end = l; trim = e }

open_has : (line : List ℕ) → Fit line → IfOk (open_after line) Proper
unfolding open_after
open_has line fit = made_then Number32 Proper _ _ (last_figure_has Number line fit) (λ y h. h)

enrol_has : (line : List ℕ) → Fit line → IfOk (enrol_after line) Proper
unfolding enrol_after
enrol_has line fit =
    made_then FigureTaken Proper _ _ (take_figure_has Moment line fit) (λ m h.
    made_then FigureTaken Proper _ _ (take_figure_has Kind m.1 h.1) (λ k i.
    made_then Number32 Proper _ _ (last_figure_has Number k.1 i.1) (λ kw j. (h.0, i.0, j))))

nominate_has : (line : List ℕ) → Fit line → IfOk (nominate_after line) Proper
unfolding nominate_after
nominate_has line fit =
    made_then FigureTaken Proper _ _ (take_figure_has Moment line fit) (λ m h.
    made_then FigureTaken Proper _ _ (take_figure_has Number m.1 h.1) (λ s i.
    made_then FigureTaken Proper _ _ (take_figure_has Number s.1 i.1) (λ w j.
    made_then Number32 Proper _ _ (last_figure_has Number w.1 j.1) (λ kw k. (h.0, i.0, j.0, k)))))

announce_has : (line : List ℕ) → Fit line → IfOk (announce_after line) Proper
unfolding announce_after
announce_has line fit =
    made_then FigureTaken Proper _ _ (take_figure_has Moment line fit) (λ m h.
    made_then FigureTaken Proper _ _ (take_figure_has Number m.1 h.1) (λ s i.
    made_then Number32 Proper _ _ (last_figure_has Number s.1 i.1) (λ n j. (h.0, i.0, j))))

revoke_has : (line : List ℕ) → Fit line → IfOk (revoke_after line) Proper
unfolding revoke_after
revoke_has line fit = made_then Number32 Proper _ _ (last_figure_has Moment line fit) (λ m h. h)

close_has : (line : List ℕ) → IfOk (close_after line) Proper
unfolding close_after
close_has line = made_then (λ _. Unit {0}) Proper _ _ (anything (no_more line)) (λ _ _. tt)

form_has : (name : List ℕ) (form : MeterForm) (line : List ℕ) → ProperWord name → Fit line → IfOk (form_after name form line) Proper
unfolding table_after pair_after
form_has name (Table kind) line g fit =
    made_then FigureTaken Proper _ _ (take_figure_has Number line fit) (λ n h.
    made_then ProperWord Proper _ _ (last_word_has n.1 h.1) (λ file i. (g, h.0, i)))
form_has name Pair line g fit =
    made_then WordTaken Proper _ _ (take_word_has line fit) (λ a h.
    made_then ProperWord Proper _ _ (last_word_has a.1 h.1) (λ b i. (g, h.0, i)))

meter_has : (line : List ℕ) → Fit line → IfOk (meter_after line) Proper
unfolding meter_after
meter_has line fit =
    made_then WordTaken Proper _ _ (take_word_has line fit) (λ name g.
    made_then WordTaken Proper _ _ (take_word_has name.1 g.1) (λ w h.
    made_then (λ _. Unit {0}) Proper _ _ (anything (meter_form_of w.0)) (λ form _. form_has name.0 form w.1 g.0 h.1)))

statement_has : (line : List ℕ) → Fit line → IfOk (statement_after line) Proper
unfolding statement_after
statement_has line fit =
    made_then FigureTaken Proper _ _ (take_figure_has Number line fit) (λ s h.
    made_then ProperWord Proper _ _ (last_word_has s.1 h.1) (λ n i. (h.0, i)))

compare_has : (line : List ℕ) → Fit line → IfOk (compare_after line) Proper
unfolding compare_after
compare_has line fit =
    made_then FigureTaken Proper _ _ (take_figure_has Number line fit) (λ s h.
    made_then WordTaken Proper _ _ (take_word_has s.1 h.1) (λ a i.
    made_then ProperWord Proper _ _ (last_word_has a.1 i.1) (λ b j. (h.0, i.0, j))))

after_has : (k : Keyword) (line : List ℕ) → Fit line → IfOk (entry_after k line) Proper
after_has first.Label line fit = label_has line fit
after_has first.Open line fit = open_has line fit
after_has first.Enrol line fit = enrol_has line fit
after_has first.Nominate line fit = nominate_has line fit
after_has first.Announce line fit = announce_has line fit
after_has first.Revoke line fit = revoke_has line fit
after_has first.Close line fit = close_has line
after_has first.Meter line fit = meter_has line fit
after_has first.Statement line fit = statement_has line fit
after_has first.Compare line fit = compare_has line fit

-- an entry, if there is one, is proper
abbrev IfProper : Option Asked → Type 0
IfProper None = Unit {0}
IfProper (Some a) = Proper a

line_has : (line : List ℕ) → Without line_end line → IfOk (entry_of_line line) IfProper
unfolding entry_of_line
line_has line free = from (next_word l) (word_proper l (upto_stops hash line, upto_lacks line_end hash line free))
  where
    l : List ℕ
    l = upto hash line

    from : (o : Option (List ℕ × List ℕ)) → IfSome o WordTaken → IfOk (entry_from o) IfProper
    from None h = tt
    from (Some p) h = made_then (λ _. Unit {0}) IfProper _ _ (anything (keyword_of p.0)) (λ k _. made_then Proper IfProper (entry_after k p.1) (λ a. Ok (Some a)) (after_has k p.1 h.1) (λ a is. is))

pub read_proper : EntriesReadAreProper
read_proper line a free e = IfOk-at_ok IfProper e (line_has line free)

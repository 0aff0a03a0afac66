-- Written entries read back. Assumes nothing.
use Rattle.std.proofs.Common.{◌≡◌, ℕ, ◌<◌, Bool, true, false, not, ◌&&◌, List, [], ◌∷◌, length, Some, Ok, Result, codes, decimal, sym, refl, ap, ◌∙◌, arith, lit<}
use Rattle.std.proofs.lemmas.Bool.{and_parts, not-true}
use Rattle.std.specs.List.{AllByRecursion}
use Rattle.std.specs.Option.{ok_or}
use Rattle.meter.specs.declared.kind.TableKind.{TableKind}
use Rattle.meter.specs.declared.kind.TableKind.TheVariants.{Hourly, Quarter}
use Rattle.tariff.specs.declared.call.Call.{Call}
use Rattle.tariff.specs.declared.call.Call.TheVariants.{Enrol, Nominate, Announce, Revoke, Close}
use Rattle.text.specs.Pieces.{line_end, hash, blank, unblanked, next_word}
use Rattle.text.proofs.Written.{free_append, upto_free, spares_line_end, spares_hash, spares_blank, free_numeral, numeral_some, number_back, next_word_at, next_word_last}
use Rattle.entries.specs.declared.entry.EntryFault.{EntryFault}
use Rattle.entries.specs.declared.entry.EntryFault.TheVariants.{TooFewWords}
use Rattle.entries.specs.declared.word.Figure.{Figure}
use Rattle.entries.specs.declared.word.Figure.TheVariants.{Number, Moment, Kind}
use Rattle.entries.specs.declared.word.Keyword.{Keyword}
use Rattle.entries.specs.declared.word.Keyword.TheVariants as first
use Rattle.entries.specs.declared.word.MeterForm.TheVariants.{Table, Pair}
use Rattle.entries.specs.Asked.{Asked, asks_label, asks_open, asks_call, asks_table, asks_pair, asks_statement, asks_compare}
use Rattle.entries.specs.Reading.{label_saying, label_after, open_after, enrol_after, nominate_after, announce_after, revoke_after, close_after, table_after, pair_after, meter_after, statement_after, compare_after, entry_after, entry_from, entry_of_line}
use Rattle.text.specs.Going.{then}
use Rattle.entries.specs.Taking.{take_word, take_figure, no_more, last_word, last_figure}
use Rattle.entries.specs.Words.{figure_from, figure_of, keyword_of, meter_form_of}
use Rattle.entries.specs.Written.{spaced, call_words, kind_word, entry_words, entry_text, Without, Number32, ProperWord, ProperText, ProperCall, Proper, WrittenEntriesReadBack, WrittenEntriesAreOneLine}

-- a step that read something, and what is made of it
went : {X Y : Type 0} {r : Result X EntryFault} {x : X} {y : Result Y EntryFault} (go : X → Result Y EntryFault) → Ok x ≡ r → y ≡ go x → y ≡ then r go
went go e h = h ∙ ap (λ s. then s go) e

-- no byte of a word of the language passes the test, as a test of its own
abbrev none : (ℕ → Bool) → List ℕ → Bool
none p [] = true
none p (b ∷ bs) = not (p b) && none p bs

without_by : (p : ℕ → Bool) (bs : List ℕ) → none p bs ≡ true → Without p bs
without_by p [] e = tt
without_by p (b ∷ bs) e = let both = and_parts (not (p b)) (none p bs) e in (not-true (p b) both.0, without_by p bs both.1)

-- a word that is written out
plain : (w : List ℕ) → 0 < length w → none blank w ≡ true → none hash w ≡ true → none line_end w ≡ true → ProperWord w
plain w some b h l = record { some = some; no_blank = without_by blank w b; no_hash = without_by hash w h; no_end = without_by line_end w l }

-- a numeral is a proper word
numeral : (n : ℕ) → Number32 n → ProperWord (decimal n)
numeral n h = record { some = numeral_some n h; no_blank = free_numeral n h blank spares_blank; no_hash = free_numeral n h hash spares_hash; no_end = free_numeral n h line_end spares_line_end }

-- words with a space between two of them lack what each of them lacks
without_spaced : (p : ℕ → Bool) → p 32 ≡ false → (ws : List (List ℕ)) → AllByRecursion (Without p) ws → Without p (spaced ws)
without_spaced p e [] h = tt
without_spaced p e (w ∷ []) h = h.0
without_spaced p e (w ∷ v ∷ vs) h = free_append p w (32 ∷ spaced (v ∷ vs)) h.0 (e, without_spaced p e (v ∷ vs) h.1)

next_spaced : (w : List ℕ) (vs : List (List ℕ)) → ProperWord w → next_word (spaced (w ∷ vs)) ≡ Some (w, spaced vs)
next_spaced w [] h = next_word_last w h.no_blank h.some
next_spaced w (v ∷ vs) h = next_word_at w 32 (spaced (v ∷ vs)) h.no_blank h.some refl

word_taken : (w : List ℕ) (vs : List (List ℕ)) → ProperWord w → Ok (w, spaced vs) ≡ take_word (spaced (w ∷ vs))
unfolding take_word
word_taken w vs h = sym (ap (λ o. ok_or o TooFewWords) (next_spaced w vs h))

figure_back : (f : Figure) (n : ℕ) → Number32 n → Ok n ≡ figure_of f (decimal n)
unfolding figure_of
figure_back f n h = sym (ap (figure_from f (decimal n)) (number_back n h))

figure_taken : (f : Figure) (n : ℕ) (vs : List (List ℕ)) → Number32 n → Ok (n, spaced vs) ≡ take_figure f (spaced (decimal n ∷ vs))
unfolding take_figure
figure_taken f n vs h = went _ (word_taken (decimal n) vs (numeral n h)) (went _ (figure_back f n h) refl)

none_left : Ok tt ≡ no_more []
unfolding no_more unblanked
none_left = refl

word_last : (w : List ℕ) → ProperWord w → Ok w ≡ last_word w
unfolding last_word
word_last w h = went _ (word_taken w [] h) (went _ none_left refl)

figure_last : (f : Figure) (n : ℕ) → Number32 n → Ok n ≡ last_figure f (decimal n)
unfolding last_figure
figure_last f n h = went _ (figure_taken f n [] h) (went _ none_left refl)

label_back : (t : List ℕ) → ProperText t → Ok (asks_label t) ≡ label_after t
unfolding label_after
label_back [] h = absurd (omega (arith, h.some))
label_back (b ∷ bs) h = sym (ap label_saying h.trim)

open_back : (y : ℕ) → Number32 y → Ok (asks_open y) ≡ open_after (decimal y)
unfolding open_after
open_back y h = went _ (figure_last Number y h) refl

enrol_back : (m k kw : ℕ) → Number32 m → Number32 k → Number32 kw → Ok (asks_call (Enrol m k kw)) ≡ enrol_after (spaced (decimal m ∷ decimal k ∷ decimal kw ∷ []))
unfolding enrol_after
enrol_back m k kw h i j = went _ (figure_taken Moment m (decimal k ∷ decimal kw ∷ []) h) (went _ (figure_taken Kind k (decimal kw ∷ []) i) (went _ (figure_last Number kw j) refl))

nominate_back : (m s w kw : ℕ) → Number32 m → Number32 s → Number32 w → Number32 kw → Ok (asks_call (Nominate m s w kw)) ≡ nominate_after (spaced (decimal m ∷ decimal s ∷ decimal w ∷ decimal kw ∷ []))
unfolding nominate_after
nominate_back m s w kw h i j k =
    went _ (figure_taken Moment m (decimal s ∷ decimal w ∷ decimal kw ∷ []) h) (went _ (figure_taken Number s (decimal w ∷ decimal kw ∷ []) i) (went _ (figure_taken Number w (decimal kw ∷ []) j) (went _ (figure_last Number kw k) refl)))

announce_back : (m s n : ℕ) → Number32 m → Number32 s → Number32 n → Ok (asks_call (Announce m s n)) ≡ announce_after (spaced (decimal m ∷ decimal s ∷ decimal n ∷ []))
unfolding announce_after
announce_back m s n h i j = went _ (figure_taken Moment m (decimal s ∷ decimal n ∷ []) h) (went _ (figure_taken Number s (decimal n ∷ []) i) (went _ (figure_last Number n j) refl))

revoke_back : (m : ℕ) → Number32 m → Ok (asks_call (Revoke m)) ≡ revoke_after (decimal m)
unfolding revoke_after
revoke_back m h = went _ (figure_last Moment m h) refl

close_back : Ok (asks_call Close) ≡ close_after []
unfolding close_after
close_back = went _ none_left refl

table_back : (n : List ℕ) (k : TableKind) (m : ℕ) (f : List ℕ) → Number32 m → ProperWord f → Ok (asks_table n k m f) ≡ table_after n k (spaced (decimal m ∷ f ∷ []))
unfolding table_after
table_back n k m f h i = went _ (figure_taken Number m (f ∷ []) h) (went _ (word_last f i) refl)

pair_back : (n a b : List ℕ) → ProperWord a → ProperWord b → Ok (asks_pair n a b) ≡ pair_after n (spaced (a ∷ b ∷ []))
unfolding pair_after
pair_back n a b h i = went _ (word_taken a (b ∷ []) h) (went _ (word_last b i) refl)

pair_word : ProperWord (codes "pair")
pair_word = plain (codes "pair") (lit< tt) refl refl refl

kind_proper : (k : TableKind) → ProperWord (kind_word k)
kind_proper Hourly = plain (codes "hourly") (lit< tt) refl refl refl
kind_proper Quarter = plain (codes "quarter") (lit< tt) refl refl refl

kind_back : (k : TableKind) → Ok (Table k) ≡ meter_form_of (kind_word k)
unfolding meter_form_of
kind_back Hourly = refl
kind_back Quarter = refl

pair_form : Ok Pair ≡ meter_form_of (codes "pair")
unfolding meter_form_of
pair_form = refl

meter_table_back : (n : List ℕ) (k : TableKind) (m : ℕ) (f : List ℕ) → ProperWord n → Number32 m → ProperWord f → Ok (asks_table n k m f) ≡ meter_after (spaced (n ∷ kind_word k ∷ decimal m ∷ f ∷ []))
unfolding meter_after
meter_table_back n k m f g h i = went _ (word_taken n (kind_word k ∷ decimal m ∷ f ∷ []) g) (went _ (word_taken (kind_word k) (decimal m ∷ f ∷ []) (kind_proper k)) (went _ (kind_back k) (table_back n k m f h i)))

meter_pair_back : (n a b : List ℕ) → ProperWord n → ProperWord a → ProperWord b → Ok (asks_pair n a b) ≡ meter_after (spaced (n ∷ codes "pair" ∷ a ∷ b ∷ []))
unfolding meter_after
meter_pair_back n a b g h i = went _ (word_taken n (codes "pair" ∷ a ∷ b ∷ []) g) (went _ (word_taken (codes "pair") (a ∷ b ∷ []) pair_word) (went _ pair_form (pair_back n a b h i)))

statement_back : (s : ℕ) (n : List ℕ) → Number32 s → ProperWord n → Ok (asks_statement s n) ≡ statement_after (spaced (decimal s ∷ n ∷ []))
unfolding statement_after
statement_back s n h i = went _ (figure_taken Number s (n ∷ []) h) (went _ (word_last n i) refl)

compare_back : (s : ℕ) (a b : List ℕ) → Number32 s → ProperWord a → ProperWord b → Ok (asks_compare s a b) ≡ compare_after (spaced (decimal s ∷ a ∷ b ∷ []))
unfolding compare_after
compare_back s a b h i j = went _ (figure_taken Number s (a ∷ b ∷ []) h) (went _ (word_taken a (b ∷ []) i) (went _ (word_last b j) refl))

-- what a line may hold before its comment and its end
abbrev pub Fit : List ℕ → Type 0
Fit w = Without hash w × Without line_end w

fit_plain : (w : List ℕ) → none hash w ≡ true → none line_end w ≡ true → Fit w
fit_plain w h e = (without_by hash w h, without_by line_end w e)

fit_word : {w : List ℕ} → ProperWord w → Fit w
fit_word h = (h.no_hash, h.no_end)

fit_number : (n : ℕ) → Number32 n → Fit (decimal n)
fit_number n h = fit_word (numeral n h)

call_fit : (c : Call) → ProperCall c → AllByRecursion Fit (call_words c)
call_fit (Enrol m k kw) (h, i, j) = (fit_plain (codes "enrol") refl refl, (fit_number m h, (fit_number k i, (fit_number kw j, tt))))
call_fit (Nominate m s w kw) (h, i, j, k) = (fit_plain (codes "nominate") refl refl, (fit_number m h, (fit_number s i, (fit_number w j, (fit_number kw k, tt)))))
call_fit (Announce m s n) (h, i, j) = (fit_plain (codes "announce") refl refl, (fit_number m h, (fit_number s i, (fit_number n j, tt))))
call_fit (Revoke m) h = (fit_plain (codes "revoke") refl refl, (fit_number m h, tt))
call_fit Close h = (fit_plain (codes "close") refl refl, tt)

words_fit : (a : Asked) → Proper a → AllByRecursion Fit (entry_words a)
words_fit (asks_label t) h = (fit_plain (codes "label") refl refl, ((h.no_hash, h.no_end), tt))
words_fit (asks_open y) h = (fit_plain (codes "open") refl refl, (fit_number y h, tt))
words_fit (asks_call c) h = call_fit c h
words_fit (asks_table n k m f) (g, h, i) = (fit_plain (codes "meter") refl refl, (fit_word g, (fit_word (kind_proper k), (fit_number m h, (fit_word i, tt)))))
words_fit (asks_pair n a b) (g, h, i) = (fit_plain (codes "meter") refl refl, (fit_word g, (fit_word pair_word, (fit_word h, (fit_word i, tt)))))
words_fit (asks_statement s n) (h, i) = (fit_plain (codes "statement") refl refl, (fit_number s h, (fit_word i, tt)))
words_fit (asks_compare s a b) (h, i, j) = (fit_plain (codes "compare") refl refl, (fit_number s h, (fit_word i, (fit_word j, tt))))

hashless : (ws : List (List ℕ)) → AllByRecursion Fit ws → AllByRecursion (Without hash) ws
hashless [] h = tt
hashless (w ∷ ws) h = (h.0.0, hashless ws h.1)

endless : (ws : List (List ℕ)) → AllByRecursion Fit ws → AllByRecursion (Without line_end) ws
endless [] h = tt
endless (w ∷ ws) h = (h.0.1, endless ws h.1)

-- an entry is written in one line
pub one_line : WrittenEntriesAreOneLine
one_line a h = without_spaced line_end refl (entry_words a) (endless (entry_words a) (words_fit a h))

-- words of which the first makes an entry of the others
abbrev Makes : Asked → List (List ℕ) → Type 0
Makes a ws = entry_from (next_word (spaced ws)) ≡ Ok (Some a)

-- such a first word, before what it makes the entry of
makes : (w : List ℕ) (k : Keyword) (vs : List (List ℕ)) {a : Asked} → ProperWord w → Ok k ≡ keyword_of w → Ok a ≡ entry_after k (spaced vs) → Makes a (w ∷ vs)
makes w k vs proper e h = ap entry_from (next_spaced w vs proper) ∙ sym (went _ e (went _ h refl))

call_makes : (c : Call) → ProperCall c → Makes (asks_call c) (call_words c)
unfolding keyword_of
call_makes (Enrol m k kw) (h, i, j) = makes (codes "enrol") first.Enrol (decimal m ∷ decimal k ∷ decimal kw ∷ []) (plain _ (lit< tt) refl refl refl) refl (enrol_back m k kw h i j)
call_makes (Nominate m s w kw) (h, i, j, k) = makes (codes "nominate") first.Nominate (decimal m ∷ decimal s ∷ decimal w ∷ decimal kw ∷ []) (plain _ (lit< tt) refl refl refl) refl (nominate_back m s w kw h i j k)
call_makes (Announce m s n) (h, i, j) = makes (codes "announce") first.Announce (decimal m ∷ decimal s ∷ decimal n ∷ []) (plain _ (lit< tt) refl refl refl) refl (announce_back m s n h i j)
call_makes (Revoke m) h = makes (codes "revoke") first.Revoke (decimal m ∷ []) (plain _ (lit< tt) refl refl refl) refl (revoke_back m h)
call_makes Close h = makes (codes "close") first.Close [] (plain _ (lit< tt) refl refl refl) refl close_back

entry_makes : (a : Asked) → Proper a → Makes a (entry_words a)
unfolding keyword_of
entry_makes (asks_label t) h = makes (codes "label") first.Label (t ∷ []) (plain _ (lit< tt) refl refl refl) refl (label_back t h)
entry_makes (asks_open y) h = makes (codes "open") first.Open (decimal y ∷ []) (plain _ (lit< tt) refl refl refl) refl (open_back y h)
entry_makes (asks_call c) h = call_makes c h
entry_makes (asks_table n k m f) (g, h, i) = makes (codes "meter") first.Meter (n ∷ kind_word k ∷ decimal m ∷ f ∷ []) (plain _ (lit< tt) refl refl refl) refl (meter_table_back n k m f g h i)
entry_makes (asks_pair n a b) (g, h, i) = makes (codes "meter") first.Meter (n ∷ codes "pair" ∷ a ∷ b ∷ []) (plain _ (lit< tt) refl refl refl) refl (meter_pair_back n a b g h i)
entry_makes (asks_statement s n) (h, i) = makes (codes "statement") first.Statement (decimal s ∷ n ∷ []) (plain _ (lit< tt) refl refl refl) refl (statement_back s n h i)
entry_makes (asks_compare s a b) (h, i, j) = makes (codes "compare") first.Compare (decimal s ∷ a ∷ b ∷ []) (plain _ (lit< tt) refl refl refl) refl (compare_back s a b h i j)

pub read_back : WrittenEntriesReadBack
unfolding entry_of_line
read_back a h =
    let whole = upto_free hash (entry_text a) (without_spaced hash refl (entry_words a) (hashless (entry_words a) (words_fit a h))) in
    ap (λ l. entry_from (next_word l)) whole ∙ entry_makes a h

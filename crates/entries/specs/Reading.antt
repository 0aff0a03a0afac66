-- A line of a batch read as an entry: its words from left to right, and the first fault decides. Assumes nothing.
use Rattle.std.specs.Prelude.{ℕ, List, [], ◌∷◌, Some, None, Ok, Err, Option, Result}
use Rattle.meter.specs.declared.kind.TableKind.{TableKind}
use Rattle.tariff.specs.declared.call.Call.TheVariants.{Enrol, Nominate, Announce, Revoke, Close}
use Rattle.text.specs.Pieces.{hash, upto, trimmed, next_word}
use Rattle.entries.specs.declared.entry.EntryFault.{EntryFault}
use Rattle.entries.specs.declared.entry.EntryFault.TheVariants.{TooFewWords}
use Rattle.entries.specs.declared.word.Keyword.{Keyword}
use Rattle.entries.specs.declared.word.Keyword.TheVariants as first
use Rattle.entries.specs.declared.word.MeterForm.{MeterForm}
use Rattle.entries.specs.declared.word.MeterForm.TheVariants.{Table, Pair}
use Rattle.entries.specs.declared.word.Figure.TheVariants.{Number, Moment, Kind}
use Rattle.entries.specs.Asked.{Asked, asks_label, asks_open, asks_call, asks_table, asks_pair, asks_statement, asks_compare}
use Rattle.text.specs.Going.{then}
use Rattle.entries.specs.Taking.{take_word, take_figure, no_more, last_word, last_figure}
use Rattle.entries.specs.Words.{keyword_of, meter_form_of}

-- a label has a text
abbrev pub label_saying : List ℕ → Result Asked EntryFault
label_saying [] = Err TooFewWords
label_saying (b ∷ bs) = Ok (asks_label (b ∷ bs))

-- label TEXT: the rest of the line without the blanks at its ends
unfoldable pub label_after : List ℕ → Result Asked EntryFault
label_after line = label_saying (trimmed line)

-- open YEAR
unfoldable pub open_after : List ℕ → Result Asked EntryFault
open_after line = then (last_figure Number line) (λ year. Ok (asks_open year))

-- enrol MOMENT KIND KW
unfoldable pub enrol_after : List ℕ → Result Asked EntryFault
enrol_after line =
    then (take_figure Moment line) (λ m.
    then (take_figure Kind m.1) (λ k.
    then (last_figure Number k.1) (λ kw. Ok (asks_call (Enrol m.0 k.0 kw)))))

-- nominate MOMENT SITE WEEK KW
unfoldable pub nominate_after : List ℕ → Result Asked EntryFault
nominate_after line =
    then (take_figure Moment line) (λ m.
    then (take_figure Number m.1) (λ s.
    then (take_figure Number s.1) (λ w.
    then (last_figure Number w.1) (λ kw. Ok (asks_call (Nominate m.0 s.0 w.0 kw))))))

-- announce MOMENT START LENGTH
unfoldable pub announce_after : List ℕ → Result Asked EntryFault
announce_after line =
    then (take_figure Moment line) (λ m.
    then (take_figure Number m.1) (λ s.
    then (last_figure Number s.1) (λ long. Ok (asks_call (Announce m.0 s.0 long)))))

-- revoke MOMENT
unfoldable pub revoke_after : List ℕ → Result Asked EntryFault
revoke_after line = then (last_figure Moment line) (λ m. Ok (asks_call (Revoke m)))

-- close
unfoldable pub close_after : List ℕ → Result Asked EntryFault
close_after line = then (no_more line) (λ _. Ok (asks_call Close))

-- NUMBER FILE, of a meter that is a table
unfoldable pub table_after : List ℕ → TableKind → List ℕ → Result Asked EntryFault
table_after name kind line =
    then (take_figure Number line) (λ n.
    then (last_word n.1) (λ file. Ok (asks_table name kind n.0 file)))

-- NAME NAME, of a meter that is a pair
unfoldable pub pair_after : List ℕ → List ℕ → Result Asked EntryFault
pair_after name line =
    then (take_word line) (λ a.
    then (last_word a.1) (λ b. Ok (asks_pair name a.0 b)))

-- what follows a meter's name and form
abbrev pub form_after : List ℕ → MeterForm → List ℕ → Result Asked EntryFault
form_after name (Table kind) line = table_after name kind line
form_after name Pair line = pair_after name line

-- meter NAME hourly NUMBER FILE, meter NAME quarter NUMBER FILE, or meter NAME pair NAME NAME
unfoldable pub meter_after : List ℕ → Result Asked EntryFault
meter_after line =
    then (take_word line) (λ name.
    then (take_word name.1) (λ w.
    then (meter_form_of w.0) (λ form. form_after name.0 form w.1)))

-- statement SITE NAME
unfoldable pub statement_after : List ℕ → Result Asked EntryFault
statement_after line =
    then (take_figure Number line) (λ s.
    then (last_word s.1) (λ name. Ok (asks_statement s.0 name)))

-- compare SITE NAME NAME
unfoldable pub compare_after : List ℕ → Result Asked EntryFault
compare_after line =
    then (take_figure Number line) (λ s.
    then (take_word s.1) (λ a.
    then (last_word a.1) (λ b. Ok (asks_compare s.0 a.0 b))))

-- what follows an entry's first word
abbrev pub entry_after : Keyword → List ℕ → Result Asked EntryFault
entry_after first.Label line = label_after line
entry_after first.Open line = open_after line
entry_after first.Enrol line = enrol_after line
entry_after first.Nominate line = nominate_after line
entry_after first.Announce line = announce_after line
entry_after first.Revoke line = revoke_after line
entry_after first.Close line = close_after line
entry_after first.Meter line = meter_after line
entry_after first.Statement line = statement_after line
entry_after first.Compare line = compare_after line

-- an entry by its first word and what follows it; none without a word
abbrev pub entry_from : Option (List ℕ × List ℕ) → Result (Option Asked) EntryFault
entry_from None = Ok None
entry_from (Some p) = then (keyword_of p.0) (λ k. then (entry_after k p.1) (λ e. Ok (Some e)))

-- a line as an entry; none where it has no word before its comment
unfoldable pub entry_of_line : List ℕ → Result (Option Asked) EntryFault
entry_of_line line = entry_from (next_word (upto hash line))

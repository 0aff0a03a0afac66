-- What single words of an entry say. Assumes nothing.
use Rattle.std.specs.Prelude.{ℕ, cond, List, [], ◌∷◌, Ok, Err, codes, Result}
use Rattle.std.specs.Str.{bytes_eq}
use Rattle.std.specs.Option.{ok_or}
use Rattle.meter.specs.declared.kind.TableKind.TheVariants.{Hourly, Quarter}
use Rattle.text.specs.declared.number.NumberFault.{NumberFault}
use Rattle.text.specs.declared.number.NumberFault.TheVariants.{NoNumber as NoDigits, TooLarge}
use Rattle.text.specs.Numbers.{number_of}
use Rattle.text.specs.Stamps.{stamp_of}
use Rattle.entries.specs.declared.entry.EntryFault.{EntryFault}
use Rattle.entries.specs.declared.entry.EntryFault.TheVariants.{UnknownWord, NoNumber, NumberTooLarge, NoMoment, NoKind}
use Rattle.entries.specs.declared.word.Keyword.{Keyword}
use Rattle.entries.specs.declared.word.Keyword.TheVariants.{Label, Open, Enrol, Nominate, Announce, Revoke, Close, Meter, Statement, Compare}
use Rattle.entries.specs.declared.word.MeterForm.{MeterForm}
use Rattle.entries.specs.declared.word.MeterForm.TheVariants.{Table, Pair}
use Rattle.entries.specs.declared.word.Figure.{Figure}
use Rattle.entries.specs.declared.word.Figure.TheVariants.{Number, Moment, Kind}

-- what a word says, by a list of words and their meanings; the fault where it stands not there
abbrev pub meaning : {X : Type 0} → EntryFault → List (List ℕ × X) → List ℕ → Result X EntryFault
meaning fault [] w = Err fault
meaning fault (p ∷ ps) w = cond (bytes_eq w p.0) (Ok p.1) (meaning fault ps w)

-- the words with which entries begin
abbrev pub keywords : List (List ℕ × Keyword)
keywords =
    (codes "label", Label) ∷
    (codes "open", Open) ∷
    (codes "enrol", Enrol) ∷
    (codes "nominate", Nominate) ∷
    (codes "announce", Announce) ∷
    (codes "revoke", Revoke) ∷
    (codes "close", Close) ∷
    (codes "meter", Meter) ∷
    (codes "statement", Statement) ∷
    (codes "compare", Compare) ∷ []

-- the first word of an entry
unfoldable pub keyword_of : List ℕ → Result Keyword EntryFault
keyword_of w = meaning UnknownWord keywords w

-- the words for what a meter is made of
abbrev pub meter_forms : List (List ℕ × MeterForm)
meter_forms = (codes "hourly", Table Hourly) ∷ (codes "quarter", Table Quarter) ∷ (codes "pair", Pair) ∷ []

-- the word after a meter's name
unfoldable pub meter_form_of : List ℕ → Result MeterForm EntryFault
meter_form_of w = meaning UnknownWord meter_forms w

-- the kinds of sites, by name
abbrev pub kinds : List (List ℕ × ℕ)
kinds = (codes "single", 0) ∷ (codes "aggregated", 1) ∷ []

-- the number of a kind of sites that goes by a name
unfoldable pub kind_named : List ℕ → Result ℕ EntryFault
kind_named w = meaning NoKind kinds w

-- a word that is no number, as a figure: a stamp is a moment, and a name is a kind
abbrev pub other_figure : Figure → List ℕ → Result ℕ EntryFault
other_figure Number w = Err NoNumber
other_figure Moment w = ok_or (stamp_of w) NoMoment
other_figure Kind w = kind_named w

-- a number as it stands, or else what the word says for such a figure
abbrev pub figure_from : Figure → List ℕ → Result ℕ NumberFault → Result ℕ EntryFault
figure_from f w (Ok n) = Ok n
figure_from f w (Err TooLarge) = Err NumberTooLarge
figure_from f w (Err NoDigits) = other_figure f w

-- a word as a figure
unfoldable pub figure_of : Figure → List ℕ → Result ℕ EntryFault
figure_of f w = figure_from f w (number_of w)

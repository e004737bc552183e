-- What the lines of a script mean, one by one.
use Rattle.std.specs.Prelude.{ℕ, Bool, false, if◌then◌else◌, ◌&&◌, List, [], ◌∷◌, length, Some, codes, Option, ◌==◌}
use Rattle.std.specs.Prelude.{nat_le}
use Rattle.std.specs.List.{onto_first}
use Rattle.std.specs.Option.{option_map_or}
use Rattle.machine.specs.declared.call.Call.TheVariants as call
use Rattle.script.specs.declared.heading.Heading.{Heading}
use Rattle.script.specs.declared.item.Item.{Item}
use Rattle.script.specs.declared.item.Item.TheVariants as item
use Rattle.script.specs.declared.heading.ModelKind.{ModelKind}
use Rattle.script.specs.declared.heading.ModelKind.TheVariants.{Switch, Phold}
use Rattle.script.specs.declared.heading.PoolKind.{PoolKind}
use Rattle.script.specs.declared.heading.PoolKind.TheVariants.{Common, Receiver}
use Rattle.script.specs.declared.item.Word.{Word}
use Rattle.script.specs.declared.item.Word.TheVariants.{Place, Post, Absorb, Step, Round, Report, Collect}
use Rattle.script.specs.Fields.{◌>>=◌, ◌<|>◌, provided, rest_after, named, spaced_of, ended, three_of}

-- the lines of a text, each with the line feed that ends it; only the last may lack one
abbrev pub lines_of : List ℕ → List (List ℕ)
lines_of [] = []
lines_of (b ∷ bs) = if b == 10 then (b ∷ []) ∷ lines_of bs else onto_first b (lines_of bs)

-- a line has at most 80 bytes before its line feed
abbrev pub fits_line : List ℕ → Bool
fits_line line = nat_le (length line) 81

-- whether the line is this text; the two texts below are short
abbrev pub is_text : List ℕ → List ℕ → Bool
is_text text line = option_map_or ended (rest_after text line) false

-- the first line
abbrev pub heading_names : List ℕ
heading_names = codes "model size setting pool end cap workers"

-- the third line
abbrev pub call_names : List ℕ
call_names = codes "call a b c"

-- the model's word
abbrev pub model_of : List ℕ → Option (ModelKind × List ℕ)
model_of bs = named (codes "switch") Switch bs <|> named (codes "phold") Phold bs

-- the pool's word, behind one space
abbrev pub pool_of : List ℕ → Option (PoolKind × List ℕ)
pool_of bs = do
  rest ← rest_after (codes " ") bs
  named (codes "common") Common rest <|> named (codes "receiver") Receiver rest

-- the second line: model, size, setting, pool, end, cap and workers
abbrev pub heading_of : List ℕ → Option Heading
heading_of line = do
  l ← provided (fits_line line) line
  m ← model_of l
  s ← spaced_of m.1
  x ← spaced_of s.1
  p ← pool_of x.1
  t ← three_of p.1
  Some record { model = m.0; size = s.0; setting = x.0; pool = p.0; end = t.0; most = t.1; workers = t.2 }

-- the word of a further line
abbrev pub word_of : List ℕ → Option (Word × List ℕ)
word_of bs =
    named (codes "place") Place bs
    <|> named (codes "post") Post bs
    <|> named (codes "absorb") Absorb bs
    <|> named (codes "step") Step bs
    <|> named (codes "round") Round bs
    <|> named (codes "report") Report bs
    <|> named (codes "collect") Collect bs

-- what a word and its three numbers ask for; unused numbers are 0, and a list has at most 64 places
abbrev pub asked_for : Word → ℕ → ℕ → ℕ → Option Item
asked_for Place a b c = provided (c == 0) (item.Place a b)
asked_for Post a b c = Some (item.Make (call.Post a b c))
asked_for Absorb a b c = provided (b == 0 && c == 0) (item.Make (call.Absorb a))
asked_for Step a b c = provided (b == 0 && c == 0) (item.Make (call.Step a))
asked_for Round a b c = provided (a == 0 && (b == 0 && c == 0)) (item.Make call.Round)
asked_for Report a b c = provided (b == 0 && c == 0) (item.Make (call.Report a))
asked_for Collect a b c = provided (nat_le a 64 && (b == 0 && c == 0)) (item.Make (call.Collect a))

-- a further line: a word and three numbers
abbrev pub item_of : List ℕ → Option Item
item_of line = do
  l ← provided (fits_line line) line
  w ← word_of l
  t ← three_of w.1
  asked_for w.0 t.0 t.1 t.2

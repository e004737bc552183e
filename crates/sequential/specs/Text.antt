-- How a line is written.
use Rattle.std.specs.Prelude.{ℕ, List, [], ◌∷◌, ◌++◌, codes, decimal}
use Rattle.std.specs.List.{flat_map}
use Rattle.sequential.specs.declared.event.Line.{Line}
use Rattle.sequential.specs.Events.{layer_of, code_of}

-- the names of a line's fields
abbrev pub field_names : List ℕ
field_names = codes "time process sender number payload layer code w0 w1 w2 w3\n"

-- figures in base ten, each behind one space (32), ended by a line feed (10)
abbrev pub spaced : List ℕ → List ℕ
spaced [] = 10 ∷ []
spaced (n ∷ ns) = (32 ∷ decimal n) ++ spaced ns

-- a line's fields behind its time, in order
abbrev pub fields : Line → List ℕ
fields l =
    l.event.process ∷ l.event.sender ∷ l.event.number ∷ l.event.payload
    ∷ layer_of l.verdict ∷ code_of l.verdict
    ∷ l.state.w0 ∷ l.state.w1 ∷ l.state.w2 ∷ l.state.w3 ∷ []

-- a line: its time, and its other fields, with one space between them, ended by a line feed
abbrev pub line_text : Line → List ℕ
line_text l = decimal l.event.time ++ spaced (fields l)

-- a figure in base ten behind one space
abbrev pub behind : ℕ → List ℕ
behind n = 32 ∷ decimal n

-- a line without its line feed
abbrev pub line_row : Line → List ℕ
line_row l = decimal l.event.time ++ flat_map behind (fields l)

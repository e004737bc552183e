-- What the bytes of a script mean.
use Rattle.std.specs.Prelude.{ℕ, ◌+◌, Bool, true, false, if◌then◌else◌, not, ◌||◌, List, [], ◌∷◌, ◌++◌, drop, Some}
use Rattle.std.specs.Prelude.{None, vec_items, Option, slice_index_or}
use Rattle.std.specs.Option.{option_map_or}
use Rattle.script.specs.declared.heading.Heading.{Heading}
use Rattle.script.specs.declared.item.Item.{Item}
use Rattle.script.specs.declared.item.Item.TheVariants.{Place, Make}
use Rattle.script.specs.declared.read.Script.{Script}
use Rattle.script.specs.Fields.{◌>>=◌, provided}
use Rattle.script.specs.Lines.{lines_of, is_text, heading_names, heading_of, call_names, item_of}

-- the heading, what the right lines ask for, and the number of the first wrong or missing line
pub record Reading : Type 0 where
  pub heading : Option Heading
  pub items : List Item
  pub bad : Option ℕ

-- what a script read means
abbrev pub meaning : Script → Reading
meaning s = record { heading = s.heading; items = vec_items s.items; bad = s.bad }

-- whether a call is made
abbrev pub is_call : Item → Bool
is_call (Place p w) = false
is_call (Make c) = true

-- a further line, by whether the line before it makes a call: no process is placed behind a call
abbrev pub next_of : Bool → List ℕ → Option Item
next_of begun line = item_of line >>= (λ i. provided (is_call i || not begun) i)

-- a wrong n-th line, with the items before it
abbrev pub stops_at : ℕ → Option Heading → List Item → Reading
stops_at n heading items = record { heading = heading; items = items; bad = Some n }

-- what the lines from the n-th on ask for, behind the items so far
abbrev pub items_from : Heading → List Item → Bool → ℕ → List (List ℕ) → Reading
items_from h xs begun n [] = record { heading = Some h; items = xs; bad = None }
items_from h xs begun n (line ∷ lines) =
    option_map_or (λ i. items_from h (xs ++ i ∷ []) (is_call i) (n + 1) lines)
    (next_of begun line) (stops_at n (Some h) xs)

-- what the lines from the third on mean
abbrev pub reading_from_third : Heading → List (List ℕ) → Reading
reading_from_third h lines =
    if is_text call_names (slice_index_or lines 0 [])
    then items_from h [] false 4 (drop 1 lines) else stops_at 3 (Some h) []

-- what the lines from the second on mean
abbrev pub values_of : List (List ℕ) → Reading
values_of lines =
    option_map_or (λ h. reading_from_third h (drop 1 lines)) (heading_of (slice_index_or lines 0 []))
    (stops_at 2 None [])

-- what all lines mean; a missing line is read as one with no byte, and is wrong
abbrev pub script_of : List (List ℕ) → Reading
script_of lines =
    if is_text heading_names (slice_index_or lines 0 []) then values_of (drop 1 lines) else stops_at 1 None []

-- what the bytes mean
abbrev pub reading : List ℕ → Reading
reading bytes = script_of (lines_of bytes)

-- What the lines from the fourth on ask for, one by one.
use Rattle.std.proofs.Common.{◌≡◌, ℕ, ◌+◌, ◌<◌, Bool, eqb, List, [], ◌∷◌, ◌++◌, length, get_or, drop, Some, refl, inl}
use Rattle.std.proofs.Common.{inr, arith}
use Rattle.std.specs.List.{onto_first}
use Rattle.std.specs.Option.{option_map_or}
use Rattle.std.proofs.lemmas.Bool.{cases_Bool}
use Rattle.script.specs.declared.heading.Heading.{Heading}
use Rattle.script.specs.declared.item.Item.{Item}
use Rattle.script.specs.Lines.{lines_of}
use Rattle.script.specs.Reading.{is_call, items_from, next_of, stops_at}

-- as many lines as there are, and one more where a byte stands in front
length-onto_first : (b : ℕ) (ls : List (List ℕ)) → 0 < length (onto_first b ls)
length-onto_first b [] = omega arith
length-onto_first b (l ∷ ls) = omega arith

length-lines_of : (xs : List ℕ) → 0 < length xs → 0 < length (lines_of xs)
length-lines_of [] l = l
length-lines_of (x ∷ xs) l =
    elim (cases_Bool (eqb x 10)) [ inl t ↦ rw t (omega arith) | inr f ↦ rw f (length-onto_first x (lines_of xs)) ]

from_first : (h : Heading) (xs : List Item) (begun : Bool) (n : ℕ) (ls : List (List ℕ)) → 0 < length ls →
    items_from h xs begun n ls ≡ option_map_or (λ i. items_from h (xs ++ i ∷ []) (is_call i) (n + 1) (drop 1 ls))
    (next_of begun (get_or ls 0 [])) (stops_at n (Some h) xs)
from_first h xs begun n [] l = let z : ⊥ = omega arith in absurd z
from_first h xs begun n (line ∷ ls) l = refl

-- while a byte is left, the first line that is left decides
pub items_from-first : (h : Heading) (xs : List Item) (begun : Bool) (n : ℕ) (rest : List ℕ) → 0 < length rest →
    items_from h xs begun n (lines_of rest) ≡ option_map_or
    (λ i. items_from h (xs ++ i ∷ []) (is_call i) (n + 1) (drop 1 (lines_of rest)))
    (next_of begun (get_or (lines_of rest) 0 [])) (stops_at n (Some h) xs)
items_from-first h xs begun n rest l = from_first h xs begun n (lines_of rest) (length-lines_of rest l)

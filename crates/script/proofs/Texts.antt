-- What is written of a heading and of items, with a line feed behind it, are their lines.
use Rattle.std.proofs.Common.{◌≡◌, ℕ, ◌+◌, ◌<◌, List, [], ◌∷◌, ◌++◌, length, get_or, take, codes, sym, ap, ◌∙◌}
use Rattle.std.proofs.Common.{append_assoc, append-nil}
use Rattle.std.specs.List.{flat_map}
use Rattle.std.proofs.lemmas.List.{take_more}
use Rattle.std.proofs.lemmas.Grind.{flat_map-append}
use Rattle.machine.proofs.Texts.{call_words-text}
use Rattle.sequential.proofs.Texts.{spaced-figures}
use Rattle.sequential.specs.Text.{spaced}
use Rattle.script.specs.declared.heading.Heading.{Heading}
use Rattle.script.specs.declared.item.Item.{Item}
use Rattle.script.specs.declared.item.Item.TheVariants.{Place, Make}
use Rattle.script.specs.Writing.{behind, model_text, pool_text, heading_text, heading_words, item_text, item_words}

figures-spaced : (ns rest : List ℕ) → flat_map behind ns ++ 10 ∷ rest ≡ spaced ns ++ rest
figures-spaced ns rest =
    sym (append_assoc (flat_map behind ns) (10 ∷ []) rest) ∙ ap (λ t. t ++ rest) (sym (spaced-figures ns))

grouped : (m s x p f rest : List ℕ) → (m ++ (s ++ (x ++ (p ++ f)))) ++ rest ≡ m ++ (s ++ (x ++ (p ++ (f ++ rest))))
grouped m s x p f rest = simp append_assoc

pub heading_words-text : (h : Heading) (rest : List ℕ) → heading_words h ++ 10 ∷ rest ≡ heading_text h ++ rest
heading_words-text h rest =
    let m = model_text h.model in
    let s = behind h.size in
    let x = behind h.setting in
    let p = pool_text h.pool in
    let last = h.end ∷ h.most ∷ h.workers ∷ [] in
    grouped m s x p (flat_map behind last) (10 ∷ rest)
    ∙ ap (λ t. m ++ (s ++ (x ++ (p ++ t)))) (figures-spaced last rest)
    ∙ sym (grouped m s x p (spaced last) rest)

-- the whole script
pub script_joins : (was a h c items : List ℕ) → (was ++ (a ++ (h ++ c))) ++ items ≡ was ++ (a ++ (h ++ (c ++ items)))
script_joins was a h c items = simp append_assoc

item_words-text : (i : Item) → item_words i ++ 10 ∷ [] ≡ item_text i
item_words-text (Place p w) =
    append_assoc (codes "place") (flat_map behind ns) (10 ∷ [])
    ∙ ap (λ t. codes "place" ++ t) (figures-spaced ns [] ∙ append-nil (spaced ns))
  where
    ns : List ℕ
    ns = p ∷ w ∷ 0 ∷ []
item_words-text (Make c) = call_words-text c

-- one item more
pub items_more : (was now after : List ℕ) (is : List Item) (i : ℕ) (d : Item) → i < length is →
    now ≡ was ++ flat_map item_text (take i is) → after ≡ now ++ (item_words (get_or is i d) ++ 10 ∷ []) →
    after ≡ was ++ flat_map item_text (take (i + 1) is)
items_more was now after is i d l so_far more =
    let item = get_or is i d in
    more
    ∙ rw (so_far, item_words-text item)
    (append_assoc was (flat_map item_text (take i is)) (item_text item)
    ∙ ap (λ t. was ++ t)
    (sym (rw (take_more is i d l, flat_map-append item_text (take i is) (item ∷ []))
    (ap (λ t. flat_map item_text (take i is) ++ t) (append-nil (item_text item))))))

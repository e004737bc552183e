-- What follows a word is what `strip_prefix` leaves.
use Rattle.std.proofs.Common.{◌≡◌, ℕ, ◌+◌, true, false, eqb, List, [], ◌∷◌, length, take, drop, Some, None, Option}
use Rattle.std.proofs.Common.{MatchOption, option_map, Bor, refl, ap, ◌∙◌, sym, inl, inr, arith}
use Rattle.std.specs.Cmp.Lexicographic.{pointwise}
use Rattle.std.proofs.lemmas.Bool.{cases_Bool}
use Rattle.script.specs.Fields.{rest_after}

-- the text does not begin with the word
rest_after-other : (ws bs : List ℕ) → pointwise eqb (take (length ws) bs) ws ≡ false → rest_after ws bs ≡ None
rest_after-other [] bs e = let z : ⊥ = grind arith in absurd z
rest_after-other (w ∷ ws) [] e = refl
rest_after-other (w ∷ ws) (b ∷ bs) e =
    elim (cases_Bool (eqb b w)) [ inl t ↦ rw t (rest_after-other ws bs (rw t at e)) | inr f ↦ rw f ]

-- it does
rest_after-word : (ws bs : List ℕ) → pointwise eqb (take (length ws) bs) ws ≡ true →
    rest_after ws bs ≡ Some (drop (length ws) bs)
rest_after-word [] bs e = refl
rest_after-word (w ∷ ws) [] e = let z : ⊥ = grind arith in absurd z
rest_after-word (w ∷ ws) (b ∷ bs) e =
    elim (cases_Bool (eqb b w)) [
      | inl t ↦ rw t (rest_after-word ws bs (rw t at e))
      | inr f ↦ (let g : false ≡ true = rw f at e in let z : ⊥ = grind (arith, g) in absurd z)
    ]

-- both, as `strip_prefix` tells it
pub rest_after-strip : (ws bs : List ℕ) (r : Option (Bor (List ℕ))) →
    MatchOption r (pointwise eqb (take (length ws) bs) ws ≡ false)
    (λ x. (pointwise eqb (take (length ws) bs) ws ≡ true) × (x.now ≡ drop (length ws) bs)
    × (length x.now + length ws ≡ length bs)) → option_map (λ x. x.now) r ≡ rest_after ws bs
rest_after-strip ws bs None e = sym (rest_after-other ws bs e)
rest_after-strip ws bs (Some x) e = ap Some e.1 ∙ sym (rest_after-word ws bs e.0)

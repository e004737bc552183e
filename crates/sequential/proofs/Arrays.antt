-- An array made by calls of a closure that stays as it is.
use Rattle.std.proofs.Common.{◌≡◌, ℕ, zero, suc, ◌+◌, ◌<◌, ◌≤◌, List, map, get_or, ◌∙◌, inl, inr, arith}
use Rattle.std.proofs.lemmas.Bool.{cases_eq}
use Rattle.std.specs.Fn.{Mut, Called}
use Rattle.std.specs.Array.{IsFromFnResult, IsFromFnResultFrom}
use Rattle.std.specs.List.{range_with_len}
use Rattle.std.proofs.lemmas.List.FromFn.{fill_by_all}

module _ {F B : Type 0} (g : Mut F (ℕ × Unit {0}) B) (f : F) (h : ℕ → B)
    (alike : (i : ℕ) (y : B) (q : F) → Called g f (i, tt) y q → (q ≡ f) × (y ≡ h i)) where
  at_each : (ys : List B) (i n j : ℕ) (d : B) → IsFromFnResultFrom g f ys i n → i ≤ j → j < i + n → get_or ys j d ≡ h j
  at_each ys i zero j d r l k = absurd (omega arith)
  at_each ys i (suc n) j d (q, y, is_y, called, rest) l k =
      let a = alike i y q called in
      elim (cases_eq i j) [
        | inl e ↦ rw (← e) (is_y.1 d ∙ a.1)
        | inr e ↦ at_each ys (i + 1) n j d (rw a.0 at rest) (omega arith) (omega arith)
      ]

  pub from_fn-map : (ys : List B) (n : ℕ) (d : B) → IsFromFnResult g f ys n → ys ≡ map h (range_with_len 0 n)
  from_fn-map ys n d r = fill_by_all h ys n d r.long (λ k l. at_each ys 0 n k d r.each (omega arith) (omega arith))

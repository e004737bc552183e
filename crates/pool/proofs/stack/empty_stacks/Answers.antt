use Rattle.std.proofs.Common.{◌≡◌, ℕ, ◌<◌, List, [], replicate, sym, ◌∙◌, subst, rules}
use Rattle.std.specs.Fn.{Called, Mut}
use Rattle.std.specs.Array.{IsFromFnResult}
use Rattle.std.proofs.lemmas.List.{ext_get_or, length-replicate, get_or-replicate}
use Rattle.pool.proofs.stack.empty_stacks.Goals as goal

-- an array made by a closure that always answers the same
made_alike : {F A : Type 0} (calls : Mut F (ℕ × Unit {0}) A) (f : F) (xs : List A) (n : ℕ) (a : A)
    → ((p q : F) (i : ℕ) (x : A) → Called calls p (i, tt) x q → x ≡ a) → IsFromFnResult calls f xs n
    → xs ≡ replicate n a
made_alike calls f xs n a alike made =
    ext_get_or a xs (replicate n a) (made.long ∙ sym (length-replicate n a))
    (λ k lt.
    let low = subst (λ m. k < m) made.long lt in
    let c = made.at k a low in
    alike c.0 c.1 k _ c.2 ∙ sym (get_or-replicate n k a a low))

pub returns : goal.returns
returns g c = made_alike _ _ _ _ [] (λ p q i x called. search rules) c.from_fn.ensures.items

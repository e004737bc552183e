-- Lists of buffers: what stands in them, what stands in them once, and what `set` leaves as it was.
use Rattle.std.proofs.Common.{◌≡◌, ℕ, ◌⊎◌, List, [], ◌∷◌, ◌++◌, map, get_or, set, sym, refl, ap, ◌∙◌, inl, inr}
use Rattle.std.proofs.Math.ListN.{get_or-map}
use Rattle.std.proofs.Math.Seq.{map-set_same}
use Rattle.std.specs.List.{AllByRecursion}
use Rattle.sequential.specs.declared.event.Event.{Event}

-- b stands in the list. std's `Contains` says it by an index; this is a sum that computes, which proofs along a list of
-- buffers match on, so that `Contains` would be no plainer here
abbrev pub In : ℕ → List ℕ → Type 0
In b [] = ⊥
In b (x ∷ xs) = (b ≡ x) ⊎ In b xs

-- no element stands twice; std's `IsDistinct` says the same by a test (`Apart-distinct` leads to it)
abbrev pub Apart : List ℕ → Type 0
Apart [] = Unit {0}
Apart (x ∷ xs) = (In x xs → ⊥) × Apart xs

pub in_left : (b : ℕ) (xs ys : List ℕ) → In b xs → In b (xs ++ ys)
in_left b [] ys h = absurd h
in_left b (x ∷ xs) ys (inl e) = inl e
in_left b (x ∷ xs) ys (inr h) = inr (in_left b xs ys h)

pub in_push : (b : ℕ) (xs : List ℕ) → In b (xs ++ b ∷ [])
in_push b [] = inl refl
in_push b (x ∷ xs) = inr (in_push b xs)

pub in_push_cases : (b c : ℕ) (xs : List ℕ) → In b (xs ++ c ∷ []) → In b xs ⊎ (b ≡ c)
in_push_cases b c [] (inl e) = inr e
in_push_cases b c [] (inr h) = absurd h
in_push_cases b c (x ∷ xs) (inl e) = inl (inl e)
in_push_cases b c (x ∷ xs) (inr h) = elim (in_push_cases b c xs h) [ inl i ↦ inl (inr i) | inr e ↦ inr e ]

pub Apart-push : (c : ℕ) (xs : List ℕ) → Apart xs → (In c xs → ⊥) → Apart (xs ++ c ∷ [])
Apart-push c [] a n = (λ h. h, tt)
Apart-push c (x ∷ xs) a n = (fresh, Apart-push c xs a.1 (λ h. n (inr h)))
  where
    fresh : In x (xs ++ c ∷ []) → ⊥
    fresh h = elim (in_push_cases x c xs h) [ inl i ↦ a.0 i | inr e ↦ n (inl (sym e)) ]

-- ---- `set` and `get_or`

-- what a part of the new element has in common with the old one is as it was everywhere
pub get_or-set_keeps : {A B : Type 0} (f : A → B) (l : List A) (i : ℕ) (a d : A) → f a ≡ f (get_or l i d) → (j : ℕ) →
    f (get_or (set l i a) j d) ≡ f (get_or l j d)
get_or-set_keeps f l i a d h j =
    sym (get_or-map f (set l i a) j d) ∙ ap (λ xs. get_or xs j (f d)) (map-set_same f l i a d h) ∙ get_or-map f l j d

-- ---- `map`

pub map_same : {A : Type 0} (f g : ℕ → A) (xs : List ℕ) → ((c : ℕ) → In c xs → f c ≡ g c) → map f xs ≡ map g xs
map_same f g [] h = refl
map_same f g (x ∷ xs) h = rw (h x (inl refl), map_same f g xs (λ c i. h c (inr i)))

pub all_sent : (P : Event → Type 0) (event : ℕ → Event) (bs : List ℕ) → AllByRecursion P (map event bs) → (b : ℕ) →
    In b bs → P (event b)
all_sent P event [] a b i = absurd i
all_sent P event (c ∷ cs) a b (inl e) = rw e a.0
all_sent P event (c ∷ cs) a b (inr i) = all_sent P event cs a.1 b i

-- An inbox is never full: it holds no buffer twice, and there are 256 of them; so a buffer that is not in it finds
-- room.
use Rattle.std.proofs.Common.{◌≡◌, ℕ, ◌<◌, ◌≤◌, true, false, eqb, List, [], ◌∷◌, ◌++◌, length, refl}
use Rattle.std.proofs.Common.{inl, inr, arith, length-append}
use Rattle.std.proofs.lemmas.Bool.{both_ways, ne_eqb, cond-true, lt-ltb, eqb-true, or_cases}
use Rattle.std.proofs.lemmas.Map.Steps.{length-le_from_distinct_below}
use Rattle.std.specs.List.{AllByRecursion, IsDistinct, list_any}
use Rattle.sequential.specs.declared.event.Process.{Process}
use Rattle.machine.specs.Calls.{World}
use Rattle.machine.specs.Machine.{Machine, worker, entered}
use Rattle.law.proofs.Invariant.{lives, boxes, Kept}
use Rattle.law.proofs.Members.{In, Apart}
use Rattle.law.proofs.Parts.{live_within}

listed_in : (q : ℕ) (xs : List ℕ) → list_any (eqb q) xs ≡ true → In q xs
listed_in q [] h = absurd (both_ways _ refl h)
listed_in q (x ∷ xs) h = elim (or_cases (eqb q x) (list_any (eqb q) xs) h) [
  | inl e ↦ inl (eqb-true q x e)
  | inr i ↦ inr (listed_in q xs i)
]

apart_from : (x : ℕ) (xs : List ℕ) → (In x xs → ⊥) → AllByRecursion (λ y. eqb x y ≡ false) xs
apart_from x [] n = tt
apart_from x (y ∷ ys) n = (ne_eqb x y (λ e. n (inl e)), apart_from x ys (λ i. n (inr i)))

Apart-distinct : (xs : List ℕ) → Apart xs → IsDistinct eqb xs
unfolding IsDistinct
Apart-distinct [] a = tt
Apart-distinct (x ∷ xs) a = (apart_from x xs a.0, Apart-distinct xs a.1)

-- at most n numbers below n stand apart
pub Apart-short : (n : ℕ) (xs : List ℕ) → Apart xs → ((b : ℕ) → In b xs → b < n) → length xs ≤ n
Apart-short n xs a l = length-le_from_distinct_below xs n (Apart-distinct xs a) (λ q h. l q (listed_in q xs h))

-- behind what is in hand, an inbox has room for a buffer that stands in neither
pub room : (b : ℕ) (hs bs : List ℕ) → Apart (hs ++ bs) → ((c : ℕ) → In c (hs ++ bs) → c < 256) → b < 256 →
    (In b (hs ++ bs) → ⊥) → length bs < 256
room b hs bs a l m n =
    let s = Apart-short 256 (b ∷ (hs ++ bs)) (n, a) (λ c. elim [ inl e ↦ rw e m | inr i ↦ l c i ]) in
    let e = length-append hs bs in omega arith

pub entered_room : (b : ℕ) (bs : List ℕ) → length bs < 256 → entered b bs ≡ bs ++ b ∷ []
entered_room b bs l = cond-true _ _ _ (lt-ltb (length bs) 256 l)

-- a buffer that stands in no hand and no inbox finds room
pub Kept-room : {W : World} {base : ℕ → Process} {held : ℕ → List ℕ} {owed : List ℕ} {s : Machine} →
    Kept W base held owed s → (b v : ℕ) → b < 256 → (In b (boxes held s v) → ⊥) → length (worker s v).inbox < 256
Kept-room {W} {base} {held} {owed} {s} K b v l n = room b (held v) (worker s v).inbox (K.boxed.once v)
    (λ c i. let h = K.sized.messages in
    let j = live_within s c (elim (K.boxed.due v c i) [ inl m ↦ K.boxed.moves c m | inr e ↦ K.boxed.ends c e ]) in
    omega arith) l n

-- an empty buffer finds room in every inbox
pub dead_room : {W : World} {base : ℕ → Process} {held : ℕ → List ℕ} {owed : List ℕ} {s : Machine} →
    Kept W base held owed s → (b v : ℕ) → b < 256 → lives s b ≡ false → length (worker s v).inbox < 256
dead_room K b v l dead =
    Kept-room K b v l (λ i. both_ways _ dead
    (elim (K.boxed.due v b i) [ inl m ↦ K.boxed.moves b m | inr e ↦ K.boxed.ends b e ]))

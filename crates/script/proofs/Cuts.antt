-- Where a text is cut into lines.
use Rattle.std.proofs.Common.{◌≡◌, ℕ, zero, suc, ◌+◌, ◌<◌, true, false, eqb, All, List, [], ◌∷◌, length, get_or, take}
use Rattle.std.proofs.Common.{drop, ap, ◌∙◌, take_all, arith}
use Rattle.std.proofs.lemmas.List.{drop_all}
use Rattle.script.specs.Lines.{lines_of}

-- the first line feed ends the first line
lines_of-feed : (xs : List ℕ) (n : ℕ) → n < length xs → ((k : ℕ) → k < n → eqb (get_or xs k 0) 10 ≡ false) →
    eqb (get_or xs n 0) 10 ≡ true → lines_of xs ≡ take (suc n) xs ∷ lines_of (drop (suc n) xs)
lines_of-feed [] n h f e = let z : ⊥ = omega arith in absurd z
lines_of-feed (x ∷ xs) zero h f e = rw e
lines_of-feed (x ∷ xs) (suc n) h f e =
    rw (f 0 (omega arith), lines_of-feed xs n (omega arith) (λ k l. f (suc k) (omega arith)) e)

-- with no line feed, all is one line
lines_of-plain : (xs : List ℕ) → 0 < length xs → ((k : ℕ) → k < length xs → eqb (get_or xs k 0) 10 ≡ false) →
    lines_of xs ≡ xs ∷ []
lines_of-plain [] h f = let z : ⊥ = omega arith in absurd z
lines_of-plain (x ∷ []) h f = rw (f 0 (omega arith))
lines_of-plain (x ∷ y ∷ ys) h f =
    rw (f 0 (omega arith), lines_of-plain (y ∷ ys) (omega arith) (λ k l. f (suc k) (omega arith)))

-- the first line, and the lines behind it
abbrev pub FirstLine : List ℕ → List ℕ → List ℕ → Type 0
FirstLine xs line others = (line ≡ get_or (lines_of xs) 0 []) × (lines_of others ≡ drop 1 (lines_of xs))

pub FirstLine-feed : (xs line others : List ℕ) (n : ℕ) → n < length xs →
    ((k : ℕ) → k < n → eqb (get_or xs k 0) 10 ≡ false) → eqb (get_or xs n 0) 10 ≡ true → line ≡ take (n + 1) xs →
    others ≡ drop (n + 1) xs → FirstLine xs line others
FirstLine-feed xs line others n l below at front back =
    let e = lines_of-feed xs n l below at in
    let one : n + 1 ≡ suc n = omega arith in
    (front ∙ rw (e, one), rw (e, back, one))

pub FirstLine-plain : (xs line others : List ℕ) → All (λ b. eqb b 10 ≡ false) xs → line ≡ take (length xs) xs →
    others ≡ drop (length xs) xs → FirstLine xs line others
FirstLine-plain [] line others all front back = (front, ap lines_of back)
FirstLine-plain (x ∷ xs) line others all front back =
    let e = lines_of-plain (x ∷ xs) (omega arith) (λ k l. all k 0 l) in
    let none : drop (length (x ∷ xs)) (x ∷ xs) ≡ [] = drop_all (length (x ∷ xs)) (x ∷ xs) (omega arith) in
    (front ∙ rw (e, take_all (length (x ∷ xs)) (x ∷ xs) (omega arith)), rw (e, back, none))

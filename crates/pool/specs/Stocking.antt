-- The shelf with all buffers out, the places of new pools, and what it says of a stack that each buffer stands once.
use Rattle.std.specs.Prelude.{◌≡◌, ℕ, zero, suc, ◌+◌, ◌/◌, ◌<◌, ◌≤◌, List, [], map, length, replicate, slice_index_or}
use Rattle.std.specs.Prelude.{refl, ◌==◌, ◌∷◌, slice_index}
use Rattle.std.proofs.Common.{sym, ap, ◌∙◌, inl, inr, div-lt_iff_lt-mul, arith}
use Rattle.std.specs.List.{range_with_len}
use Rattle.std.proofs.lemmas.List.{get_or_past, length-replicate, get_or-replicate}
use Rattle.std.proofs.lemmas.List.FromFn.{length-map-range_with_len, get_or-map-range_with_len}
use Rattle.std.proofs.lemmas.List.Sums.{sum_by-cons}
use Rattle.std.proofs.lemmas.Bool.{cases_Bool, cases_lt, eq-eqb}
use Rattle.pool.specs.declared.place.Place.{Place}
use Rattle.pool.specs.declared.place.Place.TheVariants.{Out, Lane}
use Rattle.pool.specs.Lanes.{place_at, is_in, lies, lent}
use Rattle.pool.specs.Stacks.{Tally, times, Once, dealt_by}
use Rattle.pool.specs.Laws.{one, in_is, held}

-- one value at every place, and past the end
pub everywhere : {A : Type 0} (n l : ℕ) (a : A) → slice_index_or (replicate n a) l a ≡ a
everywhere n l a =
    elim (cases_lt l n) [
      | inl lt ↦ get_or-replicate n l a a lt
      | inr le ↦ get_or_past (replicate n a) l a (let r = length-replicate n a in omega arith)
    ]

lies-outs : (l n : ℕ) → lies l (replicate n Out) ≡ 0
unfolding lies
lies-outs l zero = refl
lies-outs l (suc n) = lies-outs l n

pub Tally-bare : (n : ℕ) → Tally (replicate 256 Out) (replicate n [])
Tally-bare n l = ap (λ (xs : List ℕ). length xs) (everywhere {A = List ℕ} n l []) ∙ sym (lies-outs l 256)

pub Once-bare : (n : ℕ) → Once (replicate 256 Out) (replicate n [])
Once-bare n l b =
    let e = everywhere {A = List ℕ} n l [] in
    let o = everywhere 256 b Out in
    ap (λ xs. times b xs) e ∙ sym (ap (λ p. one (is_in l p)) o)

-- a share of 32 or more makes eight lanes at most
pub lane_low : (b share : ℕ) → b < 256 → 32 ≤ share → b / share < 8
lane_low b share h s = (div-lt_iff_lt-mul {k = share} {x = b} {y = 8} (omega arith)).1 (omega arith)

pub length-dealt_by : (f : ℕ → ℕ) → length (dealt_by f) ≡ 256
length-dealt_by f = length-map-range_with_len (λ b. Lane (f b)) 0 256

pub place_at-dealt_by : (f : ℕ → ℕ) (b : ℕ) → b < 256 → place_at (dealt_by f) b ≡ Lane (f b)
place_at-dealt_by f b h = get_or-map-range_with_len (λ n. Lane (f n)) 0 256 b b Out h (omega arith)

-- a lane that some buffer is dealt to is not empty
pub stocked_at : (f : ℕ → ℕ) (l b : ℕ) → b < 256 → f b ≡ l → 0 < lies l (dealt_by f)
stocked_at f l b h e =
    held l (dealt_by f) b (let n = length-dealt_by f in omega arith) (place_at-dealt_by f b h ∙ ap Lane e)

-- dealt buffers are all in
pub lent_among : (f : ℕ → ℕ) (a n : ℕ) → lent (map (λ b. Lane (f b)) (range_with_len a n)) ≡ 0
unfolding lent
lent_among f a zero = refl
lent_among f a (suc n) = lent_among f (a + 1) n

pub lent-dealt_by : (f : ℕ → ℕ) → lent (dealt_by f) ≡ 0
lent-dealt_by f = lent_among f 0 256

-- a buffer read from a stack stands on it
stands : (xs : List ℕ) (k : ℕ) → k < length xs → 0 < times (slice_index xs k) xs
stands [] k h = absurd (omega arith)
stands (x ∷ xs) zero h = omega (arith, sum_by-cons (λ y. one (y == x)) x xs, ap one (eq-eqb x x refl))
stands (x ∷ xs) (suc k) h =
    omega (arith, sum_by-cons (λ y. one (y == slice_index xs k)) x xs, stands xs k (omega arith))

-- a buffer read at two heights stands there twice
stands_twice : (xs : List ℕ) (j k : ℕ) → j < k → k < length xs → slice_index xs j ≡ slice_index xs k
    → 1 < times (slice_index xs k) xs
stands_twice [] j k lt h e = absurd (omega arith)
stands_twice (x ∷ xs) j zero lt h e = absurd (omega arith)
stands_twice (x ∷ xs) zero (suc k) lt h e =
    let s = sum_by-cons (λ y. one (y == slice_index xs k)) x xs in
    omega (arith, s, ap one (eq-eqb x (slice_index xs k) e), stands xs k (omega arith))
stands_twice (x ∷ xs) (suc j) (suc k) lt h e =
    let s = sum_by-cons (λ y. one (y == slice_index xs k)) x xs in
    omega (arith, s, stands_twice xs j k (omega arith) (omega arith) e)

-- each buffer on a stack lies in its lane
pub on_stack : (ps : List Place) (stacks : List (List ℕ)) → Once ps stacks → (l k : ℕ)
    → k < length (slice_index_or stacks l []) → place_at ps (slice_index (slice_index_or stacks l []) k) ≡ Lane l
on_stack ps stacks once l k h =
    let xs = slice_index_or stacks l [] in
    let o = once l (slice_index xs k) in
    elim (cases_Bool (is_in l (place_at ps (slice_index xs k)))) [
      | inl i ↦ in_is l _ i
      | inr i ↦ absurd (omega (arith, o, stands xs k h, ap one i))
    ]

-- no buffer is twice on a stack
pub stands_once : (ps : List Place) (stacks : List (List ℕ)) → Once ps stacks → (l j k : ℕ) → j < k
    → k < length (slice_index_or stacks l [])
    → slice_index (slice_index_or stacks l []) j ≡ slice_index (slice_index_or stacks l []) k → ⊥
stands_once ps stacks once l j k lt h e =
    let xs = slice_index_or stacks l [] in
    let o = once l (slice_index xs k) in
    let t = stands_twice xs j k lt h e in
    let p = place_at ps (slice_index xs k) in
    elim (cases_Bool (is_in l p)) [ inl i ↦ omega (arith, o, t, ap one i) | inr i ↦ omega (arith, o, t, ap one i) ]

-- Laws of places, lanes and counts, over the meaning of any pool.
use Rattle.std.specs.Prelude.{◌≡◌, ℕ, zero, suc, ◌+◌, ◌<◌, ◌≤◌, Bool, true, false, if◌then◌else◌, cond, ◌≢◌, List, []}
use Rattle.std.specs.Prelude.{◌∷◌, length, ◌==◌, slice_set, refl}
use Rattle.std.proofs.Common.{sym, ap, ◌∙◌, inl, inr, arith, set-set}
use Rattle.std.proofs.lemmas.List.{set-get_or}
use Rattle.std.proofs.lemmas.Bool.{cases_Bool, eqb-true, eq-eqb, ne_eqb}
use Rattle.pool.specs.declared.place.Place.{Place}
use Rattle.pool.specs.declared.place.Place.TheVariants.{Out, Lane}
use Rattle.pool.specs.Lanes.{place_at, is_in, is_out, lies, lent}

-- 1 for a fact that holds
abbrev pub one : Bool → ℕ
one b = if b then 1 else 0

cond-one_swap : (x y : Bool) (n : ℕ) → cond x (suc n) n + one y ≡ cond y (suc n) n + one x
cond-one_swap true true n = refl
cond-one_swap true false n = omega arith
cond-one_swap false true n = omega arith
cond-one_swap false false n = refl

carry : (x : Bool) (m n a b : ℕ) → m + a ≡ n + b → cond x (suc m) m + a ≡ cond x (suc n) n + b
carry true m n a b e = omega arith
carry false m n a b e = e

-- one place changes: a lane's count loses what lay there and gains what lies there
pub lies-set : (l : ℕ) (ps : List Place) (b : ℕ) (p : Place) → b < length ps
    → lies l (slice_set ps b p) + one (is_in l (place_at ps b)) ≡ lies l ps + one (is_in l p)
unfolding lies
lies-set l [] b p h = let z : ⊥ = omega arith in absurd z
lies-set l (q ∷ ps) zero p h = cond-one_swap (is_in l p) (is_in l q) (lies l ps)
lies-set l (q ∷ ps) (suc b) p h = carry (is_in l q) _ _ _ _ (lies-set l ps b p (omega arith))

-- the same for the number of buffers that are out
pub lent-set : (ps : List Place) (b : ℕ) (p : Place) → b < length ps
    → lent (slice_set ps b p) + one (is_out (place_at ps b)) ≡ lent ps + one (is_out p)
unfolding lent
lent-set [] b p h = let z : ⊥ = omega arith in absurd z
lent-set (q ∷ ps) zero p h = cond-one_swap (is_out p) (is_out q) (lent ps)
lent-set (q ∷ ps) (suc b) p h = carry (is_out q) _ _ _ _ (lent-set ps b p (omega arith))

pub in_own : (l : ℕ) → is_in l (Lane l) ≡ true
in_own l = eq-eqb l l refl

pub in_other : (l m : ℕ) → m ≢ l → is_in m (Lane l) ≡ false
in_other l m ne = ne_eqb l m (λ e. ne (sym e))

pub in_is : (l : ℕ) (p : Place) → is_in l p ≡ true → p ≡ Lane l
in_is l Out e = let z : ◌≡◌ {A = ℕ} 0 1 = cc in let y : ⊥ = omega arith in absurd y
in_is l (Lane m) e = ap Lane (eqb-true m l e)

pub out_is : (p : Place) → is_out p ≡ true → p ≡ Out
out_is Out e = refl
out_is (Lane m) e = let z : ◌≡◌ {A = ℕ} 0 1 = cc in let y : ⊥ = omega arith in absurd y

-- a buffer of lane l goes out: the lane has one less
pub lies-draw : (l : ℕ) (ps : List Place) (b : ℕ) → b < length ps → place_at ps b ≡ Lane l
    → lies l (slice_set ps b Out) + 1 ≡ lies l ps
lies-draw l ps b h e =
    let s = lies-set l ps b Out h in
    let t : one (is_in l (place_at ps b)) ≡ 1 = ap (λ p. one (is_in l p)) e ∙ ap one (in_own l) in
    omega arith

-- every other lane has as many as before
pub lies-draw_other : (l m : ℕ) (ps : List Place) (b : ℕ) → b < length ps → place_at ps b ≡ Lane l → m ≢ l
    → lies m (slice_set ps b Out) ≡ lies m ps
lies-draw_other l m ps b h e ne =
    let s = lies-set m ps b Out h in
    let t : one (is_in m (place_at ps b)) ≡ 0 = ap (λ p. one (is_in m p)) e ∙ ap one (in_other l m ne) in
    omega arith

-- one more is out
pub lent-draw : (l : ℕ) (ps : List Place) (b : ℕ) → b < length ps → place_at ps b ≡ Lane l
    → lent (slice_set ps b Out) ≡ lent ps + 1
lent-draw l ps b h e =
    let s = lent-set ps b Out h in
    let t : one (is_out (place_at ps b)) ≡ 0 = ap (λ p. one (is_out p)) e in
    omega arith

-- a buffer that is out goes into lane l: the lane has one more
pub lies-put : (l : ℕ) (ps : List Place) (b : ℕ) → b < length ps → place_at ps b ≡ Out
    → lies l (slice_set ps b (Lane l)) ≡ lies l ps + 1
lies-put l ps b h e =
    let s = lies-set l ps b (Lane l) h in
    let t : one (is_in l (place_at ps b)) ≡ 0 = ap (λ p. one (is_in l p)) e in
    let u : one (is_in l (Lane l)) ≡ 1 = ap one (in_own l) in
    omega arith

-- every other lane has as many as before
pub lies-put_other : (l m : ℕ) (ps : List Place) (b : ℕ) → b < length ps → place_at ps b ≡ Out → m ≢ l
    → lies m (slice_set ps b (Lane l)) ≡ lies m ps
lies-put_other l m ps b h e ne =
    let s = lies-set m ps b (Lane l) h in
    let t : one (is_in m (place_at ps b)) ≡ 0 = ap (λ p. one (is_in m p)) e in
    let u : one (is_in m (Lane l)) ≡ 0 = ap one (in_other l m ne) in
    omega arith

-- one less is out
pub lent-put : (l : ℕ) (ps : List Place) (b : ℕ) → b < length ps → place_at ps b ≡ Out
    → lent (slice_set ps b (Lane l)) + 1 ≡ lent ps
lent-put l ps b h e =
    let s = lent-set ps b (Lane l) h in
    let t : one (is_out (place_at ps b)) ≡ 1 = ap (λ p. one (is_out p)) e in
    omega arith

-- a draw undone by handing back: every place is as before
pub hand_back-draw : (l : ℕ) (ps : List Place) (b : ℕ) → place_at ps b ≡ Lane l
    → slice_set (slice_set ps b Out) b (Lane l) ≡ ps
hand_back-draw l ps b e = let s = set-set ps b Out (Lane l) in let t = set-get_or ps b Out in cc

-- a buffer in the lane: the lane is not empty
pub held : (l : ℕ) (ps : List Place) (b : ℕ) → b < length ps → place_at ps b ≡ Lane l → 0 < lies l ps
held l ps b h e = let d = lies-draw l ps b h e in omega arith

-- a buffer that is out: some are
pub held_out : (ps : List Place) (b : ℕ) → b < length ps → place_at ps b ≡ Out → 0 < lent ps
held_out ps b h e = let d = lent-put 0 ps b h e in omega arith

-- a lane that is not empty has a buffer
pub lies-has_buffer : (l : ℕ) (ps : List Place) → 0 < lies l ps → (b : ℕ) × (b < length ps) × (place_at ps b ≡ Lane l)
unfolding lies
lies-has_buffer l [] h = let z : ⊥ = omega arith in absurd z
lies-has_buffer l (p ∷ ps) h =
    elim (cases_Bool (is_in l p)) [
      | inl e ↦ (0, omega arith, in_is l p e)
      | inr e ↦ (let f = lies-has_buffer l ps (rw e at h) in (suc f.0, (let lt = f.1 in omega arith), f.2))
    ]

-- where none is out, each buffer lies in a lane
pub all_in : (ps : List Place) (b : ℕ) → lent ps ≡ 0 → b < length ps → (l : ℕ) × (place_at ps b ≡ Lane l)
all_in ps b none h = lane_of (place_at ps b) refl
  where
    lane_of : (p : Place) → place_at ps b ≡ p → (l : ℕ) × (place_at ps b ≡ Lane l)
    lane_of Out e = let d = held_out ps b h e in let z : ⊥ = omega arith in absurd z
    lane_of (Lane l) e = (l, e)

-- the buffers of a lane and those that are out are no more than all
pub room : (l : ℕ) (ps : List Place) → lies l ps + lent ps ≤ length ps
unfolding lies lent
room l [] = omega arith
room l (Out ∷ ps) = let r = room l ps in omega arith
room l (Lane m ∷ ps) =
    let r = room l ps in
    elim (cases_Bool (m == l)) [ inl e ↦ rw e (omega arith) | inr e ↦ rw e (omega arith) ]

-- Drawing for a call: a lane with no buffer is short, and a buffer that lay in its lane was drawn from it.
use Rattle.std.proofs.Common.{◌≡◌, ℕ, ◌<◌, ◌≤◌, true, false, ◌≢◌, List, [], ◌∷◌, length, set, ap, inl, inr, arith}
use Rattle.std.proofs.lemmas.Bool.{cases_eq}
use Rattle.std.proofs.lemmas.Bool.Decides.{nat_tests}
use Rattle.pool.specs.Lanes.{lies, place_at}
use Rattle.pool.specs.declared.place.Place.{Place}
use Rattle.pool.specs.declared.place.Place.TheVariants.{Out, Lane}
use Rattle.pool.specs.Laws.{held, lies-draw, lies-draw_other}
use Rattle.machine.specs.Calls.{DrawnAll, enough}
use Rattle.machine.specs.Calls.DrawnAll.{none, one}

module _ (pl : List Place) (l : ℕ) where
  -- one buffer is enough where the lane holds one
  pub one_short : lies l pl ≡ 0 → enough pl (l ∷ []) (l ∷ []) ≡ false
  one_short h = grind (arith, nat_tests)

  pub one_enough : 0 < lies l pl → enough pl (l ∷ []) (l ∷ []) ≡ true
  one_enough h = grind (arith, nat_tests)

  pub one_drawn : (b : ℕ) → place_at pl b ≡ Lane l → DrawnAll pl (l ∷ []) (b ∷ [])
  one_drawn b h = one h none

  module _ (k b : ℕ) (within : b < length pl) (h : place_at pl b ≡ Lane l) where
    -- with the first drawn, a second lane that is then empty had too few
    pub two_short : lies k (set pl b Out) ≡ 0 → enough pl (l ∷ k ∷ []) (l ∷ k ∷ []) ≡ false
    two_short z = elim (cases_eq k l) [
      | inl e ↦ let d = lies-draw l pl b within h in let q = ap (λ x. lies x (set pl b Out)) e in same e (omega arith)
      | inr n ↦ let d = lies-draw_other l k pl b within h n in other (omega arith)
    ]
      where
        same : k ≡ l → lies l pl ≡ 1 → enough pl (l ∷ k ∷ []) (l ∷ k ∷ []) ≡ false
        same e o = rw e (grind (arith, nat_tests))

        other : lies k pl ≡ 0 → enough pl (l ∷ k ∷ []) (l ∷ k ∷ []) ≡ false
        other o = grind (arith, nat_tests)

    pub two_enough : (a : ℕ) → a < length (set pl b Out) → place_at (set pl b Out) a ≡ Lane k →
        enough pl (l ∷ k ∷ []) (l ∷ k ∷ []) ≡ true
    two_enough a i j =
        let f = held l pl b within h in
        let s = held k (set pl b Out) a i j in
        elim (cases_eq k l) [
          | inl e ↦ let d = lies-draw l pl b within h in let q = ap (λ x. lies x (set pl b Out)) e in same e
              (omega arith)
          | inr n ↦ let d = lies-draw_other l k pl b within h n in other n f (omega arith)
        ]
      where
        same : k ≡ l → 2 ≤ lies l pl → enough pl (l ∷ k ∷ []) (l ∷ k ∷ []) ≡ true
        same e o = rw e (grind (arith, nat_tests))

        other : k ≢ l → 0 < lies l pl → 0 < lies k pl → enough pl (l ∷ k ∷ []) (l ∷ k ∷ []) ≡ true
        other n f o = grind (arith, nat_tests)

    pub two_drawn : (a : ℕ) → place_at (set pl b Out) a ≡ Lane k → DrawnAll pl (l ∷ k ∷ []) (b ∷ a ∷ [])
    two_drawn a j = one h (one j none)

-- What the contracts of a pool's calls say of counts, of two calls in a row and of what can be refused, for any pool.
use Rattle.std.proofs.Common.{◌≡◌, ℕ, ◌+◌, ◌<◌, true, false, ◌≢◌, List, length, set, Some, None, sym, ap, ◌∙◌, inl, inr}
use Rattle.std.proofs.Common.{arith, get_or-set_other, get_or-set_same}
use lib.Seq.{set_out}
use Rattle.std.proofs.lemmas.List.{get_or_past}
use Rattle.std.proofs.lemmas.Bool.{cases_lt, and_from, and_parts, cond-true, cond-false}
use Rattle.pool.specs.declared.place.Place.{Place}
use Rattle.pool.specs.declared.place.Place.TheVariants.{Out, Lane}
use Rattle.pool.specs.declared.grant.Grant.{Grant}
use Rattle.pool.specs.Lanes.{Lanes, place_at, is_pair, is_out, lies, lent}
use Rattle.pool.specs.Calls.{DrawnOne, takes_in, handed_in}
use Rattle.pool.specs.Laws.{out_is, lies-draw, lies-draw_other, lent-draw, lies-put, lies-put_other, lent-put, held}
use Rattle.pool.specs.Laws.{hand_back-draw}

-- what is set out is out
pub set_out_at : (ps : List Place) (b : ℕ) → place_at (set ps b Out) b ≡ Out
set_out_at ps b =
    elim (cases_lt b (length ps)) [
      | inl lt ↦ get_or-set_same ps b Out Out lt
      | inr le ↦ ap (λ (qs : List Place). place_at qs b) (set_out ps b Out le) ∙ get_or_past ps b Out le
    ]

-- a buffer that is out is taken in for a pair, and lies in the lane then
pub handed : (lane i j b : ℕ) (ps : List Place) → is_pair i j ≡ true → place_at ps b ≡ Out
    → (takes_in i j b ps ≡ true) × (handed_in lane i j b ps ≡ set ps b (Lane lane))
handed lane i j b ps pair out =
    let yes' : takes_in i j b ps ≡ true = and_from _ _ pair (ap is_out out) in
    (yes', cond-true _ _ _ yes')

-- and only such a buffer is
pub takes : (i j b : ℕ) (ps : List Place) → takes_in i j b ps ≡ true → (is_pair i j ≡ true) × (place_at ps b ≡ Out)
takes i j b ps e = let p = and_parts (is_pair i j) (is_out (place_at ps b)) e in (p.0, out_is (place_at ps b) p.1)

-- every other buffer stays where it is, and what is taken in makes its lane one more and the buffers out one less
module _ (lane i j b : ℕ) (ps : List Place) (e : takes_in i j b ps ≡ true) where
  pub handed_set : handed_in lane i j b ps ≡ set ps b (Lane lane)
  handed_set = cond-true _ _ _ e

  pub handed_other : (a : ℕ) → a ≢ b → place_at (handed_in lane i j b ps) a ≡ place_at ps a
  handed_other a ne = ap (λ (qs : List Place). place_at qs a) handed_set ∙ get_or-set_other ps b a (Lane lane) Out ne

  pub handed_lies : b < length ps → lies lane (handed_in lane i j b ps) ≡ lies lane ps + 1
  handed_lies h = ap (λ (qs : List Place). lies lane qs) handed_set ∙ lies-put lane ps b h (takes i j b ps e).1

  pub handed_lies_other : b < length ps → (m : ℕ) → m ≢ lane → lies m (handed_in lane i j b ps) ≡ lies m ps
  handed_lies_other h m ne =
      ap (λ (qs : List Place). lies m qs) handed_set ∙ lies-put_other lane m ps b h (takes i j b ps e).1 ne

  pub handed_lent : b < length ps → lent (handed_in lane i j b ps) + 1 ≡ lent ps
  handed_lent h = ap (λ (qs : List Place). lent qs + 1) handed_set ∙ lent-put lane ps b h (takes i j b ps e).1

-- what is not taken in moves nothing
pub kept : (lane i j b : ℕ) (ps : List Place) → takes_in i j b ps ≡ false → handed_in lane i j b ps ≡ ps
kept lane i j b ps e = cond-false _ _ _ e

-- a draw from a lane that is not empty is not refused
pub draws : (n : Lanes) (ps qs : List Place) (i j : ℕ) → is_pair i j ≡ true → 0 < lies (n.draw i j) ps
    → DrawnOne n ps qs i j None → ⊥
draws n ps qs i j pair some d = let e = d.0 pair in omega arith

module _ (n : Lanes) (ps qs : List Place) (i j : ℕ) (g : Grant) (d : DrawnOne n ps qs i j (Some g)) where
  -- the buffer is out after the draw
  pub DrawnOne-out : place_at qs g.buffer ≡ Out
  DrawnOne-out = ap (λ (rs : List Place). place_at rs g.buffer) d.3 ∙ set_out_at ps g.buffer

  -- every other buffer stays where it is
  pub DrawnOne-other : (b : ℕ) → b ≢ g.buffer → place_at qs b ≡ place_at ps b
  DrawnOne-other b ne = ap (λ (rs : List Place). place_at rs b) d.3 ∙ get_or-set_other ps g.buffer b Out Out ne

  -- handed back for the same pair, it is taken in, and every place is as before the draw
  pub DrawnOne-back : (takes_in i j g.buffer qs ≡ true) × (handed_in (n.draw i j) i j g.buffer qs ≡ ps)
  DrawnOne-back =
      let h = handed (n.draw i j) i j g.buffer qs d.0 DrawnOne-out in (
        h.0,
        h.1 ∙ ap (λ (rs : List Place). set rs g.buffer (Lane (n.draw i j))) d.3
            ∙ hand_back-draw (n.draw i j) ps g.buffer d.2,
      )

  -- a buffer that lies in a lane after the draw is another one
  pub DrawnOne-apart : (b l : ℕ) → place_at qs b ≡ Lane l → b ≢ g.buffer
  DrawnOne-apart b l e same =
      let f = sym DrawnOne-out ∙ ap (λ i. place_at qs i) (sym same) ∙ e in
      let z : ◌≡◌ {A = ℕ} 0 1 = cc in
      omega arith

  -- so two grants in a row are of two buffers
  pub never_twice : (rs : List Place) (k m : ℕ) (h : Grant) → DrawnOne n qs rs k m (Some h) → h.buffer ≢ g.buffer
  never_twice rs k m h next = DrawnOne-apart h.buffer (n.draw k m) next.2

  module _ (sized : length ps ≡ 256) where
    known : g.buffer < length ps
    known = let b = d.1 in omega arith

    -- the lane was not empty
    pub DrawnOne-held : 0 < lies (n.draw i j) ps
    DrawnOne-held = held (n.draw i j) ps g.buffer known d.2

    -- the lane has one less
    pub DrawnOne-lies : lies (n.draw i j) qs + 1 ≡ lies (n.draw i j) ps
    DrawnOne-lies = ap (λ (rs : List Place). lies (n.draw i j) rs + 1) d.3
        ∙ lies-draw (n.draw i j) ps g.buffer known d.2

    -- every other lane has as many as before
    pub DrawnOne-lies_other : (m : ℕ) → m ≢ n.draw i j → lies m qs ≡ lies m ps
    DrawnOne-lies_other m ne =
        ap (λ (rs : List Place). lies m rs) d.3 ∙ lies-draw_other (n.draw i j) m ps g.buffer known d.2 ne

    -- one more is out
    pub DrawnOne-lent : lent qs ≡ lent ps + 1
    DrawnOne-lent = ap lent d.3 ∙ lent-draw (n.draw i j) ps g.buffer known d.2

use Rattle.std.specs.Prelude.{ℕ, suc, Bool, true, false, if◌then◌else◌, ◌&&◌, List, [], ◌∷◌, ◌==◌, nat_le}
use Rattle.std.specs.Prelude.{slice_index_or}
use Rattle.pool.specs.declared.place.Place.{Place}
use Rattle.pool.specs.declared.place.Place.TheVariants.{Out, Lane}

-- what a pool fixes: the draw lane and the return lane of a sending side and a receiving worker, and the places of a
-- new pool
pub record Lanes : Type 0 where
  pub draw : ℕ → ℕ → ℕ
  pub return : ℕ → ℕ → ℕ
  pub full : List Place

-- the place of a buffer
abbrev pub place_at : List Place → ℕ → Place
place_at ps b = slice_index_or ps b Out

-- sides are 0 to 8, where 8 is the outside, and workers 0 to 7
abbrev pub is_pair : ℕ → ℕ → Bool
is_pair side worker = nat_le side 8 && nat_le worker 7

-- the place is in the lane
abbrev pub is_in : ℕ → Place → Bool
is_in l Out = false
is_in l (Lane m) = m == l

-- the place is out
abbrev pub is_out : Place → Bool
is_out Out = true
is_out (Lane m) = false

-- how many buffers lie in the lane
unfoldable pub lies : ℕ → List Place → ℕ
lies l [] = 0
lies l (p ∷ ps) = if is_in l p then suc (lies l ps) else lies l ps

-- how many buffers are out
unfoldable pub lent : List Place → ℕ
lent [] = 0
lent (p ∷ ps) = if is_out p then suc (lent ps) else lent ps

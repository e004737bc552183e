-- The two pools' lanes, and the lanes of a layout.
use Rattle.std.specs.Prelude.{◌≡◌, ℕ, ◌/◌, replicate, refl}
use Rattle.pool.specs.declared.place.Place.TheVariants.{Lane}
use Rattle.pool.specs.Lanes.{Lanes}
use Rattle.pool.specs.Stacks.{dealt_by, dealt}

-- the common pool: one lane, lane 0, with every buffer in it
abbrev pub common_lanes : Lanes
common_lanes = record { draw = λ i j. 0; return = λ i j. 0; full = replicate 256 (Lane 0) }

-- the receiver pool: a lane of 32 buffers for each receiving worker
abbrev pub receiver_lanes : Lanes
receiver_lanes = record { draw = λ i j. j; return = λ i j. j; full = dealt 32 }

-- the draw lane and the return lane of each pair, and the first lane of each buffer
abbrev pub lanes_by : (ℕ → ℕ → ℕ) → (ℕ → ℕ → ℕ) → (ℕ → ℕ) → Lanes
lanes_by draw return first = record { draw = draw; return = return; full = dealt_by first }

-- the two pools' lanes are those of their layouts
pub common_lanes-by : lanes_by (λ i j. 0) (λ i j. 0) (λ b. 0) ≡ common_lanes
common_lanes-by = refl

pub receiver_lanes-by : lanes_by (λ i j. j) (λ i j. j) (λ b. b / 32) ≡ receiver_lanes
receiver_lanes-by = refl

use Rattle.std.proofs.Common.{◌≡◌, ℕ, ◌<◌, ◌≤◌}
use Rattle.pool.specs.declared.place.Place.TheVariants.{Out, Lane}
use Rattle.pool.specs.Lanes.{place_at}
use Rattle.pool.proofs.shelf.Shelf.stocked.Given as goal

-- the buffers so far are in their first lanes, and the others are out
abbrev pub invariant-loop-b : goal.invariant-loop-b
invariant-loop-b g l =
    ((k : ℕ) → k < l.b → place_at l.shelf.places k ≡ Lane (g.L.Layout.first_lane k))
    × ((k : ℕ) → l.b ≤ k → place_at l.shelf.places k ≡ Out)

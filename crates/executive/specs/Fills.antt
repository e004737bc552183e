-- Filling a list with the lines of a collection.
use Rattle.std.specs.Prelude.{◌≡◌, ℕ, ◌≤◌, List, length, take, drop}
use Rattle.pool.specs.Lanes.{Lanes}
use Rattle.sequential.specs.declared.event.Line.{Line}
use Rattle.machine.specs.declared.plan.Plan.{Plan}
use Rattle.machine.specs.Machine.{Machine, collected, collected_to}
use Rattle.executive.specs.World.{DonesLent}

-- n lines of a list are written, from its front, by the collection that leads from a machine to another; the rest is
-- kept
pub record Fills (l : Lanes) (u : Plan) (s : Machine) (lines : List Line) (s' : Machine) (lines' : List Line)
    (n : ℕ) : Type 0 where
  pub within : n ≤ length lines
  pub rest : drop n lines' ≡ drop n lines
  pub does : DonesLent s → collected_to s' (take n lines') ≡ collected l u (length lines) s

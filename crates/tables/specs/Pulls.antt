-- What collecting one line leaves to the pool, and what the sends of a step must be.
use Rattle.std.specs.Prelude.{◌≡◌, ℕ, ◌<◌, List, Some, None, Option, slice_set}
use Rattle.model.specs.declared.reaction.Few.{Few}
use Rattle.model.specs.declared.reaction.Few.TheVariants.{Nothing, One, Two}
use Rattle.pool.specs.Lanes.{Lanes}
use Rattle.pool.specs.declared.place.Place.{Place}
use Rattle.sequential.specs.Events.{line_of}
use Rattle.sequential.specs.declared.event.Event.{Event}
use Rattle.sequential.specs.declared.event.Line.{Line}
use Rattle.machine.specs.declared.plan.Plan.{Plan}
use Rattle.machine.specs.Machine.{oldest, freed, returned, at}
use Rattle.tables.specs.declared.Tables.{Tables}
use Rattle.tables.specs.Meaning.{machine_of}

-- the oldest done event earlier than GVT, if any, is taken out as a line
abbrev pub Pulls : Tables → Tables → Option (ℕ × Line) → Type 0
Pulls t t' None = (pl : List Place) → (oldest (machine_of t pl) ≡ None) × (machine_of t' pl ≡ machine_of t pl)
Pulls t t' (Some r) =
    (l : Lanes) (u : Plan) (pl : List Place) →
    (oldest (machine_of t pl) ≡ Some r.0)
    × (r.1 ≡ line_of (at (machine_of t pl) r.0).event (at (machine_of t pl) r.0).outcome)
    × (machine_of t' (slice_set pl r.0 (returned l u r.1.event)) ≡ freed l u r.0 (machine_of t pl))

-- every message is for one of the 32 processes
abbrev pub Aimed : Few Event → Type 0
Aimed Nothing = Unit {0}
Aimed (One e) = e.process < 32
Aimed (Two e f) = (e.process < 32) × (f.process < 32)

-- Drawing the buffers of a step.
use Rattle.std.specs.Prelude.{◌≡◌, ℕ, true, false, List, map, Some, None, Option}
use Rattle.model.specs.Meaning.{listed, many}
use Rattle.model.specs.declared.reaction.Few.{Few}
use Rattle.pool.specs.Lanes.{Lanes}
use Rattle.pool.specs.declared.place.Place.{Place}
use Rattle.sequential.specs.declared.event.Event.{Event}
use Rattle.machine.specs.declared.plan.Plan.{Plan}
use Rattle.machine.specs.Machine.{home, outs}
use Rattle.machine.specs.Calls.{DrawnAll, enough}

-- the lanes that the messages of the worker w draw from, in their order
abbrev pub lanes_for : Lanes → Plan → ℕ → List Event → List ℕ
lanes_for l u w es = map (λ e. l.draw w (home u e.process)) es

-- the drawn buffers: one for each message, from its lane; or none at all where a lane has too few
abbrev pub DrawsFor : Lanes → Plan → ℕ → Few Event → List Place → List Place → Option (Few ℕ) → Type 0
DrawsFor l u w es pl pl' None = (enough pl (lanes_for l u w (listed es)) (lanes_for l u w (listed es)) ≡ false) ×
    (pl' ≡ pl)
DrawsFor l u w es pl pl' (Some bs) =
    (enough pl (lanes_for l u w (listed es)) (lanes_for l u w (listed es)) ≡ true)
    × DrawnAll pl (lanes_for l u w (listed es)) (listed bs)
    × (pl' ≡ outs (listed bs) pl)
    × (many bs ≡ many es)

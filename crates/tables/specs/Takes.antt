-- What absorbing leaves to the pool.
use Rattle.std.specs.Prelude.{◌≡◌, ℕ, true, List, is_some, Some, None, Option, slice_set}
use Rattle.pool.specs.Lanes.{Lanes}
use Rattle.pool.specs.declared.place.Place.{Place}
use Rattle.machine.specs.declared.plan.Plan.{Plan}
use Rattle.machine.specs.Machine.{absorbed, absorbed_to, returned, worker, first}
use Rattle.tables.specs.declared.Tables.{Tables}
use Rattle.tables.specs.declared.absorb.Freed.{Freed}
use Rattle.tables.specs.declared.absorb.Taken.{Taken}
use Rattle.tables.specs.Meaning.{machine_of}

-- an entry was absorbed: the machine is the absorption's, once a buffer that was freed has returned to the pool
abbrev pub Took : Plan → ℕ → Tables → Tables → ℕ → ℕ → Option Freed → Type 0
Took u w t t' undone cancelled None =
    (l : Lanes) (pl : List Place) →
    (is_some (first (worker (machine_of t pl) w).inbox) ≡ true)
    × (absorbed_to (machine_of t' pl) 0 undone cancelled ≡ absorbed l u w (machine_of t pl))
Took u w t t' undone cancelled (Some f) =
    (l : Lanes) (pl : List Place) →
    (first (worker (machine_of t pl) w).inbox ≡ Some f.buffer)
    × (absorbed_to (machine_of t' (slice_set pl f.buffer (returned l u f.event))) 1 undone cancelled
    ≡ absorbed l u w (machine_of t pl))

-- where there was no entry, nothing changes
abbrev pub Takes : Plan → ℕ → Tables → Tables → Option Taken → Type 0
Takes u w t t' None =
    (l : Lanes) (pl : List Place) →
    (first (worker (machine_of t pl) w).inbox ≡ None) × (machine_of t' pl ≡ machine_of t pl)
Takes u w t t' (Some x) = Took u w t t' x.undone x.cancelled x.freed

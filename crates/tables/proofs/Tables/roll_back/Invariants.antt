use Rattle.std.proofs.Common.{◌≡◌, ◌-◌, ◌*◌, ◌≤◌, List}
use Rattle.pool.specs.declared.place.Place.{Place}
use Rattle.machine.specs.Machine.{rolled, rollback, past}
use Rattle.machine.proofs.Steps.{added}
use Rattle.tables.specs.Meaning.{machine_of}
use Rattle.tables.proofs.Tables.roll_back.Given as goal

abbrev pub invariant-loop : goal.invariant-loop
invariant-loop l =
    ((pl : List Place) →
    added l.undone l.cancelled
    (rolled (256 - l.counter) l.plan l.worker.index l.choice.process (past l.choice.through l.choice.mark)
    (machine_of l.self pl)) ≡ rollback l.plan l.worker.index l.choice.process
    (past l.choice.through l.choice.mark) (machine_of l.initial.self pl))
    × (l.undone ≤ l.counter)
    × (l.cancelled ≤ 2 * l.counter)

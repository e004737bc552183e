use Rattle.std.proofs.Common.{[], ap, ◌∙◌}
use Rattle.pool.specs.Lanes.{Lanes}
use Rattle.machine.specs.Machine.{pending_again}
use Rattle.machine.proofs.Steps.{arrived_is}
use Rattle.tables.specs.Meaning.{machine_of}
use Rattle.tables.proofs.Tables.arrive.Goals as goal

pub returns : goal.returns
returns c = λ pl.
    let l : Lanes = record { draw = λ i j. i; return = λ i j. i; full = [] } in
    let p = c.pending_again-pending.ensures ∙ ap pending_again c.at.ensures.message in
    let a = arrived_is l c.args.plan.now c.args.worker.index c.args.buffer (machine_of c.args.self.now pl) _
    (rw p at c.roll_back-counts.ensures pl) in
    cc (c.put.ensures pl, p)

use Rattle.machine.proofs.Steps.{cancelled_transit, cancelled_other}
use Rattle.tables.specs.Meaning.{machine_of}
use Rattle.tables.proofs.Tables.cancel.Goals as goal

pub returns-in-Transit : goal.returns-in-Transit
returns-in-Transit c = λ pl.
    let d = cancelled_transit c.args.plan.now c.args.worker.index c.args.buffer (machine_of c.args.self.now pl)
    (rw c.at-message.ensures.message at c.in-Transit.is) in
    cc (c.mark.ensures pl, c.lower.ensures pl)

pub returns-in_default : goal.returns-in_default
returns-in_default c = λ pl.
    let d = cancelled_other c.args.plan.now c.args.worker.index c.args.buffer (machine_of c.args.self.now pl)
    (rw c.at-message.ensures.message at c.in_default.not-Transit) in
    cc (c.mark.ensures pl, c.lower.ensures pl, c.enter.ensures pl)

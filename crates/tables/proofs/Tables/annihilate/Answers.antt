use Rattle.machine.proofs.Steps.{annihilated_done, annihilated_other}
use Rattle.tables.specs.Meaning.{machine_of}
use Rattle.tables.proofs.Tables.annihilate.Goals as goal

pub returns-in-Done : goal.returns-in-Done
returns-in-Done c = λ l pl.
    let a = annihilated_done l c.args.plan.now c.args.worker.index c.args.buffer (machine_of c.args.self.now pl) _
    (rw c.at-message.ensures.message at c.in-Done.is)
    (rw c.at-message.ensures.message at c.roll_back-undone.ensures pl) in
    cc (c.wipe.ensures.machine l c.args.plan.now pl)

pub returns-in_default : goal.returns-in_default
returns-in_default c = λ l pl.
    let a = annihilated_other l c.args.plan.now c.args.worker.index c.args.buffer (machine_of c.args.self.now pl)
    (rw c.at-message.ensures.message at c.in_default.not-Done) in
    cc (c.wipe-in_default.ensures.machine l c.args.plan.now pl)

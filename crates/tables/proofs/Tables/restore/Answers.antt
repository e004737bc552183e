use Rattle.std.proofs.Common.{ap, ◌∙◌}
use Rattle.machine.specs.Machine.{pending_again}
use Rattle.machine.specs.declared.message.Message.{Message}
use Rattle.machine.proofs.Steps.{restored_is}
use Rattle.tables.specs.Meaning.{machine_of}
use Rattle.tables.proofs.Tables.restore.Goals as goal

pub returns : goal.returns
returns c = λ pl.
    let p = c.pending_again-pending.ensures ∙ ap pending_again c.at-message.ensures.message in
    let q = ap (λ (m : Message). m.event.process) p in
    restored_is c.args.buffer _ (machine_of c.args.self.now pl) _ _
    (rw (c.at-message.ensures.message, q) at c.put_process.ensures pl) p (c.put.ensures pl)

-- The buffers in use are those that are out.
use Rattle.std.proofs.Common.{count_by, sym, ap, ◌∙◌}
use Rattle.machine.specs.declared.message.Message.{Message}
use Rattle.executive.specs.Running.{world}
use Rattle.executive.specs.Runs.{is_in_use}
use Rattle.executive.proofs.Groups.{reached_out}
use Rattle.executive.proofs.Executive.make_group.Goals as goal

pub returns-clause-out : goal.returns-clause-out
returns-clause-out g c =
    let x = c.make_all.new.self in
    c.in_use.ensures ∙ ap (count_by (λ (m : Message). is_in_use m.phase)) c.as_slice.ensures
    ∙ sym (reached_out (world x) x.proper x.reached)

use Rattle.std.proofs.Common.{◌<◌, length, arith}
use Rattle.machine.specs.Machine.{later}
use Rattle.choice.proofs.Turns.{none_chosen}
use Rattle.choice.proofs.Pasts.{none_past}
use Rattle.choice.proofs.records.Records.latest.Goals as goal

pub returns-then-self-process : goal.returns-then-self-process
returns-then-self-process c =
    let x = c.args.choice.now in
    none_chosen _ later c.args.self.now
    (λ k h.
    let i : k < length c.self.inside.records = rw (c.self.view_is) h in
    rw (← c.self.view_is)
    (none_past c.self.inside.done_until c.self.inside.records x.process x.through x.mark c.self.invariant.3
    (omega arith) k (omega (arith, c.self.invariant.0))))

use Rattle.std.proofs.Common.{◌≡◌, ◌*◌, drop}
use Rattle.machine.specs.Machine.{least_time}
use Rattle.choice.specs.Turn.{passes}
use Rattle.choice.proofs.records.Records.least_time.Given as goal

abbrev pub invariant-loop-block : goal.invariant-loop-block
invariant-loop-block g l = least_time (passes (g.C.Choice.ok l.choice)) (drop (16 * l.block) l.self) l.least
    ≡ least_time (passes (g.C.Choice.ok l.choice)) l.self l.t

abbrev pub invariant-loop-b : goal.invariant-loop-b
invariant-loop-b g l = least_time (passes (g.C.Choice.ok l.choice)) (drop l.b l.self) l.least
    ≡ least_time (passes (g.C.Choice.ok l.choice)) l.self l.t

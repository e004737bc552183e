use Rattle.std.proofs.Common.{◌≡◌, ◌+◌, ◌*◌, ◌≤◌, drop}
use Rattle.machine.specs.Machine.{counted}
use Rattle.choice.specs.Turn.{passes}
use Rattle.choice.proofs.records.Records.count.Given as goal

abbrev pub invariant-loop-block : goal.invariant-loop-block
invariant-loop-block g l =
    (l.n + counted (passes (g.C.Choice.ok l.choice)) (drop (16 * l.block) l.self)
    ≡ counted (passes (g.C.Choice.ok l.choice)) l.self)
    × (l.n ≤ 16 * l.block)

abbrev pub invariant-loop-b : goal.invariant-loop-b
invariant-loop-b g l =
    (l.n + counted (passes (g.C.Choice.ok l.choice)) (drop l.b l.self)
    ≡ counted (passes (g.C.Choice.ok l.choice)) l.self)
    × (l.n ≤ l.b)

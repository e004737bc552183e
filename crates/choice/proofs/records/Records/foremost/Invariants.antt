use Rattle.std.proofs.Common.{◌≡◌, ◌*◌, None}
use Rattle.choice.specs.Turn.{chosen_from, passes}
use Rattle.choice.proofs.records.Records.foremost.Given as goal

abbrev pub invariant-loop-block : goal.invariant-loop-block
invariant-loop-block g l = chosen_from (passes (g.C.Choice.ok l.choice)) (g.C.Choice.before l.choice) l.self
    (16 * l.block) l.best ≡ chosen_from (passes (g.C.Choice.ok l.choice)) (g.C.Choice.before l.choice) l.self 0 None

abbrev pub invariant-loop-b : goal.invariant-loop-b
invariant-loop-b g l = chosen_from (passes (g.C.Choice.ok l.choice)) (g.C.Choice.before l.choice) l.self l.b l.best
    ≡ chosen_from (passes (g.C.Choice.ok l.choice)) (g.C.Choice.before l.choice) l.self 0 None

use Rattle.std.proofs.Common.{arith}
use Rattle.machine.specs.Machine.{past}
use Rattle.machine.proofs.Steps.{rolled_stop, rolled-end, rolled-turn}
use Rattle.tables.proofs.Tables.roll_back.Goals as goal

pub returns-in_default : goal.returns-in_default
returns-in_default c = λ pl.
    rolled_stop c.args.plan.now c.args.worker.index c.args.choice.now.process
    (past c.args.choice.now.through c.args.choice.now.mark) _ _ _ _ _ (c.in_default.ensures pl)
    (c.loop.invariant.0 pl)

pub loop-preserved : goal.loop-preserved
loop-preserved c = (
  λ pl. rolled-turn c.args.plan.now c.args.worker.index c.args.choice.now.process
      (past c.args.choice.now.through c.args.choice.now.mark) _ _ c.in-Some.b _ _ _ _ _ _ (omega arith)
      (c.in-Some.ensures pl) c.undo-cancelled.ensures.count (c.undo-cancelled.ensures.machine pl)
      (c.loop.invariant.0 pl),
  omega arith,
  omega arith,
)

pub returns-after-loop : goal.returns-after-loop
returns-after-loop c = λ pl.
    rolled-end c.args.plan.now c.args.worker.index c.args.choice.now.process
    (past c.args.choice.now.through c.args.choice.now.mark) _ _ _ _ _ (omega arith) (c.loop.invariant.0 pl)

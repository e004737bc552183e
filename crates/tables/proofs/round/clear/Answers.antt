use Rattle.std.proofs.Common.{arith}
use Rattle.std.proofs.lemmas.List.Edits.{map_over_more}
use Rattle.machine.specs.Machine.{clearing}
use Rattle.tables.proofs.round.clear.Goals as goal

pub loop-worker-preserved : goal.loop-worker-preserved
loop-worker-preserved c = rw (← c.worker-item.is) (map_over_more (clearing c.args.end) c.args.workers.now
    c.loop-worker.workers c.loop-worker.worker-index c.worker-item.result (omega arith) c.loop-worker.invariant
    c.worker-item.is)

use Rattle.std.proofs.Common.{◌≡◌, ◌++◌, map, take, drop}
use Rattle.machine.specs.Machine.{clearing}
use Rattle.tables.proofs.round.clear.Given as goal

-- the workers so far are cleared, and the others are as they were
abbrev pub invariant-loop-worker : goal.invariant-loop-worker
invariant-loop-worker l =
    l.workers ≡ map (clearing l.end) (take l.worker-index l.initial.workers) ++ drop l.worker-index l.initial.workers

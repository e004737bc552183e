use Rattle.std.proofs.Common.{◌≤◌}
use Rattle.burst.proofs.sum_up.Given as goal

-- no more are served than lines were seen
abbrev pub invariant-loop-line : goal.invariant-loop-line
invariant-loop-line l = l.served ≤ l.line-index

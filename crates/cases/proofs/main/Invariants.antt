use Rattle.std.proofs.Common.{◌≤◌}
use Rattle.cases.proofs.main.Given as goal

-- no more agree than were run
abbrev pub invariant-loop-number : goal.invariant-loop-number
invariant-loop-number l = l.agreeing ≤ l.number-counter

use Rattle.std.proofs.Common.{◌≡◌, drop}
use Rattle.machine.specs.Machine.{inbox_time}
use Rattle.tables.proofs.round.inbox_time.Given as goal

abbrev pub invariant-loop-i : goal.invariant-loop-i
invariant-loop-i l = inbox_time l.records (drop l.i l.inbox) l.least ≡ inbox_time l.records l.inbox l.time

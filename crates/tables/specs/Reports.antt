-- Who has not reported.
use Rattle.std.specs.Prelude.{Bool, not, is_some}
use Rattle.machine.specs.Machine.{Worker}

-- a worker has not reported in the open round
abbrev pub is_missing : Worker → Bool
is_missing x = not (is_some x.report)

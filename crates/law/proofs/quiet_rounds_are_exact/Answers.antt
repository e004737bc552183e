use Rattle.law.proofs.quiet_rounds_are_exact.Goals as goal
use Rattle.law.proofs.Exact.{quiet_rounds_are_exact}

pub returns : goal.returns
returns c = quiet_rounds_are_exact

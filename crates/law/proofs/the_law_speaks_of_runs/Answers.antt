use Rattle.law.proofs.the_law_speaks_of_runs.Goals as goal
use Rattle.law.proofs.Worked.{speaks}

pub returns : goal.returns
returns c = speaks

use Rattle.law.proofs.runs_are_lawful.Goals as goal
use Rattle.law.proofs.Law.{lawful}

pub returns : goal.returns
returns c = lawful

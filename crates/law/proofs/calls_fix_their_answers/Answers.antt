use Rattle.law.proofs.calls_fix_their_answers.Goals as goal
use Rattle.law.proofs.Fixed.{answers_fixed}

pub returns : goal.returns
returns c = answers_fixed

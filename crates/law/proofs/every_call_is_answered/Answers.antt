use Rattle.law.proofs.every_call_is_answered.Goals as goal
use Rattle.law.proofs.Answered.{every_call_is_answered}

pub returns : goal.returns
returns c = every_call_is_answered

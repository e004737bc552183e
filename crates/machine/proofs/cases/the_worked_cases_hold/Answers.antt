use Rattle.machine.proofs.Worked.{worked}
use Rattle.machine.proofs.cases.the_worked_cases_hold.Goals as goal

pub returns : goal.returns
returns c = worked

-- The worked cases hold by computation.
use Rattle.std.proofs.Common.{refl}
use Rattle.pool.specs.Lanes.{lies}
use Rattle.sequential.specs.Events.{applied}
use Rattle.sequential.specs.Run.{fresh}
use Rattle.machine.specs.Machine
use Rattle.machine.specs.Calls.{refusal, lanes_drawn, does, answers}
use Rattle.machine.specs.Cases.{TheWorkedCasesHold}

pub worked : TheWorkedCasesHold
unfolding lies applied fresh Machine.started_with Machine.started Machine.sent Machine.freed Machine.foremost
    Machine.cancelled Machine.cancelled_all Machine.undone Machine.rolled Machine.enter Machine.lower Machine.arrived
    Machine.annihilated Machine.popped Machine.report_of Machine.with_report Machine.remaining Machine.absorbed
    Machine.sent_all
    Machine.stepped_by Machine.opened Machine.reported Machine.collected refusal lanes_drawn does answers
worked = (refl, refl, refl, (refl, refl), refl)

use Rattle.std.proofs.Common.{[], List, ap, ◌∙◌}
use Rattle.model.specs.Meaning.{listed}
use Rattle.pool.specs.declared.place.Place.{Place}
use Rattle.machine.specs.Machine.{outs, Machine}
use Rattle.machine.proofs.Steps.{stepped_is, stepped-posted}
use Rattle.tables.specs.Meaning.{machine_of}
use Rattle.tables.proofs.Tables.step.Goals as goal

pub returns : goal.returns
returns c =
    let did = λ (pl : List Place).
    stepped_is c.args.plan.now c.args.worker.index c.args.buffer c.args.outcome.now c.args.buffers
    (machine_of c.args.self.now pl) _ _ _ _
    (c.send_few.ensures pl)
    (rw (c.at.ensures.message, c.due.ensures.process, c.due.ensures.event) at c.put.ensures
    (outs (listed c.args.buffers) pl))
    (rw (c.due.ensures.process, c.due.ensures.event) at c.after.ensures)
    (rw c.due.ensures.event at c.put_process.ensures (outs (listed c.args.buffers) pl)) in
    record {
      posted = ap (λ (s : Machine). s.posted) (did []) ∙ stepped-posted c.args.plan.now c.args.worker.index
          c.args.buffer c.args.outcome.now c.args.buffers (machine_of c.args.self.now []);
      machine = did;
    }

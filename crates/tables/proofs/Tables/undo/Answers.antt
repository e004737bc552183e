use Rattle.std.proofs.Common.{sym, ap, arith}
use Rattle.model.specs.Meaning.{many}
use Rattle.machine.proofs.Steps.{undone_none, undone_one, undone_two}
use Rattle.tables.specs.Meaning.{machine_of}
use Rattle.tables.proofs.Tables.undo.Goals as goal

pub returns-in-Nothing : goal.returns-in-Nothing
returns-in-Nothing c = record {
  machine = λ pl.
      let d = undone_none c.args.plan.now c.args.worker.index c.args.buffer (machine_of c.args.self.now pl)
      (rw c.at.ensures.message at c.in-Nothing.is) in
      cc (c.restore.ensures pl);
  count = sym (ap many (rw c.at.ensures.message at c.in-Nothing.is));
  few = omega arith;
}

pub returns-in-One : goal.returns-in-One
returns-in-One c = record {
  machine = λ pl.
      let d = undone_one c.args.plan.now c.args.worker.index c.args.buffer (machine_of c.args.self.now pl) c.in-One.x
      (rw c.at.ensures.message at c.in-One.is) in
      cc (c.restore.ensures pl, c.cancel.ensures pl);
  count = sym (ap many (rw c.at.ensures.message at c.in-One.is));
  few = omega arith;
}

pub returns-in-Two : goal.returns-in-Two
returns-in-Two c = record {
  machine = λ pl.
      let d = undone_two c.args.plan.now c.args.worker.index c.args.buffer (machine_of c.args.self.now pl) c.in-Two.x
      c.in-Two.y (rw c.at.ensures.message at c.in-Two.is) in
      cc (c.restore.ensures pl, c.cancel-in-Two.ensures pl, c.cancel-in-Two-2.ensures pl);
  count = sym (ap many (rw c.at.ensures.message at c.in-Two.is));
  few = omega arith;
}

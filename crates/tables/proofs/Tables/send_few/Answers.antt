use Rattle.std.proofs.Common.{set, sym, ap, ◌∙◌}
use Rattle.model.specs.Meaning.{many}
use Rattle.pool.specs.declared.place.Place.TheVariants.{Out}
use Rattle.machine.proofs.Steps.{sent_none, sent_one, sent_two, many_none}
use Rattle.tables.specs.Meaning.{machine_of}
use Rattle.tables.proofs.Tables.send_few.Goals as goal

pub returns-in-Nothing : goal.returns-in-Nothing
returns-in-Nothing c = λ pl.
    let b = many_none c.args.buffers (c.requires.many ∙ ap many c.in-Nothing.is) in
    rw (b, c.in-Nothing.is) (sym (sent_none c.args.plan.now c.args.worker.index (machine_of c.args.self.now pl)))

pub returns-in-One-buffers : goal.returns-in-One-buffers
returns-in-One-buffers c = λ pl.
    let a = sent_one c.args.plan.now c.args.worker.index (machine_of c.args.self.now pl) c.in-One-buffers.b c.in-One.e
    in
    rw (c.in-One-buffers.is, c.in-One.is) (cc (c.send.ensures pl, c.lower.ensures (set pl c.in-One-buffers.b Out)))

pub returns-in-Two-buffers : goal.returns-in-Two-buffers
returns-in-Two-buffers c = λ pl.
    let a = sent_two c.args.plan.now c.args.worker.index (machine_of c.args.self.now pl) c.in-Two-buffers.b
    c.in-Two-buffers.c c.in-Two.e c.in-Two.f in
    let p = set pl c.in-Two-buffers.b Out in
    let q = set p c.in-Two-buffers.c Out in
    rw (c.in-Two-buffers.is, c.in-Two.is)
    (cc (
      c.send-in-Two-buffers.ensures pl,
      c.lower-in-Two-buffers.ensures p,
      c.send-in-Two-buffers-2.ensures p,
      c.lower-in-Two-buffers-2.ensures q,
    ))

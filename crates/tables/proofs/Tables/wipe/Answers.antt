use Rattle.std.proofs.Common.{[], set, ap}
use Rattle.machine.specs.declared.message.Message.{Message}
use Rattle.machine.specs.Machine.{freed, returned, at}
use Rattle.tables.specs.Meaning.{machine_of}
use Rattle.tables.proofs.Tables.wipe.Goals as goal

pub returns : goal.returns
unfolding freed
returns c = record {
  event = ap (λ (m : Message). m.event) c.at.ensures.message;
  posted = ap (λ s. s.posted) (c.put.ensures []);
  machine =
      λ l u pl.
      cc (c.put.ensures
      (set pl c.args.buffer (returned l u (at (machine_of c.args.self.now pl) c.args.buffer).event)));
}

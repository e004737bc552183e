use Rattle.std.proofs.Common.{set}
use Rattle.pool.specs.declared.place.Place.TheVariants.{Out}
use Rattle.machine.specs.Machine.{sent}
use Rattle.tables.proofs.Tables.send.Goals as goal

pub returns : goal.returns
unfolding sent
returns c = λ pl. cc (c.put.ensures (set pl c.args.buffer Out), c.enter.ensures (set pl c.args.buffer Out))

use Rattle.std.proofs.Common.{refl}
use Rattle.machine.specs.Machine.{started_with}
use Rattle.tables.proofs.Tables.start.Goals as goal

pub returns : goal.returns
unfolding started_with
returns c = record { posted = refl; machine = λ pl. cc (c.new.ensures, c.fresh_workers.ensures) }

-- The tables start as the machine does, over a pool that is new.
use Rattle.std.proofs.Common.{refl, ◌∙◌}
use Rattle.machine.specs.Machine.{started}
use Rattle.executive.specs.Running.{set_up}
use Rattle.executive.proofs.Reached.{reached_start}
use Rattle.executive.proofs.Setup.start.Goals as goal

pub invariant_of-result-clause-reached : goal.invariant_of-result-clause-reached
unfolding started
invariant_of-result-clause-reached g c = reached_start (set_up c.args.self) _
    (c.start-tables.ensures.machine _ ∙ cc (c.args.self.unused, c.fresh_processes-processes.ensures))

pub returns : goal.returns
unfolding started
returns g c = record {
  model = refl;
  plan = refl;
  begins = c.start-tables.ensures.machine _ ∙ cc (c.args.self.unused, c.fresh_processes-processes.ensures);
}

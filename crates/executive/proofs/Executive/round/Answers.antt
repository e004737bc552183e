-- A round that is open refuses; else it opens.
use Rattle.std.proofs.Common.{refl}
use Rattle.machine.specs.Calls.{refusal}
use Rattle.executive.proofs.Does.{round_goes}
use Rattle.executive.proofs.Goings.{refuses, then_reached}
use Rattle.executive.proofs.Executive.round.Goals as goal

pub returns-then-self : goal.returns-then-self
unfolding refusal
returns-then-self g c = refuses c.args.self.now (rw c.if-self.true)

pub invariant_of-self-clause-reached : goal.invariant_of-self-clause-reached
invariant_of-self-clause-reached g c = then_reached c.args.self.now
    (round_goes c.if-self.false (c.open.ensures.machine _))

pub returns : goal.returns
returns g c = record { model = refl; plan = refl; does = round_goes c.if-self.false (c.open.ensures.machine _) }

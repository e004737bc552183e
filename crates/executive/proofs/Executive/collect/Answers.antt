-- The lines written are the collection's, and those left are counted after it.
use Rattle.std.proofs.Common.{refl}
use Rattle.executive.proofs.Collects.{collect_goes}
use Rattle.executive.proofs.Goings.{lends, then_reached}
use Rattle.executive.proofs.Executive.collect.Goals as goal

pub invariant_of-self-clause-reached : goal.invariant_of-self-clause-reached
invariant_of-self-clause-reached g c =
    let x = c.args.self.now in
    then_reached x (collect_goes _ _ _ _ _ _ (c.fill-written.ensures.does (lends x).dones) refl)

pub returns : goal.returns
returns g c =
    let x = c.args.self.now in
    let does = collect_goes _ _ _ _ c.remaining.result _ (c.fill-written.ensures.does (lends x).dones)
    (c.remaining.ensures _) in
    record {
      within = c.fill-written.ensures.within;
      rest = c.fill-written.ensures.rest;
      makes = record { model = refl; plan = refl; does = does };
    }

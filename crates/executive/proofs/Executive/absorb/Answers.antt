-- The rows of refusals in their order; else the machine's absorption, and the buffer of a message that is gone returns.
use Rattle.std.proofs.Common.{refl, arith}
use Rattle.std.proofs.lemmas.Bool.Decides.{nat_tests}
use Rattle.machine.specs.Calls.{refusal}
use Rattle.machine.specs.declared.call.Call.TheVariants.{Absorb}
use Rattle.executive.specs.Running.{world}
use Rattle.executive.proofs.Absorbs.{absorb_came, absorb_gone, absorb_lacks}
use Rattle.executive.proofs.Does.{at_worker, found, no_worker, refused, refused_by}
use Rattle.executive.proofs.Goings.{lends, still_reached, then_reached}
use Rattle.executive.proofs.Executive.absorb.Goals as goal

pub returns-in_err-worker : goal.returns-in_err-worker
unfolding refusal
returns-in_err-worker g c =
    let x = c.args.self.now in
    let h = no_worker x.plan.workers c.args.worker c.of.result c.of.ensures c.in_err-worker.ensures.ok_part in
    rw (refused_by c.from_residual.result c.of.result c.from_residual.ensures.1 c.in_err-worker.ensures.value)
    (record { model = refl; plan = refl; does = refused (grind (arith, nat_tests)) refl })

pub invariant_of-self-in-Break-branch-2 : goal.invariant_of-self-in-Break-branch-2
invariant_of-self-in-Break-branch-2 g c =
    let x = c.args.self.now in
    let i = found x.plan.workers c.args.worker c.of.result c.of.ensures c.in_ok-worker.ensures.ok_part in
    let lacks = absorb_lacks (world x) x.tables c.absorb.new.self (g.P.Pool.places x.pool) c.absorb.ensures.does
    c.in_err-taken.ensures.ok_part i.1 in
    record { proper = x.proper; reached = still_reached x lacks.1 }

pub returns-in_err-taken : goal.returns-in_err-taken
returns-in_err-taken g c =
    let x = c.args.self.now in
    let i = found x.plan.workers c.args.worker c.of.result c.of.ensures c.in_ok-worker.ensures.ok_part in
    let lacks = absorb_lacks (world x) x.tables c.absorb.new.self (g.P.Pool.places x.pool) c.absorb.ensures.does
    c.in_err-taken.ensures.ok_part i.1 in
    rw (refused_by c.from_residual-in_err-taken.result c.absorb.result c.from_residual-in_err-taken.ensures.1
    c.in_err-taken.ensures.value)
    (record { model = refl; plan = refl; does = at_worker Absorb i.0 (refused lacks.0 lacks.1) })

pub invariant_of-self-in-None : goal.invariant_of-self-in-None
invariant_of-self-in-None g c =
    let x = c.args.self.now in
    let i = found x.plan.workers c.args.worker c.of.result c.of.ensures c.in_ok-worker.ensures.ok_part in
    let does = absorb_came (world x) x.tables c.absorb.new.self _ c.absorb.ensures.does c.in_ok-taken.taken
    c.in_ok-taken.ensures.ok_part i.1 c.in-None.is in
    record { proper = x.proper; reached = then_reached x does }

pub returns-in-None : goal.returns-in-None
returns-in-None g c =
    let x = c.args.self.now in
    let i = found x.plan.workers c.args.worker c.of.result c.of.ensures c.in_ok-worker.ensures.ok_part in
    let does = absorb_came (world x) x.tables c.absorb.new.self _ c.absorb.ensures.does c.in_ok-taken.taken
    c.in_ok-taken.ensures.ok_part i.1 c.in-None.is in
    record { model = refl; plan = refl; does = at_worker Absorb i.0 does }

pub invariant_of-self-in-Some-clause-reached : goal.invariant_of-self-in-Some-clause-reached
invariant_of-self-in-Some-clause-reached g c =
    let x = c.args.self.now in
    let i = found x.plan.workers c.args.worker c.of.result c.of.ensures c.in_ok-worker.ensures.ok_part in
    then_reached x (absorb_gone (world x) x.tables c.absorb.new.self _ c.absorb.ensures.does c.in_ok-taken.taken
    c.in_ok-taken.ensures.ok_part i.1
    (g.P.Pool.places c.give_back.new.pool) c.in-Some.is (lends x) c.give_back.ensures)

pub returns-in-Some : goal.returns-in-Some
returns-in-Some g c =
    let x = c.args.self.now in
    let i = found x.plan.workers c.args.worker c.of.result c.of.ensures c.in_ok-worker.ensures.ok_part in
    let does = absorb_gone (world x) x.tables c.absorb.new.self _ c.absorb.ensures.does c.in_ok-taken.taken
    c.in_ok-taken.ensures.ok_part i.1
    (g.P.Pool.places c.give_back.new.pool) c.in-Some.is (lends x) c.give_back.ensures in
    record { model = refl; plan = refl; does = at_worker Absorb i.0 does }

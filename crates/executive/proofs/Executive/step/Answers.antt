-- The rows of refusals in their order; else the event is applied, and its messages go into the buffers drawn.
use Rattle.std.proofs.Common.{sym, refl, ap, subst, arith}
use Rattle.std.proofs.lemmas.Bool.Decides.{nat_tests}
use Rattle.sequential.specs.declared.event.Outcome.{Outcome}
use Rattle.machine.specs.Calls.{refusal}
use Rattle.machine.specs.declared.call.Call.TheVariants.{Step}
use Rattle.tables.specs.Meaning.{machine_of}
use Rattle.tables.specs.Pulls.{Aimed}
use Rattle.tables.proofs.Applied.{applied_aimed}
use Rattle.executive.specs.Running.{machine, world}
use Rattle.executive.proofs.Does.{at_worker, found, no_worker, refused, refused_by}
use Rattle.executive.proofs.Goings.{still_reached, then_reached}
use Rattle.executive.proofs.Steps.{step_waits, step_lacks, step_goes}
use Rattle.executive.proofs.Executive.step.Goals as goal

pub returns-in_err-worker : goal.returns-in_err-worker
unfolding refusal
returns-in_err-worker g c =
    let x = c.args.self.now in
    let h = no_worker x.plan.workers c.args.worker c.of.result c.of.ensures c.in_err-worker.ensures.ok_part in
    rw (refused_by c.from_residual.result c.of.result c.from_residual.ensures.1 c.in_err-worker.ensures.value)
    (record { model = refl; plan = refl; does = refused (grind (arith, nat_tests)) refl })

pub returns-in_err-b : goal.returns-in_err-b
returns-in_err-b g c =
    let x = c.args.self.now in
    let i = found x.plan.workers c.args.worker c.of.result c.of.ensures c.in_ok-worker.ensures.ok_part in
    let waits = step_waits (world x) (machine x) c.in_ok-worker.worker.index i.1
    (c.next.ensures (g.P.Pool.places x.pool)) c.in_err-b.ensures.ok_part in
    rw (refused_by c.from_residual-in_err-b.result c.next.result c.from_residual-in_err-b.ensures.1
    c.in_err-b.ensures.value)
    (record { model = refl; plan = refl; does = at_worker Step i.0 (refused waits refl) })

pub invariant_of-self-in-Break-branch-3 : goal.invariant_of-self-in-Break-branch-3
invariant_of-self-in-Break-branch-3 g c =
    let x = c.args.self.now in
    let i = found x.plan.workers c.args.worker c.of.result c.of.ensures c.in_ok-worker.ensures.ok_part in
    let lacks = step_lacks (world x) (machine x) c.in_ok-worker.worker.index i.1
    (c.next.ensures (g.P.Pool.places x.pool)) c.in_ok-b.ensures.ok_part
    c.due.ensures.event c.due.ensures.process c.apply-outcome.ensures.value c.draw_for-drawn.ensures
    c.in_err-buffers.ensures.ok_part in
    record { proper = x.proper; reached = still_reached x (ap (machine_of x.tables) lacks.1) }

pub returns-in_err-buffers : goal.returns-in_err-buffers
returns-in_err-buffers g c =
    let x = c.args.self.now in
    let i = found x.plan.workers c.args.worker c.of.result c.of.ensures c.in_ok-worker.ensures.ok_part in
    let lacks = step_lacks (world x) (machine x) c.in_ok-worker.worker.index i.1
    (c.next.ensures (g.P.Pool.places x.pool)) c.in_ok-b.ensures.ok_part
    c.due.ensures.event c.due.ensures.process c.apply-outcome.ensures.value c.draw_for-drawn.ensures
    c.in_err-buffers.ensures.ok_part in
    rw (refused_by c.from_residual-in_err-buffers.result c.draw_for-drawn.result
    c.from_residual-in_err-buffers.ensures.1 c.in_err-buffers.ensures.value)
    (record {
      model = refl;
      plan = refl;
      does = at_worker Step i.0
          (refused lacks.0 (ap (machine_of x.tables) lacks.1));
    })

pub step-requires-clause-aimed : goal.step-requires-clause-aimed
step-requires-clause-aimed g c =
    let x = c.args.self.now in
    subst (λ (o : Outcome). Aimed o.sends) (sym c.apply-outcome.ensures.value)
    (applied_aimed (world x).model x.plan.limits _ _ (g.met.M.Model.sized x.model).1)

pub step-requires-clause-fits : goal.step-requires-clause-fits
step-requires-clause-fits g c = rw (← c.due.ensures.event, ← c.due.ensures.process) c.apply-outcome.ensures.room

pub invariant_of-self-2-clause-reached : goal.invariant_of-self-2-clause-reached
invariant_of-self-2-clause-reached g c =
    let x = c.args.self.now in
    let pl = g.P.Pool.places x.pool in
    let i = found x.plan.workers c.args.worker c.of.result c.of.ensures c.in_ok-worker.ensures.ok_part in
    then_reached x (step_goes (world x) (machine x) c.in_ok-worker.worker.index i.1 (c.next.ensures pl)
    c.in_ok-b.ensures.ok_part
    c.due.ensures.event c.due.ensures.process c.apply-outcome.ensures.value c.draw_for-drawn.ensures
    c.step.new.self c.in_ok-buffers.buffers c.in_ok-buffers.ensures.ok_part refl
    (c.step.ensures.machine pl))

pub returns : goal.returns
returns g c =
    let x = c.args.self.now in
    let pl = g.P.Pool.places x.pool in
    let i = found x.plan.workers c.args.worker c.of.result c.of.ensures c.in_ok-worker.ensures.ok_part in
    let does = step_goes (world x) (machine x) c.in_ok-worker.worker.index i.1 (c.next.ensures pl)
    c.in_ok-b.ensures.ok_part
    c.due.ensures.event c.due.ensures.process c.apply-outcome.ensures.value c.draw_for-drawn.ensures
    c.step.new.self c.in_ok-buffers.buffers c.in_ok-buffers.ensures.ok_part c.len.ensures
    (c.step.ensures.machine pl) in
    record { model = refl; plan = refl; does = at_worker Step i.0 does }

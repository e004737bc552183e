-- The rows of refusals in their order; else the report is taken, and the last one closes the round.
use Rattle.std.proofs.Common.{refl, sym, ◌∙◌, arith}
use Rattle.std.proofs.lemmas.Bool.Decides.{nat_tests}
use Rattle.machine.specs.Calls.{refusal}
use Rattle.machine.specs.declared.call.Call.TheVariants.{Report}
use Rattle.executive.proofs.Does.{at_worker, found, no_worker, refused, refused_by, report_goes}
use Rattle.executive.proofs.Goings.{refuses, then_reached}
use Rattle.executive.proofs.Executive.report.Goals as goal

pub returns-in_err-worker : goal.returns-in_err-worker
unfolding refusal
returns-in_err-worker g c =
    let x = c.args.self.now in
    let h = no_worker x.plan.workers c.args.worker c.of.result c.of.ensures c.in_err-worker.ensures.ok_part in
    rw (refused_by c.from_residual.result c.of.result c.from_residual.ensures.1 c.in_err-worker.ensures.value)
    (record { model = refl; plan = refl; does = refused (grind (arith, nat_tests)) refl })

pub returns-then-not-self : goal.returns-then-not-self
unfolding refusal
returns-then-not-self g c =
    let x = c.args.self.now in
    let i = found x.plan.workers c.args.worker c.of.result c.of.ensures c.in_ok-worker.ensures.ok_part in
    refuses x (grind (arith, nat_tests))

pub returns-then-has_reported : goal.returns-then-has_reported
unfolding refusal
returns-then-has_reported g c =
    let x = c.args.self.now in
    let i = found x.plan.workers c.args.worker c.of.result c.of.ensures c.in_ok-worker.ensures.ok_part in
    let h = c.has_reported.ensures (g.P.Pool.places x.pool) in
    record { model = refl; plan = refl; does = at_worker Report i.0 (refused (grind (arith, nat_tests)) refl) }

pub invariant_of-self-clause-reached : goal.invariant_of-self-clause-reached
invariant_of-self-clause-reached g c =
    let x = c.args.self.now in
    let pl = g.P.Pool.places x.pool in
    let i = found x.plan.workers c.args.worker c.of.result c.of.ensures c.in_ok-worker.ensures.ok_part in
    then_reached x (report_goes i.1 c.if-not-self.false (sym (c.has_reported.ensures pl) ∙ c.if-has_reported.false)
    (c.report-missing.ensures.missing pl) (c.report-missing.ensures.machine pl))

pub returns : goal.returns
returns g c =
    let x = c.args.self.now in
    let pl = g.P.Pool.places x.pool in
    let i = found x.plan.workers c.args.worker c.of.result c.of.ensures c.in_ok-worker.ensures.ok_part in
    record {
      model = refl;
      plan = refl;
      does = at_worker Report i.0 (report_goes i.1 c.if-not-self.false
          (sym (c.has_reported.ensures pl) ∙ c.if-has_reported.false)
          (c.report-missing.ensures.missing pl) (c.report-missing.ensures.machine pl));
    }

-- The rows of refusals in their order; else the post goes into the buffer that was drawn.
use Rattle.std.proofs.Common.{refl, ap, arith}
use Rattle.std.proofs.lemmas.Bool.Decides.{nat_tests}
use Rattle.machine.specs.Calls.{refusal}
use Rattle.tables.specs.Meaning.{machine_of}
use Rattle.executive.specs.Running.{machine, world}
use Rattle.executive.proofs.Does.{refused, refused_by}
use Rattle.executive.proofs.Goings.{capped, refuses, still_reached, then_reached}
use Rattle.executive.proofs.Posts.{post_lacks, post_goes}
use Rattle.executive.proofs.Executive.post.Goals as goal

pub returns-then-process-size : goal.returns-then-process-size
unfolding refusal
returns-then-process-size g c = refuses c.args.self.now (grind (arith, nat_tests))

pub returns-then-time-self : goal.returns-then-time-self
unfolding refusal
returns-then-time-self g c = refuses c.args.self.now (grind (arith, nat_tests))

pub returns-then-time-self-2 : goal.returns-then-time-self-2
unfolding refusal
returns-then-time-self-2 g c = refuses c.args.self.now (grind (arith, nat_tests))

pub returns-then-self : goal.returns-then-self
unfolding refusal
returns-then-self g c = refuses c.args.self.now (grind (arith, nat_tests))

pub invariant_of-self : goal.invariant_of-self
invariant_of-self g c =
    let x = c.args.self.now in
    let lacks = post_lacks (world x) (machine x) c.args.process c.args.time c.args.payload c.home_of-home.ensures
    (omega arith)
    c.if-time-self.false c.if-time-self-2.false c.if-self.false c.draw.ensures c.in_err-grant.ensures.ok_part
    c.home_of-home.result.low in
    record { proper = x.proper; reached = still_reached x (ap (machine_of x.tables) lacks.1) }

pub returns-in_err-grant : goal.returns-in_err-grant
returns-in_err-grant g c =
    let x = c.args.self.now in
    let lacks = post_lacks (world x) (machine x) c.args.process c.args.time c.args.payload c.home_of-home.ensures
    (omega arith)
    c.if-time-self.false c.if-time-self-2.false c.if-self.false c.draw.ensures c.in_err-grant.ensures.ok_part
    c.home_of-home.result.low in
    rw (refused_by c.from_residual.result c.draw.result c.from_residual.ensures.1 c.in_err-grant.ensures.value)
    (record { model = refl; plan = refl; does = refused lacks.0 (ap (machine_of x.tables) lacks.1) })

pub post-requires-clause-room : goal.post-requires-clause-room
post-requires-clause-room g c =
    let x = c.args.self.now in
    let most = x.plan.limits.caps.1 in
    omega (arith, capped x)

pub invariant_of-self-2-clause-reached : goal.invariant_of-self-2-clause-reached
invariant_of-self-2-clause-reached g c =
    let x = c.args.self.now in
    then_reached x (post_goes (world x) (machine x) c.args.process c.args.time c.args.payload c.home_of-home.ensures
    (omega arith) c.if-time-self.false
    c.if-time-self-2.false c.if-self.false c.draw.ensures c.post.new.self c.in_ok-grant.grant
    c.in_ok-grant.ensures.ok_part (g.met.P.Pool.sized x.pool) c.send.ensures c.post.ensures.number
    (c.post.ensures.machine (g.P.Pool.places x.pool)))

pub returns : goal.returns
returns g c =
    let x = c.args.self.now in
    record {
      model = refl;
      plan = refl;
      does = post_goes (world x) (machine x) c.args.process c.args.time c.args.payload c.home_of-home.ensures
          (omega arith)
          c.if-time-self.false
          c.if-time-self-2.false c.if-self.false c.draw.ensures c.post.new.self c.in_ok-grant.grant
          c.in_ok-grant.ensures.ok_part (g.met.P.Pool.sized x.pool) c.send.ensures c.post.ensures.number
          (c.post.ensures.machine (g.P.Pool.places x.pool));
    }

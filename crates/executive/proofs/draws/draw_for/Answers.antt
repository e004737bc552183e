-- What the pool grants, message by message.
use Rattle.executive.proofs.Few.{draws_none, draws_one, draws_two, draws_back}
use Rattle.executive.proofs.draws.draw_for.Goals as goal

pub returns-in-Nothing : goal.returns-in-Nothing
returns-in-Nothing g c = draws_none g.P.Pool.lanes c.args.plan.now c.args.worker.index _ c.in-Nothing.is

pub returns-in_ok-grant-in-One : goal.returns-in_ok-grant-in-One
returns-in_ok-grant-in-One g c = draws_one g.P.Pool.lanes c.args.plan.now c.args.worker.index _ c.in-One.only
    (g.met.P.Pool.sized c.args.pool.now) c.home_of.ensures
    c.in_ok-grant-in-One.grant c.in_ok-grant-in-One.ensures c.in-One.is c.send.ensures

pub returns-in-Some : goal.returns-in-Some
returns-in-Some g c = draws_two g.P.Pool.lanes c.args.plan.now c.args.worker.index _ c.in-Two.first
    (g.met.P.Pool.sized c.args.pool.now) c.home_of-first_home.ensures
    c.in_ok-one-in-Two.one c.in_ok-one-in-Two.ensures
    c.in-Two.second (g.met.P.Pool.sized c.draw-in-Two.new.self) c.home_of-in-Two.ensures
    c.in-Some.two c.in-Some.ensures c.in-Two.is c.send-in-Some.ensures c.send-in-Some-2.ensures

pub returns-in-None : goal.returns-in-None
returns-in-None g c = draws_back g.P.Pool.lanes c.args.plan.now c.args.worker.index _ c.in-Two.first
    (g.met.P.Pool.sized c.args.pool.now) c.home_of-first_home.ensures
    c.in_ok-one-in-Two.one c.in_ok-one-in-Two.ensures
    c.in-Two.second (g.met.P.Pool.sized c.draw-in-Two.new.self) c.home_of-in-Two.ensures
    c.in-None.ensures c.hand_back.ensures.after c.in-Two.is c.args.worker.low
    c.home_of-first_home.result.low c.home_of-in-Two.result.low

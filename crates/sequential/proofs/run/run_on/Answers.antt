-- Each turn writes the next line; with none waiting, or none left of the budget, all lines are written.
use Rattle.std.proofs.Common.{vec_items, deque_items, arith}
use Rattle.sequential.proofs.Lines.{spent, idled, written}
use Rattle.sequential.proofs.run.run_on.Goals as goal
use Rattle.sequential.proofs.run.run_on.Goals.{else-loop-test, then-loop-test+in_default}

pub loop-preserved : goal.loop-preserved
loop-preserved g c =
    written (g.M.Model.meaning c.args.model.now) c.args.limits.now c.args.budget c.loop.counter (vec_items c.loop.lines)
    c.loop.processes (deque_items c.loop.waiting) c.loop.invariant
    c.loop-test.true c.in-Some.ensures.items c.process_of-before.ensures c.apply-outcome.ensures.value c.after.ensures
    c.put_process.ensures c.line.ensures c.in_ok-push.ensures.items c.in_ok-enqueue_all.ensures

pub returns : goal.returns
returns g c = elim c.loop-test.branch [
  | else-loop-test w ↦ spent (g.M.Model.meaning c.args.model.now) c.args.limits.now c.args.budget c.loop.counter
      (vec_items c.loop.lines) c.loop.processes (deque_items c.loop.waiting) c.loop.invariant w.loop-test.false
  | then-loop-test+in_default w ↦ idled (g.M.Model.meaning c.args.model.now) c.args.limits.now c.args.budget
      c.loop.counter (vec_items c.loop.lines) c.loop.processes (deque_items c.loop.waiting) c.loop.invariant
      (let k = c.loop.waiting.ok.0 in let n = w.in_default.ensures.cases.0 in omega arith)
]

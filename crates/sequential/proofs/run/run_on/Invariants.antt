use Rattle.std.proofs.Common.{◌≡◌, ◌-◌, ◌++◌, vec_items, deque_items}
use Rattle.sequential.specs.Run.{fresh, lines}
use Rattle.sequential.proofs.run.run_on.Given as goal

-- the lines so far, and those from here, are all lines
abbrev pub invariant-loop : goal.invariant-loop
invariant-loop g l =
    lines (g.M.Model.meaning l.model) l.limits l.budget (fresh (g.M.Model.meaning l.model))
    (deque_items l.initial.waiting)
    ≡ vec_items l.lines ++ lines (g.M.Model.meaning l.model) l.limits (l.budget - l.counter) l.processes
    (deque_items l.waiting)

use Rattle.std.proofs.Common.{◌≡◌, [], drop, deque_items}
use Rattle.sequential.specs.Posts.{first_unfit, posted}
use Rattle.sequential.specs.Run.{queued_all}
use Rattle.sequential.proofs.run.accept.Given as goal

-- what is left of the posts gives the same as all of them
abbrev pub invariant-loop-i : goal.invariant-loop-i
invariant-loop-i g l =
    (first_unfit (g.M.Model.meaning l.model) l.limits 0 l.posts
    ≡ first_unfit (g.M.Model.meaning l.model) l.limits l.i (drop l.i l.posts))
    × (queued_all (posted 0 l.posts) [] ≡ queued_all (posted l.i (drop l.i l.posts)) (deque_items l.waiting))

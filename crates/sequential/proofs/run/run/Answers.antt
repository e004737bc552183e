-- The budget counts the posts as the definition does.
use Rattle.std.proofs.Common.{rules}
use Rattle.sequential.proofs.Lines.{length-posted}
use Rattle.sequential.proofs.run.run.Goals as goal

pub returns : goal.returns
returns g c = let n = length-posted 0 c.args.posts.now in let h = c.in_ok-waiting.ensures in let w = c.run_on.ensures in
    search rules

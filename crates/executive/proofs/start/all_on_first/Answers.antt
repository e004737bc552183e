-- Every process is on worker 0, and there is a worker 0.
use Rattle.std.proofs.Common.{ℕ, arith}
use Rattle.std.proofs.lemmas.List.{get_or-replicate}
use Rattle.executive.proofs.start.all_on_first.Goals as goal

pub invariant_of-result : goal.invariant_of-result
invariant_of-result c = record {
  staffed = (omega arith, omega arith);
  housed = λ p h. let w = c.requires.0 in rw (get_or-replicate {A = ℕ} 32 p 0 0 h) (omega arith);
}

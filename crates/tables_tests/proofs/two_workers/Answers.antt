use Rattle.std.proofs.Common.{ℕ, ◌<◌, get_or, replicate, arith}
use lib.ListN.{get_or-replicate}
use Rattle.tables_tests.proofs.two_workers.Goals as goal

housed : (p : ℕ) → p < 32 → get_or (replicate 32 0) p 0 < 2
housed p h = rw (get_or-replicate {A = ℕ} 32 p 0 0 h) (omega arith)

pub invariant_of-result-2 : goal.invariant_of-result-2
invariant_of-result-2 c = record { staffed = (omega arith, omega arith); housed = housed }

use Rattle.std.proofs.Common.{◌≡◌, ℕ, ◌+◌, ◌*◌, ◌<◌, false, get_or}
use Rattle.machine.specs.declared.message.Phase.TheVariants.{Free}
use Rattle.choice.proofs.records.Records.holds.Given as goal

abbrev pub invariant-loop-k : goal.invariant-loop-k
invariant-loop-k l = l.holds ≡ false → (k : ℕ) → k < l.k → get_or l.phases (16 * l.block + k) Free ≡ l.phase → ⊥

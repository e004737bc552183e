use Rattle.std.proofs.Common.{replicate, arith}
use lib.ListN.{get_or-replicate, length-replicate}
use Rattle.machine.specs.declared.message.Phase.TheVariants.{Free}
use Rattle.machine.specs.Machine.{blank}
use Rattle.choice.specs.Turn.{HasLowProcesses, Mirrored, Until}
use Rattle.choice.proofs.records.Records.new.Goals as goal

blank-Placed : HasLowProcesses (replicate 256 blank)
blank-Placed k lt = rw (get_or-replicate 256 k blank blank lt) (omega arith)

blank-Mirrored : Mirrored (replicate 256 Free) (replicate 256 blank)
blank-Mirrored k lt = rw (get_or-replicate 256 k Free Free lt, get_or-replicate 256 k blank blank lt)

blank-Until : Until (replicate 32 0) (replicate 256 blank)
blank-Until k lt = rw (get_or-replicate 256 k blank blank lt) (λ d. omega arith)

pub invariant_of-result : goal.invariant_of-result
invariant_of-result c = (length-replicate 256 blank, blank-Placed, blank-Mirrored, blank-Until)

use Rattle.std.proofs.Common.{◌≡◌, length}
use Rattle.script.specs.Fields.{figure_of, figure_on}
use Rattle.script.proofs.field.figure.Given as goal

-- what is left goes on to the same figure
abbrev pub invariant-loop-next : goal.invariant-loop-next
invariant-loop-next l = figure_of l.rest ≡ figure_on l.n l.left

abbrev pub decreases-loop-next : goal.decreases-loop-next
decreases-loop-next l = length l.left

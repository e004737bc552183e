use Rattle.std.proofs.Common.{◌≡◌, ◌+◌, ◌≤◌, false, [], length, vec_items}
use Rattle.script.specs.Lines.{lines_of}
use Rattle.script.specs.Reading.{items_from}
use Rattle.script.proofs.read.read_items.Given as goal

-- the lines that are left give the same, behind the items so far
abbrev pub invariant-loop-rest : goal.invariant-loop-rest
invariant-loop-rest l = record {
  same : items_from l.heading [] false 4 (lines_of l.lines)
      ≡ items_from l.heading (vec_items l.items) l.begun l.number (lines_of l.rest);
  counts : l.number + length l.rest ≤ 4 + length l.lines;
}

abbrev pub decreases-loop-rest : goal.decreases-loop-rest
decreases-loop-rest l = length l.rest

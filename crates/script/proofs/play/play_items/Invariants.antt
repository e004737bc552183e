use Rattle.std.proofs.Common.{take}
use Rattle.script.specs.Play.{PlaysItems}
use Rattle.script.proofs.play.play_items.Given as goal

-- the items so far are played
abbrev pub invariant-loop-item : goal.invariant-loop-item
invariant-loop-item g l = PlaysItems l.initial.executive (take l.item-index l.items) l.initial.text l.text l.executive

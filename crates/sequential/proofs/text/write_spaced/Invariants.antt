use Rattle.std.proofs.Common.{◌≡◌, ◌++◌, take, string_bytes}
use Rattle.std.specs.List.{flat_map}
use Rattle.sequential.specs.Text.{behind}
use Rattle.sequential.proofs.text.write_spaced.Given as goal

-- the figures so far stand behind the text
abbrev pub invariant-loop-n : goal.invariant-loop-n
invariant-loop-n l = string_bytes l.text ≡ string_bytes l.initial.text ++ flat_map behind (take l.n-index l.numbers)

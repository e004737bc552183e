use Rattle.std.proofs.Common.{◌≡◌, ◌-◌, length, take, drop}
use Rattle.machine.specs.Machine.{collected}
use Rattle.machine.proofs.Steps.{prefixed}
use Rattle.tables.specs.Meaning.{machine_of}
use Rattle.executive.specs.World.{DonesLent}
use Rattle.executive.proofs.calls.fill.Given as goal

-- the lines so far, and those that are collected from here, are the collection's; the rest of the list is as it was
abbrev pub invariant-loop-i : goal.invariant-loop-i
invariant-loop-i g l =
    let s = machine_of l.initial.tables (g.P.Pool.places l.initial.pool) in
    let s' = machine_of l.tables (g.P.Pool.places l.pool) in
    let n = length l.initial.lines in
    let from = collected g.P.Pool.lanes l.plan in
    record {
      rest : drop l.i l.lines ≡ drop l.i l.initial.lines;
      does : DonesLent s → DonesLent s' × (prefixed (take l.i l.lines) (from (n - l.i) s') ≡ from n s);
    }

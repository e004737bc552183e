use Rattle.std.proofs.Common.{◌≡◌, ◌+◌, ◌*◌, ◌≤◌, length, sym, ◌∙◌, arith}
use Rattle.choice.specs.Turn.{passes}
use Rattle.choice.proofs.Turns.{count_skip}
use Rattle.choice.proofs.records.Records.count.Goals as goal
use Rattle.choice.proofs.records.Records.count.Goals.{then-holds+else-loop-b-test, else-holds}

pub loop-block-preserved : goal.loop-block-preserved
loop-block-preserved g c =
    let ms = c.args.self.now in
    let i = 16 * c.loop-block.block in
    let next : 16 * (c.loop-block.block + 1) ≡ i + 16 = omega arith in
    elim c.if-holds.branch [
      | then-holds+else-loop-b-test w ↦
          let e : w.loop-b.b ≡ i + 16 = omega arith in
          rw (next, ← e, w.n-is) w.loop-b.invariant
      | else-holds w ↦
          let h : i + 16 ≤ length ms = omega (arith, c.holds.ensures.all) in
          let skip = count_skip (passes (g.C.Choice.ok c.args.choice.now)) ms i 16 h
          (λ k l. g.met.C.Choice.only c.args.choice.now _ _
          (λ e. c.holds.ensures.none w.if-holds.false k l (e ∙ sym c.phase-phase.ensures))) in
          (rw (next, w.n-is, skip) c.loop-block.invariant.0, omega (arith, w.n-is, c.loop-block.invariant.1))
    ]

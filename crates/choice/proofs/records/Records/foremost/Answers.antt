use Rattle.std.proofs.Common.{◌≡◌, ◌+◌, ◌*◌, ◌<◌, ◌≤◌, length, sym, ◌∙◌, arith}
use Rattle.choice.specs.Turn.{chosen_from, passes}
use Rattle.choice.proofs.Turns.{left_more, left_all, left_skip}
use Rattle.choice.proofs.records.Records.foremost.Goals as goal
use Rattle.choice.proofs.records.Records.foremost.Goals.{then-holds+else-loop-b-test, else-holds}

pub loop-b-preserved : goal.loop-b-preserved
loop-b-preserved g c =
    let h : c.loop-b.b < length c.args.self.now = omega (arith, c.holds.ensures.all) in
    left_more (passes (g.C.Choice.ok c.args.choice.now)) (g.C.Choice.before c.args.choice.now) c.args.self.now
    c.loop-b.b c.loop-b.best _ _ h c.better-best.ensures c.loop-b.invariant

pub loop-block-preserved : goal.loop-block-preserved
loop-block-preserved g c =
    let ok = passes (g.C.Choice.ok c.args.choice.now) in
    let before = g.C.Choice.before c.args.choice.now in
    let ms = c.args.self.now in
    let i = 16 * c.loop-block.block in
    let next : 16 * (c.loop-block.block + 1) ≡ i + 16 = omega arith in
    elim c.if-holds.branch [
      | then-holds+else-loop-b-test w ↦
          let e : w.loop-b.b ≡ i + 16 = omega arith in
          rw (next, ← e, w.best-is) w.loop-b.invariant
      | else-holds w ↦
          let h : i + 16 ≤ length ms = omega (arith, c.holds.ensures.all) in
          let skip : chosen_from ok before ms (i + 16) c.loop-block.best
          ≡ chosen_from ok before ms i c.loop-block.best = left_skip ok before ms i 16 c.loop-block.best h
          (λ k l. g.met.C.Choice.only c.args.choice.now _ _
          (λ e. c.holds.ensures.none w.if-holds.false k l (e ∙ sym c.phase-phase.ensures))) in
          rw (next, w.best-is, skip) c.loop-block.invariant
    ]

pub returns : goal.returns
returns g c =
    let h : length c.args.self.now ≤ 16 * c.loop-block.block = rw (← c.self.view_is) (omega arith) in
    sym (left_all (passes (g.C.Choice.ok c.args.choice.now)) (g.C.Choice.before c.args.choice.now) c.args.self.now
    (16 * c.loop-block.block) c.loop-block.best h) ∙ c.loop-block.invariant

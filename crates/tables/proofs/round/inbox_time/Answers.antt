use Rattle.std.proofs.Common.{sym, ◌∙◌, arith}
use Rattle.tables.proofs.Rounds.{inbox_more, inbox_all}
use Rattle.tables.proofs.round.inbox_time.Goals as goal

pub loop-i-preserved : goal.loop-i-preserved
loop-i-preserved c =
    let e = inbox_more c.args.records.now c.args.inbox.now c.loop-i.i c.get-b.result c.loop-i.least (omega arith)
    c.get-b.ensures in
    cc

pub returns : goal.returns
returns c = sym (inbox_all c.args.records.now c.args.inbox.now c.loop-i.i c.loop-i.least (omega arith))
    ∙ c.loop-i.invariant

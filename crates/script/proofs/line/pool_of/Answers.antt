use Rattle.std.proofs.Common.{codes, rules}
use Rattle.script.proofs.Prefixes.{rest_after-strip}
use Rattle.script.proofs.line.pool_of.Goals as goal

pub returns : goal.returns
returns c =
    let h = rest_after-strip (codes " ") c.args.rest.now c.strip_prefix.result c.strip_prefix.ensures.cases in
    search (rules, h)

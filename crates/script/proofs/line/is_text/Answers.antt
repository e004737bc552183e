use Rattle.std.proofs.Common.{rules}
use Rattle.script.proofs.Prefixes.{rest_after-strip}
use Rattle.script.proofs.line.is_text.Goals as goal

pub returns : goal.returns
returns c =
    let h = rest_after-strip c.as_bytes.result.now c.args.line.now c.strip_prefix.result c.strip_prefix.ensures.cases in
    search (rules, h)

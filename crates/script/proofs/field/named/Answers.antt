use Rattle.std.proofs.Common.{arith}
use Rattle.script.proofs.Prefixes.{rest_after-strip}
use Rattle.script.proofs.field.named.Goals as goal

pub returns-in_err-rest : goal.returns-in_err-rest
returns-in_err-rest g c =
    let h = rest_after-strip c.as_bytes.result.now c.args.rest.now c.strip_prefix.result c.strip_prefix.ensures.cases in
    grind (arith, h)

pub returns : goal.returns
returns g c =
    let h = rest_after-strip c.as_bytes.result.now c.args.rest.now c.strip_prefix.result c.strip_prefix.ensures.cases in
    grind (arith, h)

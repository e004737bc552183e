use Rattle.std.proofs.lemmas.Result.{IfOk-weaker}
use Rattle.script.proofs.Whole.{written_so}
use Rattle.script.proofs.read.read.Goals as goal

pub returns-clause-written : goal.returns-clause-written
returns-clause-written c = IfOk-weaker c.read_items.result _ _ (λ _ _. written_so c.args.bytes.now) c.read_items.ensures

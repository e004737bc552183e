-- All figures stand behind the text, and the line feed behind them.
use Rattle.std.proofs.Common.{arith}
use Rattle.std.proofs.lemmas.Grind.{common_steps}
use Rattle.sequential.proofs.Texts.{spaced-figures}
use Rattle.sequential.proofs.text.write_spaced.Goals as goal

pub returns : goal.returns
returns c = rw (spaced-figures c.args.numbers.now) (grind (arith, common_steps))

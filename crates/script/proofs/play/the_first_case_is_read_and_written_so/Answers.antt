-- Both by computation.
use Rattle.std.proofs.Common.{refl}
use Rattle.std.specs.Fmt.{digits}
use Rattle.script.proofs.play.the_first_case_is_read_and_written_so.Goals as goal

pub returns : goal.returns
unfolding digits
returns c = (refl, refl)

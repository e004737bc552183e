-- The model that is named was made with the heading's values, or could not be made.
use Rattle.std.proofs.Common.{string_bytes}
use Rattle.std.proofs.lemmas.Result.{IfOk-weaker}
use Rattle.script.specs.Reading.{meaning}
use Rattle.script.proofs.Plays.{heads-switch, heads-phold, reads}
use Rattle.script.proofs.play.play_script.Goals as goal

pub returns-in-Switch : goal.returns-in-Switch
returns-in-Switch g c =
    let prints = g.V.Player.prints in
    let h = c.in-Some.heading in
    let r = meaning c.args.script.now in
    IfOk-weaker c.play_model.result _ _
    (λ t plays. reads prints h r (string_bytes t) c.in-Some.is
    (heads-switch prints h r (string_bytes t) c.new.result c.in-Switch.is c.new.ensures plays))
    c.play_model.ensures

pub returns-in-Phold : goal.returns-in-Phold
returns-in-Phold g c =
    let prints = g.V.Player.prints in
    let h = c.in-Some.heading in
    let r = meaning c.args.script.now in
    IfOk-weaker c.play_model-in-Phold.result _ _
    (λ t plays. reads prints h r (string_bytes t) c.in-Some.is
    (heads-phold prints h r (string_bytes t) c.new-in-Phold.result c.in-Phold.is c.new-in-Phold.ensures plays))
    c.play_model-in-Phold.ensures

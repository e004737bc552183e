-- The pool that is named has the lanes that are meant.
use Rattle.std.proofs.lemmas.Result.{IfOk-weaker}
use Rattle.script.proofs.play.play_model.Goals as goal

pub returns-in-Common : goal.returns-in-Common
returns-in-Common g c =
    IfOk-weaker c.play_setup.result _ _ (λ _ plays. rw (c.in-Ok.is, c.in-Common.is) plays) c.play_setup.ensures

pub returns-in-Receiver : goal.returns-in-Receiver
returns-in-Receiver g c =
    IfOk-weaker c.play_setup-in-Receiver.result _ _ (λ _ plays. rw (c.in-Ok.is, c.in-Receiver.is) plays)
    c.play_setup-in-Receiver.ensures

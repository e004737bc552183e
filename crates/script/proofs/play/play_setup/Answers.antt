-- The setting was taken, and the third line is no bad one: the script is played.
use Rattle.std.proofs.Common.{◌≡◌, false, string_bytes, is_err, rules}
use Rattle.std.proofs.lemmas.Result.{IfOk-weaker}
use Rattle.script.specs.Playing.{is_third}
use Rattle.script.specs.Reading.{meaning}
use Rattle.script.proofs.Plays.{set_plays}
use Rattle.script.proofs.play.play_setup.Goals as goal

pub returns : goal.returns
returns g c =
    let r = meaning c.args.script.now in
    let taken : is_err c.set.result ≡ false = search rules in
    let second : is_third r.bad ≡ false = search rules in
    IfOk-weaker c.play.result _ _
    (λ t printed. set_plays g.V.Player.prints c.args.heading.now r (string_bytes t)
    c.fresh-setup.result c.set.new.self c.args.model c.set.result
    c.fresh-setup.ensures.model c.set.ensures taken second printed)
    c.play.ensures

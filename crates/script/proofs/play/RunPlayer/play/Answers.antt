-- The items' placings, then their calls as a run from the start, which keeps the law.
use Rattle.std.proofs.Common.{◌∙◌}
use Rattle.script.specs.Reading.{meaning}
use Rattle.script.proofs.Plays.{sessions}
use Rattle.script.proofs.play.RunPlayer.play.Goals as goal

pub returns : goal.returns
returns g c =
    sessions (meaning c.args.script.now) c.args.setup c.place_items.new.setup c.start-executive.result
    c.play_items.new.executive
    c.deref.result.now c.deref-2.result.now c.in_ok-text.text c.play_items.new.text _
    c.place_items.ensures.model c.place_items.ensures.settles c.start-executive.ensures
    c.in_ok-play_items.ensures
    c.deref.ensures.value c.deref-2.ensures.value (c.in_ok-text.ensures.ok ∙ c.field_names.ensures)
    c.in_ok-write_end.ensures

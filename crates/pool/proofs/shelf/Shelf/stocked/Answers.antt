use Rattle.std.proofs.Common.{ap, ◌∙◌, arith}
use Rattle.std.proofs.lemmas.Grind.{common_steps}
use Rattle.std.proofs.lemmas.List.FromFn.{fill_by_all}
use Rattle.pool.specs.declared.place.Place.TheVariants.{Out, Lane}
use Rattle.pool.specs.Lanes.{place_at}
use Rattle.pool.specs.Stocking.{everywhere}
use Rattle.pool.proofs.shelf.Shelf.stocked.Goals as goal

pub loop-b-init : goal.loop-b-init
loop-b-init g c =
    (λ k h. absurd (omega arith), λ k h. ap (λ ps. place_at ps k) c.bare-shelf.ensures ∙ everywhere 256 k Out)

pub returns-2 : goal.returns-2
returns-2 g c =
    fill_by_all (λ b. Lane (g.L.Layout.first_lane b)) _ 256 Out c.put.new.self.whole
    (λ k h. grind (arith, common_steps))

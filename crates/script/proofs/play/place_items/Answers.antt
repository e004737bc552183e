-- One placing more; at the end none is left.
use Rattle.std.proofs.Common.{get_or, ◌∙◌, subst}
use Rattle.script.specs.Playing.{PlacedBy}
use Rattle.script.specs.declared.item.Item.TheVariants.{Place}
use Rattle.script.proofs.Plays.{Settles-more, Settles-end}
use Rattle.script.proofs.play.place_items.Goals as goal

pub loop-item-preserved : goal.loop-item-preserved
loop-item-preserved g c =
    let l = c.loop-item in
    let m = g.M.Model.meaning c.args.setup.now.model in
    let is = c.args.items.now in
    let u = l.setup.plan in
    let v = c.place_item.new.setup.plan in
    let item = get_or is l.item-index (Place 0 0) in
    let placed = subst (λ n. PlacedBy (g.M.Model.meaning n) u item v) l.invariant.same c.place_item.ensures.places in
    record {
      same = c.place_item.ensures.model ∙ l.invariant.same;
      leads = λ w s.
          l.invariant.leads w (Settles-more m u v w is l.item-index (Place 0 0) c.loop-item-test.true placed s);
    }

pub returns : goal.returns
returns g c =
    let l = c.loop-item in
    let m = g.M.Model.meaning c.args.setup.now.model in
    record {
      model = l.invariant.same;
      settles =
          l.invariant.leads l.setup.plan
          (Settles-end m l.setup.plan c.args.items.now l.item-index c.loop-item-test.false);
    }

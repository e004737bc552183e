-- One item more; at the end all are played.
use Rattle.std.proofs.Common.{◌≡◌, get_or, take, take_all, refl, subst}
use Rattle.script.specs.Play.{PlaysItems}
use Rattle.script.specs.declared.item.Item.TheVariants.{Place}
use Rattle.script.proofs.Plays.{plays_more, plays_none}
use Rattle.script.proofs.play.play_items.Goals as goal

pub loop-item-init : goal.loop-item-init
loop-item-init g c = plays_none c.args.executive.now c.args.text.now

pub loop-item-preserved : goal.loop-item-preserved
loop-item-preserved g c =
    let l = c.loop-item in
    let is = c.args.items.now in
    plays_more is l.item-index (Place 0 0) c.loop-item-test.true c.args.text.now l.text c.play_item.new.text
    c.args.executive.now l.executive c.play_item.new.executive l.invariant (get_or is l.item-index (Place 0 0)) refl
    c.in_ok-play_item.ensures.plays

pub returns : goal.returns
returns g c =
    let l = c.loop-item in
    let is = c.args.items.now in
    let all : take l.item-index is ≡ is = take_all l.item-index is c.loop-item-test.false in
    subst (λ js. PlaysItems c.args.executive.now js c.args.text.now l.text l.executive) all l.invariant

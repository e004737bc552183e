-- The heading lines, and then the items.
use Rattle.std.proofs.Common.{◌≡◌, [], ◌∷◌, ◌++◌, string_bytes, take, take_all, ap, ◌∙◌}
use Rattle.std.specs.List.{flat_map}
use Rattle.script.specs.Lines.{heading_names, call_names}
use Rattle.script.specs.Writing.{heading_text, item_text}
use Rattle.script.specs.declared.item.Item.TheVariants.{Place}
use Rattle.script.proofs.Backs.{reads_back}
use Rattle.script.proofs.Texts.{heading_words-text, items_more, script_joins}
use Rattle.script.proofs.write.write_script.Goals as goal

pub loop-item-preserved : goal.loop-item-preserved
loop-item-preserved c =
    let l = c.loop-item in
    items_more _ _ _ c.args.items.now l.item-index (Place 0 0) c.loop-item-test.true l.invariant
    c.in_ok-writeln-2.ensures.bytes

pub returns : goal.returns
returns c =
    let was = string_bytes c.args.text.now in
    let h = c.args.heading.now in
    let items = c.args.items.now in
    let first = heading_names ++ 10 ∷ [] in
    let third = call_names ++ 10 ∷ [] in
    let head = c.in_ok-writeln.ensures.bytes ∙ ap (λ t. was ++ (first ++ t)) (heading_words-text h third) in
    let all : take c.loop-item.item-index items ≡ items =
    take_all c.loop-item.item-index items c.loop-item-test.false in
    record {
      written =
          c.loop-item.invariant
          ∙ rw (all, head) (script_joins was first (heading_text h) third (flat_map item_text items));
      reads = reads_back h items;
    }

use Rattle.std.proofs.Common.{◌<◌, length, arith, rules, vec_items, ◌∙◌, sym}
use Rattle.std.proofs.lemmas.Bool.Decides.{nat_tests}
use Rattle.script.proofs.Readings.{items_from-first}
use Rattle.script.proofs.read.read_items.Goals as goal

pub returns-in_default : goal.returns-in_default
returns-in_default c =
    let l = c.loop-rest in
    let some : 0 < length l.rest.now = search rules in
    let first = items_from-first c.args.heading (vec_items l.items) l.begun l.number l.rest.now some in
    sym (l.invariant.same ∙ first ∙ rw (← c.next_line.ensures.line, ← c.next_of.ensures, c.in_default.is))

pub loop-rest-preserved : goal.loop-rest-preserved
loop-rest-preserved c =
    let l = c.loop-rest in
    let some : 0 < length l.rest.now = grind (arith, nat_tests, c.is_empty.ensures, c.loop-rest-test.true) in
    let first = items_from-first c.args.heading (vec_items l.items) l.begun l.number l.rest.now some in
    record {
      same = l.invariant.same ∙ first
          ∙ rw (
            ← c.next_line.ensures.line,
            ← c.next_of.ensures,
            c.in-Some.is,
            c.in_ok-push.ensures.items,
            c.is_call-begun.ensures,
            c.next_line.ensures.others,
          );
      counts = omega arith;
    }

-- The list that was made has the length asked for, and is cut to what was written.
use Rattle.std.proofs.Common.{◌≡◌, ◌≤◌, length, take, vec_items, sym, ◌∙◌, arith}
use Rattle.std.proofs.lemmas.List.{take-append-le, take-take}
use Rattle.executive.proofs.Collects.{collect_same}
use Rattle.executive.proofs.Executive.gather.Goals as goal

pub returns-clause-makes : goal.returns-clause-makes
returns-clause-makes g c =
    let ls = c.collect-written.new.lines in
    let slice = c.as_mut_slice.ensures.len in
    let same = c.collect-written.auto.lines in
    let within : c.collect-written.result.0 ≤ length ls = omega (arith, c.collect-written.ensures.within, same) in
    let all : length c.as_mut_slice.result.now ≡ c.args.most = omega (arith, c.in_ok-lines.ensures.len, slice) in
    let cuts : vec_items c.truncate.new.self ≡ take c.collect-written.result.0 ls =
    c.truncate.ensures.items ∙ take-take _ _ _ (omega (arith, slice, same)) ∙ take-append-le _ ls _ within in
    let made = c.collect-written.ensures.makes in
    record { model = made.model; plan = made.plan; does = collect_same all (sym cuts) made.does }

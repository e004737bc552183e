-- Each turn collects one line more, and its buffer returns to the pool.
use Rattle.std.proofs.Common.{◌≡◌, ◌<◌, [], length, take, sym, refl, ap, ◌∙◌, subst, arith}
use native.Mathlib.Nat.{sub-zero}
use Rattle.std.proofs.lemmas.List.{take_more_set}
use Rattle.machine.specs.Machine.{collected, collected_to, freed}
use Rattle.machine.proofs.Steps.{prefixed, collected_stop, collected-end, collected-turn}
use Rattle.tables.specs.Meaning.{machine_of}
use Rattle.executive.specs.Fills.{Fills}
use Rattle.executive.specs.World.{DonesLent}
use Rattle.executive.proofs.Collects.{rest_kept, oldest-done, dones_kept}
use Rattle.executive.proofs.calls.fill.Goals as goal

pub loop-i-init : goal.loop-i-init
loop-i-init g c =
    let from = collected g.P.Pool.lanes c.args.plan.now in
    let s = machine_of c.args.tables.now (g.P.Pool.places c.args.pool.now) in
    record { rest = refl; does = λ lent. (lent, ap (λ k. prefixed [] (from k s)) (sub-zero _)) }

pub loop-i-preserved : goal.loop-i-preserved
loop-i-preserved g c =
    let l = g.P.Pool.lanes in
    let u = c.args.plan.now in
    let pl = g.P.Pool.places c.loop-i.pool in
    let s = machine_of c.loop-i.tables pl in
    let b = c.in-Some.b in
    let e = c.in-Some.ensures.does l u pl in
    let lt : c.loop-i.i < length c.loop-i.lines = omega arith in record {
      rest = rest_kept c.loop-i.lines c.args.lines.now c.loop-i.i c.in-Some.line c.loop-i.invariant.rest;
      does = λ lent.
          let kept = c.loop-i.invariant.does lent in
          let back = c.give_back.ensures (kept.0 b (oldest-done s b e.0)) in
          let made : machine_of c.pull.new.self (g.P.Pool.places c.give_back.new.pool) ≡ freed l u b s = ap
          (machine_of c.pull.new.self) back ∙ e.2 in (
            subst DonesLent (sym made) (dones_kept l u s b kept.0),
            rw (take_more_set c.loop-i.lines c.loop-i.i c.in-Some.line lt)
                (collected-turn l u _ _ b _ c.in-Some.line s _ _ (omega arith) e.0 e.1 made kept.1),
          );
    }

pub returns-in_default : goal.returns-in_default
returns-in_default g c =
    let l = g.P.Pool.lanes in
    let e = c.in_default.ensures.does (g.P.Pool.places c.loop-i.pool) in
    record {
      within = omega arith;
      rest = c.loop-i.invariant.rest;
      does = λ lent. ap (λ s. collected_to s (take c.loop-i.i c.loop-i.lines)) e.1
          ∙ collected_stop l c.args.plan.now _ _ _ _ e.0 (c.loop-i.invariant.does lent).1;
    }

pub returns : goal.returns
returns g c =
    let l = g.P.Pool.lanes in
    let u = c.args.plan.now in
    let s = machine_of c.args.tables.now (g.P.Pool.places c.args.pool.now) in
    let s' = machine_of c.loop-i.tables (g.P.Pool.places c.loop-i.pool) in
    let all : c.loop-i.i ≡ length c.args.lines.now = omega arith in
    subst (λ n. Fills l u s c.args.lines.now s' c.loop-i.lines n) all (record {
      within = omega arith;
      rest = c.loop-i.invariant.rest;
      does = λ lent. collected-end l u _ _ _ _ (omega arith) (c.loop-i.invariant.does lent).1;
    })

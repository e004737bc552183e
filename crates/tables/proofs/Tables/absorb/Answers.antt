use Rattle.std.proofs.Common.{[], is_some, sym, ap, ◌∙◌}
use Rattle.pool.specs.Lanes.{Lanes}
use Rattle.machine.specs.Machine.{Absorption, popped}
use Rattle.machine.proofs.Steps.{left_none, absorbed_gone, absorbed_arrived, absorbed-posted}
use Rattle.tables.specs.Meaning.{machine_of}
use Rattle.tables.proofs.Tables.absorb.Goals as goal

-- lanes, where it does not matter which
any : Lanes
any = record { draw = λ i j. i; return = λ i j. i; full = [] }

pub returns-in_err-buffer : goal.returns-in_err-buffer
unfolding popped
returns-in_err-buffer c = record {
  posted = ap (λ s. s.posted) (c.in_err-buffer.ensures.machine []);
  does = rw c.from_residual.ensures (λ l pl.
      let e = sym (c.in_err-buffer.ensures.first pl) in (
        e,
        c.in_err-buffer.ensures.machine pl ∙ left_none l c.args.plan.now c.args.worker.index
            (machine_of c.args.self.now pl) e,
      ));
}

pub returns-then-at : goal.returns-then-at
returns-then-at c = record {
  posted = ap (λ (a : Absorption). a.machine.posted)
      (c.annihilate-undone.ensures any [] ∙ absorbed_gone any c.args.plan.now c.args.worker.index
      (machine_of c.args.self.now []) c.in_ok-buffer.buffer _ (c.in_ok-buffer.ensures.first [])
      (c.in_ok-buffer.ensures.machine []) (rw c.at.ensures.message at c.if-at.true))
      ∙ absorbed-posted c.args.plan.now c.args.worker.index any (machine_of c.args.self.now []);
  does = λ l pl.
      let e = c.in_ok-buffer.ensures.first pl in (
        sym e,
        c.annihilate-undone.ensures l pl ∙ absorbed_gone l c.args.plan.now c.args.worker.index
            (machine_of c.args.self.now pl) c.in_ok-buffer.buffer _ e (c.in_ok-buffer.ensures.machine pl)
            (rw c.at.ensures.message at c.if-at.true),
      );
}

pub returns-else-at : goal.returns-else-at
returns-else-at c = record {
  posted = ap (λ (a : Absorption). a.machine.posted)
      (c.arrive-undone.ensures [] ∙ absorbed_arrived any c.args.plan.now c.args.worker.index
      (machine_of c.args.self.now []) c.in_ok-buffer.buffer _ (c.in_ok-buffer.ensures.first [])
      (c.in_ok-buffer.ensures.machine []) (rw c.at.ensures.message at c.if-at.false))
      ∙ absorbed-posted c.args.plan.now c.args.worker.index any (machine_of c.args.self.now []);
  does = λ l pl.
      let e = c.in_ok-buffer.ensures.first pl in (
        ap is_some (sym e),
        c.arrive-undone.ensures pl ∙ absorbed_arrived l c.args.plan.now c.args.worker.index
            (machine_of c.args.self.now pl) c.in_ok-buffer.buffer _ e (c.in_ok-buffer.ensures.machine pl)
            (rw c.at.ensures.message at c.if-at.false),
      );
}

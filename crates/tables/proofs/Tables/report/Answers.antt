use Rattle.std.proofs.Common.{◌≡◌, [], sym, ap, ◌∙◌, arith}
use Rattle.machine.specs.Machine.{missing, with_report}
use Rattle.machine.proofs.Steps.{reported_last, reported_other}
use Rattle.tables.specs.Meaning.{machine_of}
use Rattle.tables.proofs.Rounds.{missing_first, least_first}
use Rattle.tables.proofs.Tables.report.Goals as goal

pub returns-then-n-gt0 : goal.returns-then-n-gt0
unfolding with_report
returns-then-n-gt0 c =
    let n = c.missing-n.ensures ∙ missing_first c.tell.new.self.workers c.args.plan.now.workers in
    record {
      posted = ap (λ s. s.posted) (c.tell.ensures []);
      missing = λ pl. n;
      machine = λ pl.
          reported_other c.args.plan.now c.args.worker.index (machine_of c.args.self.now pl)
          (machine_of c.tell.new.self pl) (c.tell.ensures pl) (λ e. omega (arith, n, e));
    }

pub returns : goal.returns
unfolding with_report
returns c =
    let n = c.missing-n.ensures ∙ missing_first c.tell.new.self.workers c.args.plan.now.workers in
    let none : missing c.tell.new.self.workers c.args.plan.now.workers ≡ 0 = omega (arith, n) in
    let least = c.least_report-least.ensures ∙ least_first c.tell.new.self.workers c.args.plan.now.workers
    c.tell.new.self.floor in
    record {
      posted = ap (λ s. s.posted) (c.tell.ensures []);
      missing = λ pl. sym none;
      machine = λ pl.
          let e = reported_last c.args.plan.now c.args.worker.index (machine_of c.args.self.now pl)
          (machine_of c.tell.new.self pl) (c.tell.ensures pl) none in
          cc least;
    }

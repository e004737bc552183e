-- The law of runs, on what the calls came to.
use Rattle.std.proofs.Common.{◌≡◌, List, length, vec_items, Ok, Err, Result}
use Rattle.std.specs.Prelude.{IfOk}
use Rattle.std.specs.declared.alloc.AllocError.{AllocError}
use Rattle.model.specs.declared.Model.{Ghosts as OfModel}
use Rattle.pool.specs.declared.Pool.{Ghosts as OfPool}
use Rattle.pool.specs.Lanes.{lent}
use Rattle.machine.specs.declared.call.Call.{Call}
use Rattle.executive.specs.declared.Executive.{Executive}
use Rattle.executive.specs.declared.runs.Group.{Group}
use Rattle.executive.specs.declared.Setup.{Setup}
use Rattle.executive.specs.Running.{Goes, Starts, machine, set_up}
use Rattle.executive.specs.Runs.{LawfulRun, group_transcript}
use Rattle.executive.proofs.Goings.{went_first}
use Rattle.executive.proofs.Groups.{run_lawful}
use Rattle.executive.proofs.runs.run_calls.Goals as goal

module _ {M P : Type 0} {m : OfModel M} {p : OfPool P} {s : Setup M P m p} {x : Executive M P m p}
    (y : Executive M P m p) where
  -- if the calls were made
  lawful : (cs : List Call) (r : Result Group AllocError) → Starts s x →
      IfOk r (λ g. Goes x (group_transcript cs g) y) →
      IfOk r (λ g. length (vec_items g.answers) ≡ length cs) → IfOk r (λ g. g.gvt ≡ (machine y).gvt) →
      IfOk r (λ g. g.out ≡ lent (machine y).places) → IfOk r (λ g. LawfulRun (set_up s) cs g)
  lawful cs (Ok g) begun runs n v o = run_lawful (set_up s) s.proper cs g (machine y) (went_first begun runs) n v o
  lawful cs (Err e) begun runs n v o = tt

pub returns : goal.returns
returns g c =
    let made = c.make_group.ensures in
    lawful c.make_group.new.self c.args.calls.now c.make_group.result
    c.start-executive.ensures made.runs made.answered made.gvt made.out

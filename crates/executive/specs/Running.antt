-- A running executive as a machine in a world, and what calls do to it.
use Rattle.std.specs.Prelude.{◌≡◌, ℕ, ◌<◌, true, false, List, replicate, Some, Ok, Err, Result}
use Rattle.model.specs.declared.Model.{Ghosts as OfModel}
use Rattle.pool.specs.declared.Pool.{Ghosts as OfPool}
use Rattle.sequential.specs.declared.event.Line.{Line}
use Rattle.machine.specs.declared.call.Answer.{Answer}
use Rattle.machine.specs.declared.call.Call.{Call}
use Rattle.machine.specs.declared.refusal.Refusal.{Refusal}
use Rattle.machine.specs.declared.refusal.Refusal.TheVariants.{OutsideLimits}
use Rattle.machine.specs.Machine.{Machine}
use Rattle.machine.specs.Calls.{World, Does, Run, Transcript}
use Rattle.law.specs.Law.{start}
use Rattle.tables.specs.Meaning.{machine_of}
use Rattle.executive.specs.declared.Executive.{Executive}
use Rattle.executive.specs.declared.Setup.{Setup}
use Rattle.executive.specs.World.{PlanHolds, Reassigned, placing, setting_fits, world_of}

module _ {M P : Type 0} {m : OfModel M} {p : OfPool P} where
  -- the world that a setup sets up
  abbrev pub set_up : Setup M P m p → World
  set_up x = world_of (m.meaning x.model) p.lanes x.plan

  -- set up with the model n, and a plan with every process on worker 0
  pub record IsSetTo (x : Setup M P m p) (n : M) (end most workers : ℕ) : Type 0 where
    pub model : x.model ≡ n
    pub plan : PlanHolds x.plan end most workers (replicate 32 0)

  -- end, cap and workers are set, where they are within their limits, and every process is on worker 0 again
  abbrev pub Sets : Setup M P m p → ℕ → ℕ → ℕ → Result (Unit {0}) Refusal → Setup M P m p → Type 0
  Sets x end most workers (Ok _) y = (setting_fits end most workers ≡ true) × IsSetTo y x.model end most workers
  Sets x end most workers (Err r) y = (setting_fits end most workers ≡ false) × (r ≡ OutsideLimits) × (y ≡ x)

  -- a process is placed on a worker, where there are both
  abbrev pub Places : Setup M P m p → ℕ → ℕ → Result (Unit {0}) Refusal → Setup M P m p → Type 0
  Places x process w (Ok _) y = (y.model ≡ x.model) × (process < (m.meaning x.model).size) ×
      (w < x.plan.workers) × Reassigned x.plan y.plan process w
  Places x process w (Err r) y = (placing (m.meaning x.model) x.plan process w ≡ Some r) × (y ≡ x)

  -- the world of an executive
  abbrev pub world : Executive M P m p → World
  world x = world_of (m.meaning x.model) p.lanes x.plan

  -- the machine that its tables and its pool are
  abbrev pub machine : Executive M P m p → Machine
  machine x = machine_of x.tables (p.places x.pool)

  -- the executive y has just started from the setup x
  pub record Starts (x : Setup M P m p) (y : Executive M P m p) : Type 0 where
    pub model : y.model ≡ x.model
    pub plan : y.plan ≡ x.plan
    pub begins : machine y ≡ start (set_up x)

  -- the same model and plan
  pub record Keeps (x y : Executive M P m p) : Type 0 where
    pub model : y.model ≡ x.model
    pub plan : y.plan ≡ x.plan

  -- the call, made of the executive x, answers a and leaves it as y, as the machine does
  pub record Makes (x : Executive M P m p) (c : Call) (a : Answer (List Line)) (y : Executive M P m p) : Type 0 where
    pub model : y.model ≡ x.model
    pub plan : y.plan ≡ x.plan
    pub does : Does (world x) (machine x) c a (machine y)

  -- the calls of the transcript lead from the executive x to y
  pub record Goes (x : Executive M P m p) (r : Transcript) (y : Executive M P m p) : Type 0 where
    pub model : y.model ≡ x.model
    pub plan : y.plan ≡ x.plan
    pub runs : Run (world x) (machine x) r (machine y)

-- The world that an executive runs in, and what its setup says of the plan.
use Rattle.std.specs.Prelude.{◌≡◌, ℕ, Bool, true, ◌&&◌, List, [], ◌∷◌, Some, Ok, Err, Option, Result, nat_le, slice_set}
use Rattle.model.specs.Meaning.{Meaning}
use Rattle.pool.specs.Lanes.{Lanes, place_at}
use Rattle.pool.specs.declared.place.Place.TheVariants.{Out}
use Rattle.sequential.specs.Events.{cap_fits, end_fits}
use Rattle.sequential.specs.declared.event.Line.{Line}
use Rattle.machine.specs.declared.call.Answer.{Answer}
use Rattle.machine.specs.declared.call.Answer.TheVariants.{Refused, Posted, Absorbed, Stepped, Opened, Told}
use Rattle.machine.specs.declared.plan.Plan.{Plan}
use Rattle.machine.specs.declared.refusal.Refusal.{Refusal}
use Rattle.machine.specs.declared.refusal.Refusal.TheVariants.{NoProcess, NoWorker}
use Rattle.machine.specs.Machine.{Machine, at, first, is_done, worker}
use Rattle.machine.specs.Calls.{World, Run, Transcript, first_refusal}
use Rattle.law.specs.Law.{start}

-- a model, a pool's lanes and a plan make a world
abbrev pub world_of : Meaning → Lanes → Plan → World
world_of m l u = record { model = m; lanes = l; plan = u }

-- a setup is set to an end, a cap and a number of workers within their limits
abbrev pub workers_fit : ℕ → Bool
workers_fit n = nat_le 1 n && nat_le n 8

abbrev pub setting_fits : ℕ → ℕ → ℕ → Bool
setting_fits end most workers = end_fits end && (cap_fits most && workers_fit workers)

-- what a plan holds
pub record PlanHolds (u : Plan) (end most workers : ℕ) (home : List ℕ) : Type 0 where
  pub ends : u.limits.end ≡ end
  pub capped : u.limits.most ≡ most
  pub staffed : u.workers ≡ workers
  pub homed : u.home ≡ home

-- why placing is refused, if it is
abbrev pub placing : Meaning → Plan → ℕ → ℕ → Option Refusal
placing m u p w = first_refusal ((nat_le m.size p, NoProcess) ∷ (nat_le u.workers w, NoWorker) ∷ [])

-- the plan with the process on the worker
pub record Reassigned (u v : Plan) (process worker : ℕ) : Type 0 where
  pub limits : v.limits ≡ u.limits
  pub workers : v.workers ≡ u.workers
  pub home : v.home ≡ slice_set u.home process worker

-- calls made from the start lead to the machine
abbrev pub IsReached : World → Machine → Type 0
IsReached W s = (r : Transcript) × Run W (start W) r s

-- the buffers of done events are out of the pool
abbrev pub DonesLent : Machine → Type 0
DonesLent s = (b : ℕ) → is_done (at s b).phase ≡ true → place_at s.places b ≡ Out

-- the buffers that calls return to the pool are out of it: those that inboxes begin with, and those of done events.
-- So it is in every machine of a run
pub record Lent (s : Machine) : Type 0 where
  pub heads : (w b : ℕ) → first (worker s w).inbox ≡ Some b → place_at s.places b ≡ Out
  pub dones : DonesLent s

-- what the calls answer, as the machine's answers
abbrev pub post_answer : Result ℕ Refusal → Answer (List Line)
post_answer (Ok n) = Posted n
post_answer (Err r) = Refused r

abbrev pub absorb_answer : Result (ℕ × ℕ × ℕ) Refusal → Answer (List Line)
absorb_answer (Ok x) = Absorbed x.0 x.1 x.2
absorb_answer (Err r) = Refused r

abbrev pub step_answer : Result (ℕ × ℕ × ℕ) Refusal → Answer (List Line)
step_answer (Ok x) = Stepped x.0 x.1 x.2
step_answer (Err r) = Refused r

abbrev pub round_answer : Result ℕ Refusal → Answer (List Line)
round_answer (Ok n) = Opened n
round_answer (Err r) = Refused r

abbrev pub report_answer : Result (ℕ × ℕ) Refusal → Answer (List Line)
report_answer (Ok x) = Told x.0 x.1
report_answer (Err r) = Refused r

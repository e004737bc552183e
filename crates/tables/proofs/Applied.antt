-- The sends of an event that is applied are for processes of the model, and so for one of the 32 that the tables have.
use Rattle.std.proofs.Common.{ℕ, ◌≤◌, arith}
use Rattle.std.specs.List.{AllByRecursion}
use Rattle.model.specs.Meaning.{Meaning, listed}
use Rattle.model.specs.declared.reaction.Few.{Few}
use Rattle.model.specs.declared.reaction.Few.TheVariants.{Nothing, One, Two}
use Rattle.sequential.specs.declared.event.Event.{Event}
use Rattle.sequential.specs.declared.limits.Limits.{Limits}
use Rattle.sequential.specs.declared.event.Process.{Process}
use Rattle.sequential.specs.Events.{applied}
use Rattle.sequential.proofs.Sends.{Fits, applied-sends}
use Rattle.tables.specs.Pulls.{Aimed}

fit_aimed : (size end : ℕ) (e : Event) (fs : Few Event) → size ≤ 32 → AllByRecursion (Fits size end e) (listed fs) →
    Aimed fs
fit_aimed size end e Nothing h a = tt
fit_aimed size end e (One f) h a = let p = a.0.receiver in omega arith
fit_aimed size end e (Two f k) h a = let p = a.0.receiver in let q = a.1.0.receiver in (omega arith, omega arith)

pub applied_aimed : (m : Meaning) (u : Limits) (e : Event) (q : Process) → m.size ≤ 32 → Aimed (applied m u e q).sends
applied_aimed m u e q h = fit_aimed m.size u.end e (applied m u e q).sends h (applied-sends m u e q).fit

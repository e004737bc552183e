-- An absorption: refused where the inbox is empty, else as the machine absorbs.
use Rattle.std.proofs.Common.{◌≡◌, ℕ, ◌<◌, true, List, [], is_some, Some, None, Option, slice_set, ap, arith}
use Rattle.std.proofs.lemmas.Bool.Decides.{nat_tests}
use Rattle.pool.specs.Lanes.{place_at}
use Rattle.pool.specs.declared.place.Place.{Place}
use Rattle.pool.specs.declared.place.Place.TheVariants.{Out}
use Rattle.machine.specs.declared.call.Answer.TheVariants.{Absorbed}
use Rattle.machine.specs.declared.call.Call.TheVariants.{Absorb}
use Rattle.machine.specs.declared.refusal.Refusal.TheVariants.{InboxEmpty}
use Rattle.machine.specs.Machine.{Absorption, Machine, absorbed, absorbed_to, first, returned, worker}
use Rattle.machine.specs.Calls.{World, Does, refusal, lanes_drawn, does, answers}
use Rattle.machine.specs.Calls.DrawnAll.{none}
use Rattle.tables.specs.Meaning.{machine_of}
use Rattle.tables.specs.Takes.{Takes}
use Rattle.tables.specs.declared.absorb.Freed.{Freed}
use Rattle.tables.specs.declared.absorb.Taken.{Taken}
use Rattle.tables.specs.declared.Tables.{Tables}
use Rattle.executive.specs.World.{Lent}
use Rattle.executive.proofs.Does.{acted}

pub absorb_goes : {W : World} {s s' : Machine} {w a m n : ℕ} → w < W.plan.workers →
    is_some (first (worker s w).inbox) ≡ true → absorbed_to s' a m n ≡ absorbed W.lanes W.plan w s →
    Does W s (Absorb w) (Absorbed a m n) s'
unfolding refusal lanes_drawn does answers
absorb_goes i h e = acted [] (grind (arith, nat_tests)) none
    (ap (λ (r : Absorption). Absorbed r.annihilated r.undone r.cancelled) e) (ap (λ (r : Absorption). r.machine) e)

module _ (W : World) (t t' : Tables) (pl : List Place) {w : ℕ} {o : Option Taken} (takes : Takes W.plan w t t' o) where
  -- nothing was taken
  pub absorb_lacks : o ≡ None → w < W.plan.workers → (refusal W (machine_of t pl) (Absorb w) ≡ Some InboxEmpty) ×
      (machine_of t' pl ≡ machine_of t pl)
  unfolding refusal
  absorb_lacks empty i =
      let d = (rw empty at takes) W.lanes pl in
      let h = ap is_some d.0 in
      (grind (arith, nat_tests), d.1)

  module _ (x : Taken) (some : o ≡ Some x) (i : w < W.plan.workers) where
    -- it came in
    pub absorb_came : x.freed ≡ None → Does W (machine_of t pl) (Absorb w) (Absorbed 0 x.undone x.cancelled)
        (machine_of t' pl)
    absorb_came kept = let d = (rw kept at (rw some at takes)) W.lanes pl in absorb_goes i d.0 d.1

    -- it is gone, and the buffer that was freed, which was out, went back to the pool
    pub absorb_gone : {f : Freed} (pl' : List Place) → x.freed ≡ Some f → Lent (machine_of t pl) →
        (place_at pl f.buffer ≡ Out → pl' ≡ slice_set pl f.buffer (returned W.lanes W.plan f.event)) →
        Does W (machine_of t pl) (Absorb w) (Absorbed 1 x.undone x.cancelled) (machine_of t' pl')
    absorb_gone {f} pl' gone lent back =
        let d = (rw gone at (rw some at takes)) W.lanes pl in
        let b = back (lent.heads w f.buffer d.0) in
        rw b (absorb_goes i (ap is_some d.0) d.1)

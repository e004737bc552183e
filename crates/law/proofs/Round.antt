-- Opening a round keeps the invariant: GVT is no later than the end, to which every floor is set.
use Rattle.std.proofs.Common.{◌≡◌, ℕ, zero, suc, ◌<◌, List, [], ◌∷◌, map, length, get_or, None, refl, ap, ◌∙◌, arith}
use mathlib.Core.Path.{fun_ext}
use Rattle.sequential.specs.declared.event.Process.{Process}
use Rattle.machine.specs.Calls.{World}
use Rattle.machine.specs.Machine.{Machine, Worker, idle, opened, clearing}
use Rattle.machine.specs.declared.plan.Plan.{Plan}
use Rattle.law.specs.Law.{Proper}
use Rattle.law.proofs.Absorb.{none}
use Rattle.law.proofs.Invariant.{boxes, Kept, Steady}
use Rattle.law.proofs.Steady.{Steady-same}

length-cleared : (end : ℕ) (xs : List Worker) → length (map (clearing end) xs) ≡ length xs
length-cleared end [] = refl
length-cleared end (x ∷ xs) = ap suc (length-cleared end xs)

cleared_inbox : (end : ℕ) (xs : List Worker) (v : ℕ) →
    (get_or (map (clearing end) xs) v idle).inbox ≡ (get_or xs v idle).inbox
cleared_inbox end [] v = refl
cleared_inbox end (x ∷ xs) zero = refl
cleared_inbox end (x ∷ xs) (suc v) = cleared_inbox end xs v

pub cleared_report : (end : ℕ) (xs : List Worker) (v : ℕ) → (get_or (map (clearing end) xs) v idle).report ≡ None
cleared_report end [] v = refl
cleared_report end (x ∷ xs) zero = refl
cleared_report end (x ∷ xs) (suc v) = cleared_report end xs v

pub cleared_floor : (end : ℕ) (xs : List Worker) (v : ℕ) → v < length xs →
    (get_or (map (clearing end) xs) v idle).floor ≡ end
cleared_floor end [] v l = absurd (omega arith)
cleared_floor end (x ∷ xs) zero l = refl
cleared_floor end (x ∷ xs) (suc v) l = cleared_floor end xs v (omega arith)

pub Kept-opened : (W : World) → Proper W → (base : ℕ → Process) (s : Machine) → Kept W base none [] s →
    Kept W base none [] (opened W.plan s)
unfolding opened
Kept-opened W P base s K = record {
  sized = record {
    messages = K.sized.messages;
    places = K.sized.places;
    workers = length-cleared W.plan.limits.end s.workers ∙ K.sized.workers;
    processes = K.sized.processes;
  };
  ended = record { gvt_ends = K.ended.gvt_ends; floor_ends = omega arith };
  fit = K.fit;
  placed = K.placed;
  boxed = rw inboxes K.boxed;
  keyed = rw inboxes K.keyed;
  chained = K.chained;
  sending = K.sending;
  timed = record {
    lowest = λ _. record {
      outer = K.ended.gvt_ends;
      told = λ v r l e. absurd (let z = cleared_report W.plan.limits.end s.workers v in grind arith);
      untold = λ v l e. let f =
          cleared_floor W.plan.limits.end s.workers v
          (let i = W.plan.staffed.1 in let j = K.sized.workers in omega arith) in
          let g = K.ended.gvt_ends in
          omega arith;
    };
    covers =
        λ b a. record {
          low = (K.timed.covers b a).low;
          bound = λ o n. absurd (n (cleared_report W.plan.limits.end s.workers _));
        };
  };
}
  where
    inboxes : boxes none (opened W.plan s) ≡ boxes none s
    inboxes = fun_ext (cleared_inbox W.plan.limits.end s.workers)

pub Steady-opened : (u : Plan) (base : ℕ → Process) (s : Machine) → Steady base s (opened u s)
unfolding opened
Steady-opened u base s = Steady-same refl refl refl (omega arith) refl

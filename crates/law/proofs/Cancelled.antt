-- What cancelling a message does to a machine, part by part.
use Rattle.std.proofs.Common.{◌≡◌, ℕ, ◌<◌, ◌≤◌, min, true, false, [], ◌∷◌, ◌++◌, length, set, refl, ap, ◌∙◌, inl, inr}
use Rattle.std.proofs.Common.{arith}
use mathlib.Core.Path.{fun_ext}
use Rattle.std.proofs.lemmas.List.{get_or-set_same, get_or-set_other, length-set}
use Rattle.std.proofs.lemmas.Bool.{cases_Bool, cases_eq, both_ways}
use Rattle.machine.specs.Machine.{Machine, Worker, idle, at, worker, home, marked, lower, enter, entered, with_message}
use Rattle.machine.specs.Machine.{is_transit, cancelled}
use Rattle.machine.specs.declared.plan.Plan.{Plan}
use Rattle.law.proofs.Cancel.{Lowering}
use Rattle.law.proofs.Invariant.{floors, reports}
use Rattle.law.proofs.Members.{get_or-set_keeps}
use Rattle.law.proofs.Room.{entered_room}

-- ---- one worker

pub lower-floors : (s : Machine) (w t : ℕ) → w < length s.workers → Lowering (floors s) (floors (lower w t s)) w t
unfolding lower
lower-floors s w t l = record { falls = rw here (omega arith); least = least'; keeps = keeps' }
  where
    here : floors (lower w t s) w ≡ min (floors s w) t
    here = ap (λ (x : Worker). x.floor) (get_or-set_same s.workers w _ idle l)

    there : (v : ℕ) → (v ≡ w → ⊥) → floors (lower w t s) v ≡ floors s v
    there v n = ap (λ (x : Worker). x.floor) (get_or-set_other s.workers w v _ idle n)

    least' : (v : ℕ) → floors (lower w t s) v ≤ floors s v
    least' v = elim (cases_eq v w) [ inl e ↦ rw (e, here) (omega arith) | inr n ↦ rw (there v n) (omega arith) ]

    keeps' : (x v : ℕ) → x ≤ floors s v → x ≤ t → x ≤ floors (lower w t s) v
    keeps' x v h k =
        elim (cases_eq v w) [
          | inl e ↦ rw (e, here) (let i : x ≤ floors s w = rw e at h in omega arith)
          | inr n ↦
              rw (there v n) h
        ]

-- what cancelling b by the worker w does to a machine
pub record Cancels (u : Plan) (w b : ℕ) (s s' : Machine) : Type 0 where
  pub messages : s'.messages ≡ set s.messages b (marked (at s b))
  pub processes : s'.processes ≡ s.processes
  pub places : s'.places ≡ s.places
  pub posted : s'.posted ≡ s.posted
  pub floor : s'.floor ≡ s.floor
  pub rounding : s'.rounding ≡ s.rounding
  pub gvt : s'.gvt ≡ s.gvt
  pub workers : length s'.workers ≡ length s.workers
  pub lowers : Lowering (floors s) (floors s') w (at s b).event.time
  pub reported : reports s' ≡ reports s
  pub elsewhere : (v : ℕ) → (v ≡ home u (at s b).event.process → ⊥) → (worker s' v).inbox ≡ (worker s v).inbox
  pub coming : is_transit (at s b).phase ≡ true →
      (worker s' (home u (at s b).event.process)).inbox ≡ (worker s (home u (at s b).event.process)).inbox
  pub enters : is_transit (at s b).phase ≡ false →
      (worker s' (home u (at s b).event.process)).inbox ≡ (worker s (home u (at s b).event.process)).inbox ++ b ∷ []

module _ (u : Plan) (w b : ℕ) (s : Machine) (l : w < length s.workers)
    (k : home u (at s b).event.process < length s.workers)
    (r : is_transit (at s b).phase ≡ false → length (worker s (home u (at s b).event.process)).inbox < 256) where
  h : ℕ
  h = home u (at s b).event.process

  lowered : Machine
  lowered = lower w (at s b).event.time (with_message b (marked (at s b)) s)

  lowered_inbox : (v : ℕ) → (worker lowered v).inbox ≡ (worker s v).inbox
  unfolding lowered lower
  lowered_inbox = get_or-set_keeps (λ (x : Worker). x.inbox) s.workers w _ idle refl

  lowered_report : (v : ℕ) → (worker lowered v).report ≡ (worker s v).report
  unfolding lowered lower
  lowered_report = get_or-set_keeps (λ (x : Worker). x.report) s.workers w _ idle refl

  Cancels-moving : is_transit (at s b).phase ≡ true → Cancels u w b s lowered
  unfolding lowered h lower
  Cancels-moving t = record {
    messages = refl;
    processes = refl;
    places = refl;
    posted = refl;
    floor = refl;
    rounding = refl;
    gvt = refl;
    workers = length-set s.workers w _;
    lowers = lower-floors s w _ l;
    reported = fun_ext lowered_report;
    elsewhere = λ v _. lowered_inbox v;
    coming = λ _. lowered_inbox _;
    enters = λ f. absurd (both_ways _ f t);
  }

  entered-floor : (v : ℕ) → floors (enter h b lowered) v ≡ floors lowered v
  unfolding lowered h lower enter
  entered-floor = get_or-set_keeps (λ (x : Worker). x.floor) lowered.workers h _ idle refl

  entered-report : (v : ℕ) → reports (enter h b lowered) v ≡ reports lowered v
  unfolding lowered h lower enter
  entered-report = get_or-set_keeps (λ (x : Worker). x.report) lowered.workers h _ idle refl

  Cancels-still : is_transit (at s b).phase ≡ false → Cancels u w b s (enter h b lowered)
  unfolding lowered h lower enter
  Cancels-still f = record {
    messages = refl;
    processes = refl;
    places = refl;
    posted = refl;
    floor = refl;
    rounding = refl;
    gvt = refl;
    workers = length-set lowered.workers h _ ∙ length-set s.workers w _;
    lowers = rw (fun_ext entered-floor) (lower-floors s w _ l);
    reported = fun_ext (λ v. entered-report v ∙ lowered_report v);
    elsewhere = λ v n. ap (λ (x : Worker). x.inbox) (get_or-set_other lowered.workers h v _ idle n) ∙ lowered_inbox v;
    coming = λ t. absurd (both_ways _ f t);
    enters =
        λ _. ap (λ (x : Worker). x.inbox) (get_or-set_same lowered.workers h _ idle (rw (length-set s.workers w _) k)) ∙
        ap (entered b) (lowered_inbox h) ∙ entered_room b (worker s h).inbox (r f);
  }

  pub cancels : Cancels u w b s (cancelled u w b s)
  unfolding lowered h cancelled
  cancels = elim (cases_Bool (is_transit (at s b).phase)) [
    | inl t ↦ rw (t, cancelled) (Cancels-moving t)
    | inr f ↦ rw (f, cancelled) (Cancels-still f)
  ]

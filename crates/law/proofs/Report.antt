-- Reporting keeps the invariant: what a worker reports is no later than anything active there, so the last report sets
-- GVT to no later than any active message.
use Rattle.std.proofs.Common.{◌≡◌, ℕ, zero, suc, ◌<◌, ◌≤◌, min, Bool, true, false, [], length, Some, None, Option, sym}
use Rattle.std.proofs.Common.{refl, ap, ◌∙◌, inl, inr, arith}
use mathlib.Core.Path.{fun_ext}
use Rattle.std.proofs.lemmas.List.{get_or-set_same, get_or-set_other, length-set}
use Rattle.std.proofs.lemmas.Bool.{cases_eq, both_ways}
use Rattle.sequential.specs.declared.event.Event.{Event}
use Rattle.sequential.specs.declared.event.Process.{Process}
use Rattle.machine.specs.Calls.{World}
use Rattle.machine.specs.Machine.{Machine, Worker, blank, idle, at, worker, home, least_time, report_of, missing}
use Rattle.machine.specs.Machine.{least_report, with_report, closed, reported}
use Rattle.law.specs.Law.{Proper}
use Rattle.law.proofs.Absorb.{none}
use Rattle.law.proofs.Invariant.{lives, transits, pendings, flags, events, boxes, floors, reports, Kept, Timed, Bound}
use Rattle.law.proofs.Invariant.{Covered, Active, Steady}
use Rattle.law.proofs.Invariant.Active.{moves, waits, ends}
use Rattle.law.proofs.Members.{get_or-set_keeps}
use Rattle.law.proofs.Parts.{live_within}
use Rattle.law.proofs.Picks.{ready, Ready-parts, Ready-from, pending_stands}
use Rattle.law.proofs.Steady.{Steady-same}
use Rattle.law.proofs.Times.{least_time_least, least_time_from, inbox_time_least, inbox_time_from, missing_none}
use Rattle.law.proofs.Times.{least_report_least, least_report_from}
use Rattle.law.proofs.World.{homes}

module _ {home : ℕ → ℕ} {workers : ℕ} {moving waiting gone : ℕ → Bool} {event : ℕ → Event} {floor : ℕ} {floors : ℕ → ℕ}
    {reports : ℕ → Option ℕ} {rounding : Bool} {gvt : ℕ} where
  pub Timed-with_report : {reports' : ℕ → Option ℕ} (w r : ℕ) → w < workers → reports w ≡ None → reports' w ≡ Some r →
      ((v : ℕ) → (v ≡ w → ⊥) → reports' v ≡ reports v) → r ≤ floors w → gvt ≤ r →
      ((b : ℕ) → Active moving waiting gone b → home (event b).process ≡ w → r ≤ (event b).time) →
      Timed home workers moving waiting gone event floor floors reports rounding gvt →
      Timed home workers moving waiting gone event floor floors reports' rounding gvt
  Timed-with_report {reports'} w r inside was is others under low active T =
      record { lowest = lowest'; covers = covers' }
    where
      before : (x : ℕ) → Bound workers floor floors reports' x → Bound workers floor floors reports x
      before x B = record {
        outer = B.outer;
        told = λ v q l e. B.told v q l (others v (λ k. let z : reports w ≡ Some q = rw k at e in grind arith) ∙ e);
        untold = λ v l e. elim (cases_eq v w) [
          | inl k ↦ rw k (let i = B.told w r inside is in omega arith)
          | inr n ↦ B.untold v l (others v n ∙ e)
        ];
      }

      lowest' : rounding ≡ true → Bound workers floor floors reports' gvt
      lowest' o = let B = T.lowest o in record {
        outer = B.outer;
        told =
            λ v q l e. elim (cases_eq v w) [
              | inl k ↦ (let z : reports' w ≡ Some q = rw k at e in let y : r ≡ q = cc in omega arith)
              | inr n ↦
                  B.told v q l (sym (others v n) ∙ e)
            ];
        untold =
            λ v l e. elim (cases_eq v w) [
              | inl k ↦
                  (let z : reports' w ≡ None = rw k at e in absurd (grind arith))
              | inr n ↦
                  B.untold v l (sym (others v n) ∙ e)
            ];
      }

      covers' : (b : ℕ) → Active moving waiting gone b →
          Covered workers floor floors reports' rounding gvt (home (event b).process) (event b).time
      covers' b a = let C = T.covers b a in elim (cases_eq (home (event b).process) w) [
        | inl k ↦ record {
          low = C.low;
          bound = λ o n x B. let i = B.told w r inside is in let j = active b a k in omega arith;
        }
        | inr m ↦ record { low = C.low; bound = λ o n x B. C.bound o (λ e. n (others _ m ∙ e)) x (before x B) }
      ]

  pub Timed-close : (gvt' : ℕ) → rounding ≡ true →
      ((b : ℕ) → Active moving waiting gone b → home (event b).process < workers) →
      ((v : ℕ) → v < workers → reports v ≡ None → ⊥) → Bound workers floor floors reports gvt' →
      Timed home workers moving waiting gone event floor floors reports rounding gvt →
      Timed home workers moving waiting gone event floor floors reports false gvt'
  Timed-close gvt' o homes all B T = record {
    lowest = λ e. absurd (both_ways _ refl e);
    covers =
        λ b a. record {
          low = (T.covers b a).bound o (all _ (homes b a)) gvt' B;
          bound = λ e. absurd (both_ways _ refl e);
        };
  }

module _ (W : World) (P : Proper W) (base : ℕ → Process) where
  module _ (w : ℕ) (s : Machine) (inside : w < W.plan.workers) (K : Kept W base none [] s) where
    within : w < length s.workers
    within = let i = W.plan.staffed.1 in let j = K.sized.workers in omega arith

    told_inboxes : boxes none (with_report W.plan w s) ≡ boxes none s
    unfolding with_report
    told_inboxes = fun_ext (get_or-set_keeps (λ (x : Worker). x.inbox) s.workers w _ idle refl)

    with_report-floors : floors (with_report W.plan w s) ≡ floors s
    unfolding with_report
    with_report-floors = fun_ext (get_or-set_keeps (λ (x : Worker). x.floor) s.workers w _ idle refl)

    start : ℕ
    start = least_time (ready W.plan w) s.messages (min W.plan.limits.end (floors s w))

    start_under : start ≤ floors s w
    unfolding start
    start_under =
        let i = (least_time_least (ready W.plan w) s.messages (min W.plan.limits.end (floors s w))).0 in omega arith

    report-start : report_of W.plan w s ≤ start
    unfolding start report_of
    report-start = (inbox_time_least s (worker s w).inbox start).0

    report_active : (b : ℕ) → Active (transits s) (pendings s) (flags s) b → home W.plan (events s b).process ≡ w →
        report_of W.plan w s ≤ (events s b).time
    unfolding start report_of
    report_active b (moves h) e =
        (inbox_time_least s (worker s w).inbox start).1 b (rw e at (K.boxed.reached b (inl h)))
    report_active b (ends h) e = (inbox_time_least s (worker s w).inbox start).1 b (rw e at (K.boxed.reached b (inr h)))
    report_active b (waits h) e =
        let i = (least_time_least (ready W.plan w) s.messages (min W.plan.limits.end (floors s w))).1 b blank
        (live_within s b (pending_stands (at s b) h).0) (Ready-from W.plan w (at s b) h e) in
        let j = report-start in
        omega arith

    report_low : (s.rounding ≡ true) → reports s w ≡ None → s.gvt ≤ report_of W.plan w s
    unfolding start report_of
    report_low o z = inbox_time_from s (worker s w).inbox start s.gvt
        (least_time_from (ready W.plan w) s.messages (min W.plan.limits.end (floors s w)) s.gvt
        (let i = (K.timed.lowest o).untold w inside z in let j = K.ended.gvt_ends in omega arith)
        (λ b l h. (K.timed.covers b (waits (Ready-parts W.plan w (at s b) h).0)).low))
        (λ b i. (K.timed.covers b (elim (K.boxed.due w b i) [ inl t ↦ moves t | inr g ↦ ends g ])).low)

    Kept-with_report : s.rounding ≡ true → reports s w ≡ None → Kept W base none [] (with_report W.plan w s)
    unfolding with_report
    Kept-with_report o z = record {
      sized = record {
        messages = K.sized.messages;
        places = K.sized.places;
        workers = length-set s.workers w _ ∙ K.sized.workers;
        processes = K.sized.processes;
      };
      ended = K.ended;
      fit = K.fit;
      placed = K.placed;
      boxed = rw told_inboxes K.boxed;
      keyed = rw told_inboxes K.keyed;
      chained = K.chained;
      sending = K.sending;
      timed = rw with_report-floors (Timed-with_report w (report_of W.plan w s) inside z
          (ap (λ (x : Worker). x.report) (get_or-set_same s.workers w _ idle within))
          (λ v n. ap (λ (x : Worker). x.report) (get_or-set_other s.workers w v _ idle n))
          (let i = report-start in let j = start_under in omega arith) (report_low o z) report_active K.timed);
    }

  -- the last report closes the round
  Kept-closed : (s : Machine) → s.rounding ≡ true → missing s.workers W.plan.workers ≡ 0 → Kept W base none [] s →
      Kept W base none [] (closed (least_report s.workers W.plan.workers s.floor) s)
  Kept-closed s o h K = record {
    sized = record {
      messages = K.sized.messages;
      places = K.sized.places;
      workers = K.sized.workers;
      processes = K.sized.processes;
    };
    ended = record {
      gvt_ends = let i = K.ended.floor_ends in let j = least.0 in omega arith;
      floor_ends = K.ended.floor_ends;
    };
    fit = K.fit;
    placed = K.placed;
    boxed = K.boxed;
    keyed = K.keyed;
    chained = K.chained;
    sending = K.sending;
    timed =
        Timed-close (least_report s.workers W.plan.workers s.floor) o
        (λ b a. homes W P (events s b).process (K.fit.fits b (active_lives a)).process) all bound K.timed;
  }
    where
      active_lives : {b : ℕ} → Active (transits s) (pendings s) (flags s) b → lives s b ≡ true
      active_lives (moves h) = K.boxed.moves _ h
      active_lives (ends h) = K.boxed.ends _ h
      active_lives {b} (waits h) = (pending_stands (at s b) h).0

      least : (least_report s.workers W.plan.workers s.floor ≤ s.floor) ×
          ((v r : ℕ) → v < W.plan.workers → v < length s.workers → reports s v ≡ Some r →
          least_report s.workers W.plan.workers s.floor ≤ r)
      least = least_report_least s.workers W.plan.workers s.floor

      all : (v : ℕ) → v < W.plan.workers → reports s v ≡ None → ⊥
      all v l =
          missing_none s.workers W.plan.workers h v l
          (let i = W.plan.staffed.1 in let j = K.sized.workers in omega arith)

      bound : Bound W.plan.workers s.floor (floors s) (reports s) (least_report s.workers W.plan.workers s.floor)
      bound = record {
        outer = least.0;
        told = λ v r l e. least.1 v r l (let i = W.plan.staffed.1 in let j = K.sized.workers in omega arith) e;
        untold = λ v l e. absurd (all v l e);
      }

  pub Kept-reported : (w : ℕ) (s : Machine) → w < W.plan.workers → s.rounding ≡ true → reports s w ≡ None →
      Kept W base none [] s → Kept W base none [] (reported W.plan w s)
  unfolding reported with_report
  Kept-reported w s inside o z K = go (missing (with_report W.plan w s).workers W.plan.workers) refl
    where
      K' : Kept W base none [] (with_report W.plan w s)
      K' = Kept-with_report w s inside K o z

      go : (k : ℕ) → missing (with_report W.plan w s).workers W.plan.workers ≡ k →
          Kept W base none [] (reported W.plan w s)
      go zero h = rw (h, reported) (Kept-closed (with_report W.plan w s) o h K')
      go (suc k) h = rw (h, reported) K'

  pub Steady-reported : (w : ℕ) (s : Machine) → w < W.plan.workers → s.rounding ≡ true → reports s w ≡ None →
      Kept W base none [] s → Steady base s (reported W.plan w s)
  unfolding reported with_report
  Steady-reported w s inside o z K = go (missing (with_report W.plan w s).workers W.plan.workers) refl
    where
      B : Bound W.plan.workers s.floor (floors (with_report W.plan w s)) (reports (with_report W.plan w s)) s.gvt
      B = (Kept-with_report w s inside K o z).timed.lowest o

      go : (k : ℕ) → missing (with_report W.plan w s).workers W.plan.workers ≡ k → Steady base s (reported W.plan w s)
      go zero h =
          rw (h, reported) (Steady-same refl refl refl
          (least_report_from (with_report W.plan w s).workers W.plan.workers s.floor s.gvt B.outer
          (λ v r i e. B.told v r i e))
          refl)
      go (suc k) h = rw (h, reported) (Steady-same refl refl refl (omega arith) refl)

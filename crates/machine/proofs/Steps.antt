-- The laws of the definitions that functions over the tables are proved by.
use Rattle.std.proofs.Common.{◌≡◌, ℕ, zero, suc, ◌+◌, ◌-◌, Bool, true, false, List, [], ◌∷◌, ◌++◌, set, Some, None}
use Rattle.std.proofs.Common.{Option, sym, refl, ap, ◌∙◌, inl, inr, append_assoc, append-nil, arith}
use Rattle.std.proofs.lemmas.Bool.{cases_Bool}
use lib.Seq.{set-get_or}
use Rattle.model.specs.Meaning.{listed, many}
use Rattle.model.specs.declared.reaction.Few.{Few}
use Rattle.model.specs.declared.reaction.Few.TheVariants.{Nothing, One, Two}
use Rattle.pool.specs.Lanes.{Lanes}
use Rattle.sequential.specs.Events.{line_of, process_after}
use Rattle.sequential.specs.declared.event.Event.{Event}
use Rattle.sequential.specs.declared.event.Line.{Line}
use Rattle.sequential.specs.declared.event.Outcome.{Outcome}
use Rattle.sequential.specs.declared.event.Process.{Process}
use Rattle.machine.specs.declared.message.Message.{Message}
use Rattle.machine.specs.declared.message.Phase.{Phase}
use Rattle.machine.specs.declared.message.Phase.TheVariants.{Free, Transit, Pending, Done}
use Rattle.machine.specs.declared.plan.Plan.{Plan}
use Rattle.machine.specs.Machine.{Machine, at, home, is_transit, lower, enter, with_message, restored, marked}
use Rattle.machine.specs.Machine.{cancelled, cancelled_all, undone, latest, Rolled, rolled_to, rolled, rollback, past}
use Rattle.machine.specs.Machine.{Worker, idle, worker, first, rest, leaving, popped, is_done, freed, arrived}
use Rattle.machine.specs.Machine.{annihilated, absorbed, absorbed_to, pending_again, with_report, missing, least_report}
use Rattle.machine.specs.Machine.{closed}
use Rattle.machine.specs.Machine.{reported, sent, sent_all, stepped_by, finished, process, with_process, Collected}
use Rattle.machine.specs.Machine.{collected_to, collected, oldest}

not_transit : (p : Phase) → (p ≡ Transit → ⊥) → is_transit p ≡ false
not_transit Free h = refl
not_transit Transit h = absurd (h refl)
not_transit Pending h = refl
not_transit Done h = refl

module _ (u : Plan) (w b : ℕ) (s : Machine) where
  pub cancelled_transit : (at s b).phase ≡ Transit →
      cancelled u w b s ≡ lower w (at s b).event.time (with_message b (marked (at s b)) s)
  unfolding cancelled
  cancelled_transit e = let t : is_transit (at s b).phase ≡ true = ap is_transit e in rw (t, cancelled)

  pub cancelled_other : ((at s b).phase ≡ Transit → ⊥) →
      cancelled u w b s ≡ enter (home u (at s b).event.process) b
      (lower w (at s b).event.time (with_message b (marked (at s b)) s))
  unfolding cancelled
  cancelled_other h = let t = not_transit (at s b).phase h in rw (t, cancelled)

  pub undone_none : (at s b).sent ≡ Nothing → undone u w b s ≡ restored b s
  unfolding undone cancelled_all
  undone_none e = rw e

  pub undone_one : (x : ℕ) → (at s b).sent ≡ One x → undone u w b s ≡ cancelled u w x (restored b s)
  unfolding undone cancelled_all
  undone_one x e = rw e

  pub undone_two : (x y : ℕ) → (at s b).sent ≡ Two x y →
      undone u w b s ≡ cancelled u w y (cancelled u w x (restored b s))
  unfolding undone cancelled_all
  undone_two x y e = rw e

pub restored_is : (b : ℕ) (m : Message) (s t x : Machine) →
    t ≡ with_process (at s b).event.process (at s b).snapshot s → m ≡ pending_again (at s b) → x ≡ with_message b m t →
    x ≡ restored b s
restored_is b m s t x e g h = h ∙ ap (λ (y : Message). with_message b y t) g
    ∙ ap (with_message b (pending_again (at s b))) e

-- what is still to be rolled back, beside what was
abbrev pub added : ℕ → ℕ → Rolled → Rolled
added m n r = rolled_to r.machine (m + r.undone) (n + r.cancelled)

module _ (u : Plan) (w p : ℕ) (pass : Event → Bool) where
  pub rolled_none : (k : ℕ) (s : Machine) → latest p pass s ≡ None → rolled k u w p pass s ≡ rolled_to s 0 0
  unfolding rolled
  rolled_none zero s e = refl
  rolled_none (suc k) s e = rw (e, rolled)

  pub rolled_some : (k b m n : ℕ) (s : Machine) → latest p pass s ≡ Some b →
      added m n (rolled (suc k) u w p pass s) ≡
      added (m + 1) (n + many (at s b).sent) (rolled k u w p pass (undone u w b s))
  unfolding rolled
  rolled_some k b m n s e =
      let r : Rolled = rolled k u w p pass (undone u w b s) in
      let a : rolled (suc k) u w p pass s ≡
      rolled_to r.machine (suc r.undone) (many (at s b).sent + r.cancelled) = rw (e, rolled) in
      let x : m + suc r.undone ≡ (m + 1) + r.undone = omega arith in
      let y : n + (many (at s b).sent + r.cancelled) ≡ (n + many (at s b).sent) + r.cancelled = omega arith in
      ap (added m n) a ∙ ap (λ i. rolled_to r.machine i (n + (many (at s b).sent + r.cancelled))) x ∙
      ap (λ j. rolled_to r.machine ((m + 1) + r.undone) j) y

  -- a loop that rolls back: where it stops, at its end, and one turn
  pub rolled_stop : (k m n : ℕ) (s : Machine) (r : Rolled) → None ≡ latest p pass s →
      added m n (rolled k u w p pass s) ≡ r → rolled_to s m n ≡ r
  rolled_stop k m n s r e h =
      let a = rolled_none k s (sym e) in
      let x : m + 0 ≡ m = omega arith in
      let y : n + 0 ≡ n = omega arith in
      cc

  pub rolled-end : (k m n : ℕ) (s : Machine) (r : Rolled) → k ≡ 0 → added m n (rolled k u w p pass s) ≡ r →
      rolled_to s m n ≡ r
  unfolding rolled
  rolled-end k m n s r e h =
      let a : rolled k u w p pass s ≡ rolled_to s 0 0 = rw e in
      let x : m + 0 ≡ m = omega arith in
      let y : n + 0 ≡ n = omega arith in
      cc

  pub rolled-turn : (k j b m n x : ℕ) (s t : Machine) (r : Rolled) → k ≡ suc j → Some b ≡ latest p pass s →
      x ≡ many (at s b).sent → t ≡ undone u w b s → added m n (rolled k u w p pass s) ≡ r →
      added (m + 1) (n + x) (rolled j u w p pass t) ≡ r
  rolled-turn k j b m n x s t r f e g h i =
      let a = rolled_some j b m n s (sym e) in
      rw (g, h, ← a, ← f) i

not_done : (p : Phase) → (p ≡ Done → ⊥) → is_done p ≡ false
not_done Free h = refl
not_done Transit h = refl
not_done Pending h = refl
not_done Done h = absurd (h refl)

module _ (l : Lanes) (u : Plan) (w b : ℕ) (s : Machine) where
  pub arrived_is : (r : Rolled) → r ≡ rollback u w (at s b).event.process (past false (at s b).event) s →
      absorbed_to (with_message b (pending_again (at s b)) r.machine) 0 r.undone r.cancelled ≡ arrived u w b s
  unfolding arrived
  arrived_is r e = ap (λ r. absorbed_to (with_message b (pending_again (at s b)) r.machine) 0 r.undone r.cancelled) e

  pub annihilated_done : (r : Rolled) → (at s b).phase ≡ Done →
      r ≡ rollback u w (at s b).event.process (past true (at s b).event) s →
      absorbed_to (freed l u b r.machine) 1 r.undone r.cancelled ≡ annihilated l u w b s
  unfolding annihilated
  annihilated_done r d e =
      let t : is_done (at s b).phase ≡ true = ap is_done d in
      rw (t, annihilated) (ap (λ r. absorbed_to (freed l u b r.machine) 1 r.undone r.cancelled) e)

  pub annihilated_other : ((at s b).phase ≡ Done → ⊥) → absorbed_to (freed l u b s) 1 0 0 ≡ annihilated l u w b s
  unfolding annihilated
  annihilated_other h = let t = not_done (at s b).phase h in rw (t, annihilated)

first_none : (bs : List ℕ) → first bs ≡ None → bs ≡ []
first_none [] e = refl
first_none (b ∷ bs) e = cc

leaving_none : (x : Worker) → x.inbox ≡ [] → leaving x ≡ x
leaving_none x e =
    let r : rest x.inbox ≡ x.inbox = rw e in
    rw r

module _ (l : Lanes) (u : Plan) (w : ℕ) (s : Machine) where
  -- an empty inbox stays as it is
  pub left_none : first (worker s w).inbox ≡ None → popped w s ≡ s
  unfolding popped
  left_none e =
      let n = first_none (worker s w).inbox e in
      let a : leaving (worker s w) ≡ worker s w = leaving_none (worker s w) n in
      let b : set s.workers w (worker s w) ≡ s.workers = set-get_or s.workers w idle in
      rw (a, b)

  pub absorbed_none : first (worker s w).inbox ≡ None → absorbed_to s 0 0 0 ≡ absorbed l u w s
  unfolding absorbed
  absorbed_none e = rw (e, absorbed)

  pub absorbed_gone : (b : ℕ) (t : Machine) → Some b ≡ first (worker s w).inbox → t ≡ popped w s →
      (at t b).cancelled ≡ true → annihilated l u w b t ≡ absorbed l u w s
  unfolding absorbed popped
  absorbed_gone b t e h d =
      let c : (at s b).cancelled ≡ true = ap (λ x. (at x b).cancelled) (sym h) ∙ d in
      rw (← e, c, absorbed) (ap (annihilated l u w b) h)

  pub absorbed_arrived : (b : ℕ) (t : Machine) → Some b ≡ first (worker s w).inbox → t ≡ popped w s →
      (at t b).cancelled ≡ false → arrived u w b t ≡ absorbed l u w s
  unfolding absorbed popped
  absorbed_arrived b t e h d =
      let c : (at s b).cancelled ≡ false = ap (λ x. (at x b).cancelled) (sym h) ∙ d in
      rw (← e, c, absorbed) (ap (arrived u w b) h)

module _ (u : Plan) (w : ℕ) (s t : Machine) (h : t ≡ with_report u w s) where
  pub reported_last : missing t.workers u.workers ≡ 0 →
      closed (least_report t.workers u.workers t.floor) t ≡ reported u w s
  unfolding reported
  reported_last e =
      let d : missing (with_report u w s).workers u.workers ≡ 0 = ap (λ x. missing x.workers u.workers) (sym h) ∙ e in
      rw (d, reported) (ap (λ x. closed (least_report x.workers u.workers x.floor) x) h)

  pub reported_other : (missing t.workers u.workers ≡ 0 → ⊥) → t ≡ reported u w s
  unfolding reported
  reported_other n =
      let ne : missing (with_report u w s).workers u.workers ≡ 0 →
      ⊥ = λ e. n (ap (λ x. missing x.workers u.workers) h ∙ e) in
      let d : missing (with_report u w s).workers u.workers ≡ suc (missing (with_report u w s).workers u.workers - 1) =
      omega arith in
      rw (d, reported) h

module _ (u : Plan) (w : ℕ) (s : Machine) where
  abbrev pub sent_to : ℕ → Event → Machine → Machine
  sent_to b e s = lower w e.time (sent u b e s)

  pub sent_none : sent_all u w [] [] s ≡ s
  unfolding sent_all
  sent_none = refl

  pub sent_one : (b : ℕ) (e : Event) → sent_all u w (b ∷ []) (e ∷ []) s ≡ sent_to b e s
  unfolding sent_all
  sent_one b e = refl

  pub sent_two : (b c : ℕ) (e f : Event) → sent_all u w (b ∷ c ∷ []) (e ∷ f ∷ []) s ≡ sent_to c f (sent_to b e s)
  unfolding sent_all
  sent_two b c e f = refl

pub many_none : {A : Type 0} (f : Few A) → many f ≡ 0 → f ≡ Nothing
many_none Nothing e = refl
many_none (One a) e = let z : ⊥ = omega arith in absurd z
many_none (Two a b) e = let z : ⊥ = omega arith in absurd z

pub stepped_is : (u : Plan) (w b : ℕ) (o : Outcome) (bs : Few ℕ) (s t v x : Machine) (q : Process) →
    t ≡ sent_all u w (listed bs) (listed o.sends) s →
    v ≡ with_message b (finished (process s (at s b).event.process) o bs (at s b)) t →
    q ≡ process_after o (process s (at s b).event.process) →
    x ≡ with_process (at s b).event.process q v → x ≡ stepped_by u w b o bs s
unfolding stepped_by
stepped_is u w b o bs s t v x q e f g h = h ∙ rw (g, f, e)

-- lines that were collected, before what is still to be collected
abbrev pub prefixed : List Line → Collected → Collected
prefixed ls c = collected_to c.machine (ls ++ c.lines)

module _ (l : Lanes) (u : Plan) where
  pub collected_stop : (k : ℕ) (ls : List Line) (s : Machine) (r : Collected) → oldest s ≡ None →
      prefixed ls (collected l u k s) ≡ r → collected_to s ls ≡ r
  unfolding collected
  collected_stop zero ls s r e h = rw append-nil at h
  collected_stop (suc k) ls s r e h =
      let a : collected l u (suc k) s ≡ collected_to s [] = rw (e, collected) in
      let d = append-nil ls in
      cc

  pub collected-end : (k : ℕ) (ls : List Line) (s : Machine) (r : Collected) → k ≡ 0 →
      prefixed ls (collected l u k s) ≡ r → collected_to s ls ≡ r
  unfolding collected
  collected-end k ls s r e h =
      let a : collected l u k s ≡ collected_to s [] = rw e in
      let d = append-nil ls in
      cc

  pub collected-turn : (k j b : ℕ) (ls : List Line) (x : Line) (s t : Machine) (r : Collected) → k ≡ suc j →
      oldest s ≡ Some b → x ≡ line_of (at s b).event (at s b).outcome → t ≡ freed l u b s →
      prefixed ls (collected l u k s) ≡ r → prefixed (ls ++ x ∷ []) (collected l u j t) ≡ r
  unfolding collected
  collected-turn k j b ls x s t r f e g h i =
      let c : Collected = collected l u j (freed l u b s) in
      let a : collected l u (suc j) s ≡
      collected_to c.machine (line_of (at s b).event (at s b).outcome ∷ c.lines) = rw (e, collected) in
      let d : (ls ++ x ∷ []) ++ c.lines ≡ ls ++ x ∷ c.lines = append_assoc ls (x ∷ []) c.lines in
      rw (h, d, g, ← ap (prefixed ls) a, ← f) i

-- only a post counts as one
module _ (u : Plan) (w : ℕ) where
  cancelled-posted : (b : ℕ) (s : Machine) → (cancelled u w b s).posted ≡ s.posted
  unfolding cancelled lower enter
  cancelled-posted b s = elim (cases_Bool (is_transit (at s b).phase)) as (λ _. (cancelled u w b s).posted ≡ s.posted) [
    | inl e ↦ rw (e, cancelled)
    | inr e ↦ rw (e, cancelled)
  ]

  all_posted : (bs : List ℕ) (s : Machine) → (cancelled_all u w bs s).posted ≡ s.posted
  unfolding cancelled_all
  all_posted [] s = refl
  all_posted (b ∷ bs) s = all_posted bs (cancelled u w b s) ∙ cancelled-posted b s

  undone-posted : (b : ℕ) (s : Machine) → (undone u w b s).posted ≡ s.posted
  unfolding undone
  undone-posted b s = all_posted (listed (at s b).sent) (restored b s)

  module _ (p : ℕ) (pass : Event → Bool) where
    turn-posted : (k : ℕ) (s : Machine) → ((t : Machine) → (rolled k u w p pass t).machine.posted ≡ t.posted) →
        (o : Option ℕ) → latest p pass s ≡ o → (rolled (suc k) u w p pass s).machine.posted ≡ s.posted
    turn-posted k s h None e = ap (λ (r : Rolled). r.machine.posted) (rolled_none u w p pass (suc k) s e)
    turn-posted k s h (Some b) e = ap (λ (r : Rolled). r.machine.posted) (rolled_some u w p pass k b 0 0 s e) ∙
        h (undone u w b s) ∙ undone-posted b s

    rolled-posted : (k : ℕ) (s : Machine) → (rolled k u w p pass s).machine.posted ≡ s.posted
    unfolding rolled
    rolled-posted zero s = refl
    rolled-posted (suc k) s = turn-posted k s (rolled-posted k) (latest p pass s) refl

  arrived-posted : (b : ℕ) (s : Machine) → (arrived u w b s).machine.posted ≡ s.posted
  unfolding arrived
  arrived-posted b s = rolled-posted (at s b).event.process (past false (at s b).event) 256 s

  annihilated-posted : (l : Lanes) (b : ℕ) (s : Machine) → (annihilated l u w b s).machine.posted ≡ s.posted
  unfolding annihilated freed
  annihilated-posted l b s =
      elim (cases_Bool (is_done (at s b).phase)) as (λ _. (annihilated l u w b s).machine.posted ≡ s.posted) [
        | inl e ↦ rw (e, annihilated) (rolled-posted (at s b).event.process (past true (at s b).event) 256 s)
        | inr e ↦ rw (e, annihilated)
      ]

  sent_all-posted : (bs : List ℕ) (es : List Event) (s : Machine) → (sent_all u w bs es s).posted ≡ s.posted
  unfolding sent_all sent lower enter
  sent_all-posted bs [] s = refl
  sent_all-posted [] (e ∷ es) s = refl
  sent_all-posted (b ∷ bs) (e ∷ es) s = sent_all-posted bs es (lower w e.time (sent u b e s))

  pub stepped-posted : (b : ℕ) (o : Outcome) (bs : Few ℕ) (s : Machine) → (stepped_by u w b o bs s).posted ≡ s.posted
  unfolding stepped_by
  stepped-posted b o bs s = sent_all-posted (listed bs) (listed o.sends) s

  absorbed_by : (l : Lanes) (s : Machine) (o : Option ℕ) → first (worker s w).inbox ≡ o →
      (absorbed l u w s).machine.posted ≡ s.posted
  unfolding absorbed popped
  absorbed_by l s None e = rw (e, absorbed)
  absorbed_by l s (Some b) e =
      elim (cases_Bool (at s b).cancelled) as (λ _. (absorbed l u w s).machine.posted ≡ s.posted) [
        | inl f ↦ rw (e, f, absorbed) (annihilated-posted l b (popped w s))
        | inr f ↦ rw (e, f, absorbed) (arrived-posted b (popped w s))
      ]

  pub absorbed-posted : (l : Lanes) (s : Machine) → (absorbed l u w s).machine.posted ≡ s.posted
  absorbed-posted l s = absorbed_by l s (first (worker s w).inbox) refl

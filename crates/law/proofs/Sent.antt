-- What sending one message does to a machine, part by part.
use Rattle.std.proofs.Common.{◌≡◌, ℕ, ◌<◌, true, false, List, [], ◌∷◌, ◌++◌, length, set, sym, refl, ap, ◌∙◌, inl, inr}
use Rattle.std.proofs.Common.{append_assoc, arith}
use mathlib.Core.Path.{fun_ext}
use Rattle.std.proofs.lemmas.List.{get_or_past, get_or-set_same, get_or-set_other, length-set}
use Rattle.std.proofs.lemmas.Bool.{cases_Bool, cases_eq, cases_lt, both_ways}
use Rattle.model.specs.Meaning.{listed}
use Rattle.pool.specs.Lanes.{place_at}
use Rattle.pool.specs.declared.place.Place.TheVariants.{Out, Lane}
use Rattle.sequential.proofs.Keys.{SameKey}
use Rattle.sequential.specs.declared.event.Event.{Event}
use Rattle.sequential.specs.declared.event.Process.{Process}
use Rattle.machine.specs.Calls.{World}
use Rattle.machine.specs.Machine.{Machine, Worker, idle, worker, home, coming, sent, enter, lower, with_outside}
use Rattle.machine.specs.Machine.{is_transit, is_pending, is_done}
use Rattle.machine.specs.declared.message.Message.{Message}
use Rattle.machine.specs.declared.plan.Plan.{Plan}
use Rattle.law.proofs.Enter.{Entering, Boxed-enter, Keyed-enter}
use Rattle.law.proofs.Freed.{out_lane}
use Rattle.law.proofs.Invariant.{is_live, parts, lives, transits, pendings, dones, flags, events, outcomes, sents}
use Rattle.law.proofs.Invariant.{boxes, floors, reports, Fitting, Ended, Kept, Sending, Timed}
use Rattle.law.proofs.Members.{get_or-set_keeps}
use Rattle.law.proofs.Parts.{part_here, part_others}
use Rattle.law.proofs.Picks.{done_lives}
use Rattle.law.proofs.Room.{entered_room}
use Rattle.law.proofs.Take.{Chained-same}

-- the buffer b is empty in s, and in s' holds a message that has entered its receiver's inbox
abbrev pub Enters : World → (ℕ → List ℕ) → Machine → Machine → ℕ → Type 0
Enters W held s s' b =
    Entering (home W.plan) (lives s) (lives s') (transits s) (transits s') (pendings s) (pendings s') (flags s)
    (flags s') (dones s) (dones s')
    (events s) (events s') (outcomes s) (outcomes s') (sents s) (sents s') (boxes held s) (boxes held s') b

-- the message e is in transit in the buffer b
pub record Draws (u : Plan) (b : ℕ) (e : Event) (s s' : Machine) : Type 0 where
  pub messages : s'.messages ≡ set s.messages b (coming e)
  pub places : s'.places ≡ set s.places b Out
  pub processes : s'.processes ≡ s.processes
  pub workers : length s'.workers ≡ length s.workers
  pub enters : (worker s' (home u e.process)).inbox ≡ (worker s (home u e.process)).inbox ++ b ∷ []
  pub elsewhere : (v : ℕ) → (v ≡ home u e.process → ⊥) → (worker s' v).inbox ≡ (worker s v).inbox

pub draws-sent : (u : Plan) (b : ℕ) (e : Event) (s : Machine) → home u e.process < length s.workers →
    length (worker s (home u e.process)).inbox < 256 → Draws u b e s (sent u b e s)
unfolding sent enter
draws-sent u b e s l r = record {
  messages = refl;
  places = refl;
  processes = refl;
  workers = length-set s.workers (home u e.process) _;
  enters = ap (λ (x : Worker). x.inbox) (get_or-set_same s.workers (home u e.process) _ idle l) ∙
      entered_room b (worker s (home u e.process)).inbox r;
  elsewhere = λ v n. ap (λ (x : Worker). x.inbox) (get_or-set_other s.workers (home u e.process) v _ idle n);
}

pub sent-floors : (u : Plan) (b : ℕ) (e : Event) (s : Machine) → floors (sent u b e s) ≡ floors s
unfolding sent enter
sent-floors u b e s = fun_ext (get_or-set_keeps (λ (x : Worker). x.floor) s.workers (home u e.process) _ idle refl)

pub sent-reports : (u : Plan) (b : ℕ) (e : Event) (s : Machine) → reports (sent u b e s) ≡ reports s
unfolding sent enter
sent-reports u b e s = fun_ext (get_or-set_keeps (λ (x : Worker). x.report) s.workers (home u e.process) _ idle refl)

pub lower-reports : (w t : ℕ) (s : Machine) → reports (lower w t s) ≡ reports s
unfolding lower
lower-reports w t s = fun_ext (get_or-set_keeps (λ (x : Worker). x.report) s.workers w _ idle refl)

pub draws-lower : {u : Plan} {b : ℕ} {e : Event} {s s' : Machine} (w t : ℕ) → Draws u b e s s' →
    Draws u b e s (lower w t s')
unfolding lower
draws-lower {u} {b} {e} {s} {s'} w t X = record {
  messages = X.messages;
  places = X.places;
  processes = X.processes;
  workers = length-set s'.workers w _ ∙ X.workers;
  enters = same (home u e.process) ∙ X.enters;
  elsewhere = λ v n. same v ∙ X.elsewhere v n;
}
  where
    same : (v : ℕ) → (worker (lower w t s') v).inbox ≡ (worker s' v).inbox
    same = get_or-set_keeps (λ (x : Worker). x.inbox) s'.workers w _ idle refl

pub draws-outside : {u : Plan} {b : ℕ} {e : Event} {s s' : Machine} (n t : ℕ) → Draws u b e s s' →
    Draws u b e s (with_outside n t s')
draws-outside n t X = record {
  messages = X.messages;
  places = X.places;
  processes = X.processes;
  workers = X.workers;
  enters = X.enters;
  elsewhere = X.elsewhere;
}

module _ (W : World) (base : ℕ → Process) (held : ℕ → List ℕ) {b : ℕ} {e : Event} {s s' : Machine}
    (X : Draws W.plan b e s s') {owed : List ℕ} (K : Kept W base held owed s) (within : b < 256)
    (dead : lives s b ≡ false) where
  here : {B : Type 0} (f : Message → B) → parts f s' b ≡ f (coming e)
  here f = part_here f s s' b (coming e) X.messages (let j = K.sized.messages in omega arith)

  others : {B : Type 0} (f : Message → B) (c : ℕ) → (c ≡ b → ⊥) → parts f s' c ≡ parts f s c
  others f = part_others f s s' b (coming e) X.messages

  pub draw-Entering : Enters W held s s' b
  draw-Entering = record {
    dead = dead;
    lives = here (λ m. is_live m.phase);
    moves_on = here (λ m. is_transit m.phase);
    waiting_off = here (λ m. is_pending m.phase);
    gone_off = here (λ m. m.cancelled);
    did_off = here (λ m. is_done m.phase);
    live_others = others (λ m. is_live m.phase);
    moving_others = others (λ m. is_transit m.phase);
    waiting_others = others (λ m. is_pending m.phase);
    gone_others = others (λ m. m.cancelled);
    did_others = others (λ m. is_done m.phase);
    event_others = others (λ m. m.event);
    outcome_others = others (λ m. m.outcome);
    sent_others = others (λ m. listed m.sent);
    enters =
        rw (here (λ m. m.event)) (ap (λ (xs : List ℕ). held (home W.plan e.process) ++ xs) X.enters ∙
        sym (append_assoc (held (home W.plan e.process)) _ _));
    elsewhere = λ v n. ap (λ (xs : List ℕ). held v ++ xs) (X.elsewhere v (λ k. n (rw (here (λ m. m.event)) k)));
  }

  not_done : (c : ℕ) → dones s c ≡ true → c ≡ b → ⊥
  not_done c h k = both_ways _ dead (rw k at (done_lives s c h))

  idle_here : dones s b ≡ false
  idle_here = elim (cases_Bool (dones s b)) [ inl t ↦ absurd (both_ways _ dead (done_lives s b t)) | inr f ↦ f ]

  pub Kept-draw : {owed' : List ℕ} → Ended W.plan.limits.end s'.gvt s'.floor →
      Fitting W.model.size W.plan.limits.end e →
      ((c : ℕ) → lives s c ≡ true → flags s c ≡ false → SameKey (events s c) e → ⊥) →
      Sending (lives s') (flags s') (dones s') (events s') (outcomes s') (sents s') base s'.posted owed' →
      Timed (home W.plan) W.plan.workers (transits s') (pendings s') (flags s') (events s') s'.floor (floors s')
      (reports s') s'.rounding s'.gvt → Kept W base held owed' s'
  Kept-draw ended fits fresh S T = record {
    ended = ended;
    sized = record {
      messages = rw X.messages (length-set s.messages b (coming e) ∙ K.sized.messages);
      places = rw X.places (length-set s.places b Out ∙ K.sized.places);
      workers = X.workers ∙ K.sized.workers;
      processes = rw X.processes K.sized.processes;
    };
    fit = record {
      fits = λ c h. elim (cases_eq c b) [
        | inl k ↦ rw (k, here (λ m. m.event)) fits
        | inr n ↦ rw (others (λ m. m.event) c n) (K.fit.fits c (sym (others (λ m. is_live m.phase) c n) ∙ h))
      ];
    };
    placed = record {
      out = λ c h. rw X.places (elim (cases_eq c b) [
        | inl k ↦ rw k (get_or-set_same s.places b Out Out (let j = K.sized.places in omega arith))
        | inr n ↦ get_or-set_other s.places b c Out Out n ∙ K.placed.out c (sym (others (λ m. is_live m.phase) c n) ∙ h)
      ]);
      rests = λ c h l z. elim (cases_eq c b) [
        | inl k ↦ both_ways _ (rw k at h) (here (λ m. is_live m.phase))
        | inr n ↦
            K.placed.rests c (sym (others (λ m. is_live m.phase) c n) ∙ h) l
            (sym (get_or-set_other s.places b c Out Out n) ∙ (rw X.places at z))
      ];
    };
    boxed = Boxed-enter draw-Entering K.boxed;
    keyed = Keyed-enter draw-Entering K.boxed (λ c l g k. fresh c l g (rw (here (λ m. m.event)) at k)) K.keyed;
    chained = rw X.processes (Chained-same
        (λ c. elim (cases_eq c b) [
          | inl k ↦ rw k (here (λ m. is_done m.phase) ∙ sym idle_here)
          | inr n ↦
              others (λ m. is_done m.phase) c n
        ])
        (λ c h. let n = not_done c h in
        (others (λ m. m.event) c n, others (λ m. m.snapshot) c n, others (λ m. m.outcome) c n))
        (λ d c h v q. elim (cases_eq c b) [
          | inl k ↦ absurd (both_ways _ (here (λ m. is_pending m.phase)) (rw k at v))
          | inr n ↦
              rw (others (λ m. m.event) c n)
              (K.chained.ahead d c h (sym (others (λ m. is_pending m.phase) c n) ∙ v)
              (rw (others (λ m. m.event) c n) at q))
        ])
        K.chained);
    sending = S;
    timed = T;
  }

-- a buffer that lies in a lane is empty
pub Drawn-dead : (W : World) (base : ℕ → Process) (held : ℕ → List ℕ) {owed : List ℕ} {s : Machine} →
    Kept W base held owed s → (b l : ℕ) → place_at s.places b ≡ Lane l → (b < 256) × (lives s b ≡ false)
Drawn-dead W base held {owed} {s} K b l h = (inside, dead)
  where
    inside : b < 256
    inside =
        elim (cases_lt b 256) [
          | inl i ↦ i
          | inr g ↦
              absurd (out_lane (sym (get_or_past s.places b Out (let q = K.sized.places in omega arith)) ∙ h))
        ]

    dead : lives s b ≡ false
    dead = elim (cases_Bool (lives s b)) [ inr f ↦ f | inl t ↦ absurd (out_lane (sym (K.placed.out b t) ∙ h)) ]

-- Sending the messages of one event keeps the invariant: each goes into an empty buffer, is numbered from its sender's
-- count on, so that no message that is not cancelled has its key, and is later than the event, so not earlier than GVT.
use Rattle.std.proofs.Common.{◌≡◌, ℕ, ◌+◌, ◌<◌, ◌≤◌, true, false, List, [], ◌∷◌, ◌++◌, map, length, set, sym, refl, ap}
use Rattle.std.proofs.Common.{◌∙◌, subst, inl, inr, append_assoc, arith}
use Rattle.std.proofs.lemmas.List.{get_or-set_same, get_or-set_other, append-nil}
use Rattle.std.proofs.lemmas.Bool.{cases_eq, both_ways}
use Rattle.std.specs.List.{AllByRecursion}
use Rattle.pool.specs.declared.place.Place.{Place}
use Rattle.pool.specs.declared.place.Place.TheVariants.{Out}
use Rattle.sequential.proofs.Keys.{SameKey}
use Rattle.sequential.proofs.Sends.{Fits, Numbered}
use Rattle.sequential.specs.Events.{outside}
use Rattle.sequential.specs.declared.event.Event.{Event}
use Rattle.sequential.specs.declared.event.Process.{Process}
use Rattle.machine.specs.Calls.{World, DrawnAll}
use Rattle.machine.specs.Calls.DrawnAll.{none as no_lanes, one as from_lane}
use Rattle.machine.specs.Machine.{Machine, blank, at, process, home, sent, enter, lower, sent_all}
use Rattle.machine.specs.declared.message.Message.{Message}
use Rattle.law.specs.Law.{Proper}
use Rattle.law.proofs.Cancel.{Lowering, Covered-cancel, Timed-add}
use Rattle.law.proofs.Cancelled.{lower-floors}
use Rattle.law.proofs.Enter.{Active-enter, Sending-enter}
use Rattle.law.proofs.Invariant.{is_live, lives, pendings, flags, events, floors, reports, Ready, Steady, Fitting, Kept}
use Rattle.law.proofs.Invariant.Origin.{owing}
use Rattle.law.proofs.Members.{In, in_left, in_push, in_push_cases, Apart-push}
use Rattle.law.proofs.Numbers.{number_below, base_below}
use Rattle.law.proofs.Picks.{done_lives}
use Rattle.law.proofs.Rolling.{Covers}
use Rattle.law.proofs.Room.{dead_room}
use Rattle.law.proofs.Sent.{Enters, Draws, draws-sent, draws-lower, sent-floors, sent-reports, lower-reports}
use Rattle.law.proofs.Sent.{draw-Entering, Kept-draw, Drawn-dead}
use Rattle.law.proofs.Steady.{Steady-same, Steady-more}
use Rattle.law.proofs.World.{homes}

-- messages were sent, and nothing else was done
pub record Grown (s s' : Machine) : Type 0 where
  pub old : (c : ℕ) → lives s c ≡ true → at s' c ≡ at s c
  pub waits : (c : ℕ) → pendings s' c ≡ true → pendings s c ≡ true
  pub processes : s'.processes ≡ s.processes

Grown-none : {s : Machine} → Grown s s
Grown-none = record { old = λ c l. refl; waits = λ c h. h; processes = refl }

Grown-more : {s s' s'' : Machine} → Grown s s' → Grown s' s'' → Grown s s''
Grown-more G H = record {
  old = λ c l. H.old c (ap (λ (m : Message). is_live m.phase) (G.old c l) ∙ l) ∙ G.old c l;
  waits = λ c h. G.waits c (H.waits c h);
  processes = H.processes ∙ G.processes;
}

module _ (W : World) (P : Proper W) (base : ℕ → Process) (held : ℕ → List ℕ) where
  -- what sending the message e, drawn into the buffer b, comes to
  record SentOne (w t n b : ℕ) (e : Event) (owed : List ℕ) (s s' : Machine) : Type 0 where
    kept : Kept W base held (owed ++ b ∷ []) s'
    covers : Covers W w t s'
    grown : Grown s s'
    is : events s' b ≡ e
    places : s'.places ≡ set s.places b Out
    below : (c : ℕ) → In c (owed ++ b ∷ []) → (events s' c).number < n + 1
    steady : Steady base s s'

  -- one message of an event of the worker w
  module _ (w t p n b : ℕ) (e : Event) (s : Machine) (owed : List ℕ) (K : Kept W base held owed s)
      (inside : w < W.plan.workers) (C : Covers W w t s) (within : b < 256) (dead : lives s b ≡ false)
      (fits : Fitting W.model.size W.plan.limits.end e) (later : t < e.time) (sender : e.sender ≡ p)
      (inner : p ≡ outside → ⊥) (number : e.number ≡ n)
      (below : (process s p).count ≤ n) (owed_below : (c : ℕ) → In c owed → (events s c).number < n) where
    s₁ : Machine
    s₁ = lower w e.time (sent W.plan b e s)

    drawn₀ : Draws W.plan b e s (sent W.plan b e s)
    drawn₀ =
        draws-sent W.plan b e s (let i = W.plan.staffed.1 in let j = homes W P e.process fits.process in
        let k = K.sized.workers in omega arith) (dead_room K b (home W.plan e.process) within dead)

    drawn : Draws W.plan b e s s₁
    unfolding s₁
    drawn = draws-lower w e.time drawn₀

    entering : Enters W held s s₁ b
    entering = draw-Entering W base held drawn K within dead

    event_here : events s₁ b ≡ e
    unfolding s₁ sent enter lower
    event_here =
        ap (λ (m : Message). m.event) (get_or-set_same s.messages b _ blank (let j = K.sized.messages in omega arith))

    reports_same : reports s₁ ≡ reports s
    unfolding s₁
    reports_same = lower-reports w e.time (sent W.plan b e s) ∙ sent-reports W.plan b e s

    lowers : Lowering (floors s) (floors s₁) w e.time
    unfolding s₁
    lowers =
        rw (sent-floors W.plan b e s) at (lower-floors (sent W.plan b e s) w e.time
        (let i = drawn₀.workers in let j = K.sized.workers in let k = W.plan.staffed.1 in omega arith))

    fresh : (c : ℕ) → lives s c ≡ true → flags s c ≡ false → SameKey (events s c) e → ⊥
    fresh c l g k = elim (number_below W base held K c l g (λ q. inner (sym sender ∙ (sym k.sender ∙ q)))) [
      | inl h ↦
          (let i : (events s c).number < (process s p).count = rw (k.sender, sender) at h in let j = k.number in
          omega arith)
      | inr i ↦ (let h = owed_below c i in let j = k.number in omega arith)
    ]

    Kept-send : Kept W base held (owed ++ b ∷ []) s₁
    unfolding s₁ sent enter lower
    Kept-send = Kept-draw W base held drawn K within dead K.ended fits fresh
        (Sending-enter entering (done_lives s) (omega arith) (λ c i. in_left c owed _ i)
        (λ c i. elim (in_push_cases c b owed i)
        [ inl j ↦ inl j | inr k ↦ inr (k, λ q. inner (sym sender ∙ (rw event_here at q))) ])
        (λ o a. Apart-push b owed a (λ i. o b i refl)) (owing (in_push b owed)) K.sending)
        (rw reports_same (Timed-add lowers b (ap (λ (x : Event). x.time) event_here) inside
        (omega arith) C entering.event_others (Active-enter entering) K.timed))

    Covers-send : Covers W w t s₁
    unfolding s₁ sent enter lower
    Covers-send = rw reports_same (Covered-cancel lowers w t C)

    Grown-send : Grown s s₁
    unfolding s₁ sent enter lower
    Grown-send = record {
      old = λ c l. get_or-set_other s.messages b c _ blank (λ k. both_ways _ dead (rw k at l));
      waits =
          λ c h. elim (cases_eq c b) [
            | inl k ↦ absurd (both_ways _ entering.waiting_off (rw k at h))
            | inr q ↦
                sym (entering.waiting_others c q) ∙ h
          ];
      processes = refl;
    }

    -- the new message is not ready: its event is not collected
    unready : Ready base (events s₁ b) → ⊥
    unready r = elim (subst (Ready base) event_here r) [
      | inl o ↦ inner (sym sender ∙ o)
      | inr o ↦
          (let u = base_below W base held K p in let v : e.number < (base p).count = rw sender at o.1 in omega arith)
    ]

    Steady-send : Steady base s s₁
    unfolding s₁ sent enter lower
    Steady-send = record {
      gvt = omega arith;
      posted = refl;
      stays = λ c l g r. let q : c ≡ b → ⊥ = λ k. both_ways _ dead (rw k at l) in
          (entering.live_others c q ∙ l, entering.gone_others c q ∙ g, entering.event_others c q);
      comes = λ c l g r. let q : c ≡ b → ⊥ = λ k. unready (rw k at r) in
          (sym (entering.live_others c q) ∙ l, sym (entering.gone_others c q) ∙ g, entering.event_others c q);
    }

    sent_one : SentOne w t n b e owed s (lower w e.time (sent W.plan b e s))
    unfolding s₁ sent enter lower
    sent_one = record {
      kept = Kept-send;
      covers = Covers-send;
      grown = Grown-send;
      steady = Steady-send;
      is = event_here;
      places = refl;
      below = λ c i. elim (in_push_cases c b owed i) [
        | inl j ↦
            (let q = ap (λ (m : Message). m.event.number) (Grown-send.old c (K.sending.owed_lasting c j).0) in
            let h = owed_below c j in omega arith)
        | inr k ↦ rw k (let q = ap (λ (x : Event). x.number) event_here in omega arith)
      ];
    }

  -- what sending the messages es, drawn into the buffers bs, comes to
  pub record SentAll (w t : ℕ) (owed bs : List ℕ) (es : List Event) (s s' : Machine) : Type 0 where
    pub kept : Kept W base held (owed ++ bs) s'
    pub covers : Covers W w t s'
    pub grown : Grown s s'
    pub are : map (events s') bs ≡ es
    pub steady : Steady base s s'

  sent_more : {w t n b : ℕ} {e : Event} {owed bs : List ℕ} {es : List Event} {s s' s'' : Machine} →
      SentOne w t n b e owed s s' → SentAll w t (owed ++ b ∷ []) bs es s' s'' → SentAll w t owed (b ∷ bs) (e ∷ es) s s''
  sent_more {w} {t} {n} {b} {e} {owed} {bs} {es} {s} {s'} {s''} O R = record {
    kept = rw append_assoc at R.kept;
    covers = R.covers;
    grown = Grown-more O.grown R.grown;
    steady = Steady-more O.steady R.steady;
    are =
        rw (
          ap (λ (m : Message). m.event) (R.grown.old b (O.kept.sending.owed_lasting b (in_push b owed)).0) ∙ O.is,
          R.are,
        ) refl;
  }

  pub Kept-sent_all : (w t p : ℕ) (d : Event) → w < W.plan.workers → d.time ≡ t → d.process ≡ p → (p ≡ outside → ⊥) →
      p < W.model.size → {places : List Place} {ls bs : List ℕ} → DrawnAll places ls bs →
      (es : List Event) (s : Machine) (owed : List ℕ) (n : ℕ) →
      s.places ≡ places → length ls ≡ length es → AllByRecursion (Fits W.model.size W.plan.limits.end d) es →
      Numbered n es → (process s p).count ≤ n → ((c : ℕ) → In c owed → (events s c).number < n) →
      Covers W w t s → Kept W base held owed s → SentAll w t owed bs es s (sent_all W.plan w bs es s)
  unfolding sent_all
  Kept-sent_all w t p d inside at_t at_p inner small no_lanes [] s owed n is ls fits numbered below owed_below C K =
      record {
        kept = rw append-nil K;
        covers = C;
        grown = Grown-none;
        are = refl;
        steady = Steady-same refl refl refl (omega arith) refl;
      }
  Kept-sent_all w t p d inside at_t at_p inner small no_lanes
      (e ∷ es) s owed n is ls fits numbered below owed_below C K = absurd (omega arith)
  Kept-sent_all w t p d inside at_t at_p inner small (from_lane h D)
      [] s owed n is ls fits numbered below owed_below C K = absurd (omega arith)
  Kept-sent_all w t p d inside at_t at_p inner small (from_lane {l = l} {b = b} {bs = bs} h D)
      (e ∷ es) s owed n is ls fits numbered below owed_below C K =
      let f = fits.0 in
      let e₀ = Drawn-dead W base held K b l (rw is h) in
      let O =
      sent_one w t p n b e s owed K inside C e₀.0 e₀.1
      (record { process = f.receiver; sender = inr (let q = f.sender in omega arith); time = f.within })
      (let q = f.later in omega arith) (f.sender ∙ at_p) inner numbered.0 below owed_below in
      sent_more O (Kept-sent_all w t p d inside at_t at_p inner small D es (lower w e.time (sent W.plan b e s))
      (owed ++ b ∷ []) (n + 1) (O.places ∙ rw is refl) (omega arith) fits.1 numbered.1
      (rw O.grown.processes (omega arith)) O.below O.covers O.kept)

-- Stepping keeps the invariant: the worker's least pending event is later than every done event of its process, so it
-- goes on top of them; its messages are sent first.
use Rattle.std.proofs.Common.{◌≡◌, ℕ, ◌<◌, ◌≤◌, true, false, List, [], map, length, get_or, Some, sym, refl, ap, ◌∙◌}
use Rattle.std.proofs.Common.{subst, ap₂, inl, inr, arith}
use Rattle.std.proofs.lemmas.List.{get_or-set_same, get_or-set_other, length-set, length-map}
use Rattle.std.proofs.lemmas.Bool.{cases_Bool, both_ways}
use Rattle.model.specs.Meaning.{listed}
use Rattle.model.specs.declared.reaction.Few.{Few}
use Rattle.sequential.proofs.Keys.{IsStrictWeakOrder-earlier, earlier-total}
use Rattle.sequential.proofs.Sends.{Fits, Sends, applied-sends}
use Rattle.sequential.specs.Events.{earlier, nobody, process_after}
use Rattle.sequential.specs.declared.event.Outcome.{Outcome}
use Rattle.sequential.specs.declared.event.Process.{Process}
use Rattle.machine.specs.Calls.{World, DrawnAll, draw_lanes}
use Rattle.machine.specs.Machine.{Machine, at, process, home, sent_all, finished, stepped_by, stepped, next, doing}
use Rattle.machine.specs.Machine.{is_transit, is_pending, is_done, with_message, with_process}
use Rattle.machine.specs.declared.message.Message.{Message}
use Rattle.machine.specs.declared.message.Phase.TheVariants.{Pending}
use Rattle.law.specs.Law.{Proper}
use Rattle.law.proofs.Do.{Doing, Chained-do, Sending-do}
use Rattle.law.proofs.Invariant.{is_live, is_pending_lem, parts, lives, transits, pendings, dones, flags, events}
use Rattle.law.proofs.Invariant.{snapshots, outcomes, sents, Steady, Kept, Active, applying}
use Rattle.law.proofs.Invariant.Active.{moves, waits, ends}
use Rattle.law.proofs.Members.{In, all_sent}
use Rattle.law.proofs.Parts.{part_here, part_others, live_within, same_part}
use Rattle.law.proofs.Picks.{ready, Ready-parts, Ready-from, next_picks, pending_stands}
use Rattle.law.proofs.Search.{Foremost}
use Rattle.law.proofs.SentAll.{SentAll, Kept-sent_all}
use Rattle.law.proofs.Steady.{Steady-same, Steady-more}

-- the event of x, in the buffer b, is done at the process q, and its messages are those in bs
abbrev finish : World → Message → Process → ℕ → Few ℕ → Machine → Machine
finish W x q b bs s =
    let o = applying W x.event q in
    with_process x.event.process (process_after o q) (with_message b (finished q o bs x) s)

module _ (W : World) (P : Proper W) (base : ℕ → Process) (held : ℕ → List ℕ) where
  pending_lives : (s : Machine) (c : ℕ) → pendings s c ≡ true → lives s c ≡ true
  pending_lives s c h = (pending_stands (at s c) h).0

  pending_still : (s : Machine) (c : ℕ) → pendings s c ≡ true → transits s c ≡ false
  pending_still s c h = (pending_stands (at s c) h).1

  pending_not_done : (s : Machine) (c : ℕ) → pendings s c ≡ true → dones s c ≡ false
  pending_not_done s c h = rw (is_pending_lem (at s c).phase h) refl

  -- the message m, done and with the messages bs, is in the buffer b of a machine in which its messages are sent
  module _ (s : Machine) (b : ℕ) (bs : Few ℕ) (waited : pendings s b ≡ true) (K : Kept W base held (listed bs) s)
      (least : (c : ℕ) → pendings s c ≡ true → (c ≡ b → ⊥) → (events s b).process ≡ (events s c).process →
      earlier (events s b) (events s c) ≡ true)
      (are : map (events s) (listed bs) ≡ listed (applying W (events s b) (process s (events s b).process)).sends) where
    p : ℕ
    p = (events s b).process

    o : Outcome
    o = applying W (events s b) (process s p)

    m : Message
    m = finished (process s p) o bs (at s b)

    s' : Machine
    s' = with_process p (process_after o (process s p)) (with_message b m s)

    phase : (at s b).phase ≡ Pending
    phase = is_pending_lem (at s b).phase waited

    back : {B : Type 0} (f : Message → B) → f m ≡ f (at s b) → parts f s' ≡ parts f s
    unfolding s'
    back f = same_part f s s' b m refl

    others : {B : Type 0} (f : Message → B) (c : ℕ) → (c ≡ b → ⊥) → parts f s' c ≡ parts f s c
    unfolding s'
    others f = part_others f s s' b m refl

    here : {B : Type 0} (f : Message → B) → parts f s' b ≡ f m
    unfolding s'
    here f = part_here f s s' b m refl (live_within s b (pending_lives s b waited))

    lv : lives s' ≡ lives s
    unfolding m
    lv = back (λ m. is_live m.phase) (rw phase refl)

    tr : transits s' ≡ transits s
    unfolding m
    tr = back (λ m. is_transit m.phase) (rw phase refl)

    fl : flags s' ≡ flags s
    unfolding m
    fl = back (λ m. m.cancelled) refl

    ev : events s' ≡ events s
    unfolding m
    ev = back (λ m. m.event) refl

    within : p < length s.processes
    unfolding p
    within =
        let f = (K.fit.fits b (pending_lives s b waited)).process in
        let i = P.sized.1 in
        let j = K.sized.processes in
        omega arith

    doing' : Doing (applying W) (dones s) (dones s') (pendings s) (pendings s') (events s) (snapshots s) (snapshots s')
        (outcomes s) (outcomes s') (sents s) (sents s') (process s) (process s') b
    unfolding s' m o p
    doing' = record {
      waited = waited;
      idle = pending_not_done s b waited;
      done = here (λ m. is_done m.phase);
      rests = here (λ m. is_pending m.phase);
      snapshot_here = here (λ m. m.snapshot);
      outcome_here = here (λ m. m.outcome);
      now_here = get_or-set_same s.processes p _ nobody within ∙
          rw (here (λ m. m.snapshot), here (λ m. m.outcome)) refl;
      elsewhere = λ q n. get_or-set_other s.processes p q _ nobody n;
      least = least;
      did_others = others (λ m. is_done m.phase);
      waiting_others = others (λ m. is_pending m.phase);
      snapshot_others = others (λ m. m.snapshot);
      outcome_others = others (λ m. m.outcome);
      sent_others = others (λ m. listed m.sent);
    }

    sends : Sends W.model.size W.plan.limits (events s b) (process s (events s b).process).count
        (applying W (events s b) (process s (events s b).process)).sends
    sends = applied-sends W.model W.plan.limits (events s b) _

    capped : (process s' (events s b).process).count ≤ W.plan.limits.most
    unfolding s' m o p
    capped =
        rw (get_or-set_same s.processes p (process_after o (process s p)) nobody within)
        (sends.capped (K.chained.capped (events s b).process))

    senders : (c : ℕ) → In c (listed bs) → (events s c).sender ≡ (events s b).process
    senders c i =
        (all_sent (Fits W.model.size W.plan.limits.end (events s b)) (events s) (listed bs)
        (rw are sends.fit) c i).sender

    Active-before : (c : ℕ) → Active (transits s) (pendings s') (flags s) c →
        Active (transits s) (pendings s) (flags s) c
    Active-before c (moves h) = moves h
    Active-before c (ends h) = ends h
    Active-before c (waits h) =
        waits (let n : c ≡ b → ⊥ = λ e. both_ways _ doing'.rests (rw e at h) in sym (doing'.waiting_others c n) ∙ h)

    Kept-done : Kept W base held [] (finish W (at s b) (process s (events s b).process) b bs s)
    unfolding s' m o p
    Kept-done = record {
      sized = record {
        messages = length-set s.messages b m ∙ K.sized.messages;
        places = K.sized.places;
        workers = K.sized.workers;
        processes = length-set s.processes p _ ∙ K.sized.processes;
      };
      ended = K.ended;
      fit = rw (lv, ev) K.fit;
      placed = rw lv K.placed;
      boxed = rw (lv, tr, fl, ev) K.boxed;
      keyed = rw (lv, tr, fl, ev) K.keyed;
      chained = rw ev (Chained-do doing' capped K.chained);
      sending =
          rw (lv, fl, ev) (Sending-do doing' (here (λ m. listed m.sent))
          (are ∙ ap (λ (x : Outcome). listed x.sends) (sym (here (λ m. m.outcome)))) senders K.sending);
      timed =
          rw (tr, fl, ev) (record { lowest = K.timed.lowest; covers = λ c a. K.timed.covers c (Active-before c a) });
    }

  -- ---- the whole call

  module _ (w b : ℕ) (bs : Few ℕ) (s : Machine) (inside : w < W.plan.workers) (is : next W.plan w s ≡ Some b)
      (D : DrawnAll s.places (draw_lanes W w (listed (doing W.model W.plan s b).sends)) (listed bs))
      (K : Kept W base held [] s) where
    first : Foremost (ready W.plan w) earlier IsStrictWeakOrder-earlier s b
    first = next_picks W.plan w s b is

    is_ready : (pendings s b ≡ true) × (home W.plan (events s b).process ≡ w)
    is_ready = Ready-parts W.plan w (at s b) first.passes

    small : (events s b).process < W.model.size
    small = (K.fit.fits b (pending_lives s b is_ready.0)).process

    after : Machine
    after = sent_all W.plan w (listed bs) (listed (doing W.model W.plan s b).sends) s

    R : SentAll W P base held w (events s b).time [] (listed bs) (listed (doing W.model W.plan s b).sends) s after
    unfolding after
    R = let x = applied-sends W.model W.plan.limits (events s b) (process s (events s b).process) in
        Kept-sent_all W P base held w (events s b).time (events s b).process (events s b) inside refl refl
        (λ e. let i = P.sized.1 in let j = small in omega arith) small D (listed (doing W.model W.plan s b).sends) s
        [] (process s (events s b).process).count
        refl (length-map _ _) x.fit x.numbered (omega arith) (λ c i. absurd i)
        (rw is_ready.1 at (K.timed.covers b (waits is_ready.0))) K

    same : at after b ≡ at s b
    same = R.grown.old b (pending_lives s b is_ready.0)

    process_same : (p : ℕ) → process after p ≡ process s p
    process_same p = ap (λ (ps : List Process). get_or ps p nobody) R.grown.processes

    least : (c : ℕ) → pendings after c ≡ true → (c ≡ b → ⊥) → (events after b).process ≡ (events after c).process →
        earlier (events after b) (events after c) ≡ true
    least c h n e = elim (cases_Bool (earlier (events after b) (events after c))) [
      | inl t ↦ t
      | inr f ↦
          absurd (n (R.kept.keyed.arrived c b (pending_lives after c h) (pending_still after c h)
          (pending_lives after b waits_b) (pending_still after b waits_b) (earlier-total _ _ not_before f)))
    ]
      where
        waits_b : pendings after b ≡ true
        waits_b = ap (λ (m : Message). is_pending m.phase) same ∙ is_ready.0

        h₀ : pendings s c ≡ true
        h₀ = R.grown.waits c h

        same_c : at after c ≡ at s c
        same_c = R.grown.old c (pending_lives s c h₀)

        process_c : (events s c).process ≡ (events s b).process
        process_c = ap (λ (m : Message). m.event.process) (sym same_c) ∙
            (sym e ∙ ap (λ (m : Message). m.event.process) same)

        not_before : earlier (events after c) (events after b) ≡ false
        not_before = ap₂ (λ (x y : Message). earlier x.event y.event) same_c same ∙
            first.least c (Ready-from W.plan w (at s c) h₀ (ap (home W.plan) process_c ∙ is_ready.1))

    pub Steady-stepped : Steady base s (stepped W.model W.plan w b bs s)
    unfolding after stepped_by
    Steady-stepped =
        Steady-more R.steady (Steady-same (back (λ m. is_live m.phase) (rw live_phase refl))
        (back (λ m. m.cancelled) (ap (λ (m : Message). m.cancelled) (sym same)))
        (back (λ m. m.event) (ap (λ (m : Message). m.event) (sym same))) (omega arith) refl)
      where
        x : Message
        x = finished (process s (events s b).process) (doing W.model W.plan s b) bs (at s b)

        back : {B : Type 0} (f : Message → B) → f x ≡ f (at after b) →
            parts f (stepped W.model W.plan w b bs s) ≡ parts f after
        back f = same_part f after (stepped W.model W.plan w b bs s) b x refl

        live_phase : (at after b).phase ≡ Pending
        live_phase = ap (λ (m : Message). m.phase) same ∙ is_pending_lem (at s b).phase is_ready.0

    pub Kept-stepped : Kept W base held [] (stepped W.model W.plan w b bs s)
    unfolding after stepped_by
    Kept-stepped =
        subst (λ (q : Process). Kept W base held [] (finish W (at s b) q b bs after))
        (process_same (events s b).process)
        (subst (λ (x : Message). Kept W base held [] (finish W x (process after x.event.process) b bs after)) same
        (Kept-done after b bs (ap (λ (m : Message). is_pending m.phase) same ∙ is_ready.0) R.kept least are))
      where
        are : map (events after) (listed bs) ≡
            listed (applying W (events after b) (process after (events after b).process)).sends
        are =
            R.are ∙ (ap (λ (q : Process). listed (applying W (events s b) q).sends)
            (sym (process_same (events s b).process)) ∙
            ap (λ (x : Message). listed (applying W x.event (process after x.event.process)).sends) (sym same))

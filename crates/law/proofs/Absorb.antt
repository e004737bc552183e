-- Absorbing keeps the invariant. What is taken from an inbox was active, so a rollback that it sets off undoes nothing
-- earlier than GVT. A message that arrives is alone with its key, and later than all that is left done; a cancelled one
-- is in no sent list, so its buffer can be emptied.
use Rattle.std.proofs.Common.{◌≡◌, ℕ, ◌+◌, ◌<◌, ◌≤◌, Bool, true, false, List, [], ◌∷◌, ◌++◌, length, sym, refl, ap, ◌∙◌}
use Rattle.std.proofs.Common.{ap₂, inl, inr, arith}
use mathlib.Core.Path.{fun_ext}
use Rattle.std.proofs.lemmas.List.{get_or-set_same, get_or-set_other, length-set}
use Rattle.std.proofs.lemmas.Bool.{cases_Bool, cases_eq, both_ways, true≢false, not-true, not-false, not_from_false}
use Rattle.model.specs.Meaning.{listed}
use Rattle.pool.specs.Lanes.{Lanes, lent}
use Rattle.sequential.proofs.Keys.{SameKey, earlier_irreflexive, earlier_trans, earlier_time, not_earlier_time}
use Rattle.sequential.proofs.Keys.{earlier-total}
use Rattle.sequential.specs.Events.{earlier}
use Rattle.sequential.specs.declared.event.Event.{Event}
use Rattle.sequential.specs.declared.event.Process.{Process}
use Rattle.machine.specs.Calls.{World}
use Rattle.machine.specs.Machine.{Machine, Absorption, Worker, idle, at, worker, process, home, pending_again}
use Rattle.machine.specs.Machine.{is_transit}
use Rattle.machine.specs.Machine.{is_pending, is_done, with_message, freed, popped, past, rollback, arrived}
use Rattle.machine.specs.Machine.{annihilated}
use Rattle.machine.specs.Machine.{absorbed}
use Rattle.machine.specs.Machine
use Rattle.machine.specs.declared.message.Message.{Message}
use Rattle.machine.specs.declared.message.Phase.TheVariants.{Transit}
use Rattle.law.specs.Law.{Proper}
use Rattle.law.proofs.Freed.{Empties, empties, Sized-free, fit_free, Placed-free, freed_back}
use Rattle.law.proofs.Invariant.{is_live, parts, lives, transits, pendings, dones, flags, events, boxes, floors}
use Rattle.law.proofs.Invariant.{reports, is_transit_lem, is_done_lem, Steady, Kept, Active}
use Rattle.law.proofs.Invariant.Active.{moves, waits, ends}
use Rattle.law.proofs.Members.{get_or-set_keeps}
use Rattle.law.proofs.Parts.{part_here, part_others, live_within, same_part, agree}
use Rattle.law.proofs.Rollback.{Kept-rolled}
use Rattle.law.proofs.Rolling.{tally, Covers, Over, Rolling, Steady-rolled}
use Rattle.law.proofs.Search.{counted-length}
use Rattle.law.proofs.Steady.{Steady-same, Steady-more}
use Rattle.law.proofs.Take.{Taking, Boxed-take, Keyed-take, head_alone, Chained-same, Sending-same, Chained-end}
use Rattle.law.proofs.Take.{Sending-end, Timed-end}
use Rattle.law.proofs.Undo.{put, put_same, put_other}

-- no worker has a message in hand
abbrev pub none : ℕ → List ℕ
none w = []

-- the worker w has the message b in hand
abbrev pub taking : ℕ → ℕ → ℕ → List ℕ
taking w b = put none w (b ∷ [])

-- each buffer that is annihilated goes back into its lane
abbrev pub Returns : Absorption → Machine → Type 0
Returns r s = lent r.machine.places + r.annihilated ≡ lent s.places

module _ (W : World) (P : Proper W) (base : ℕ → Process) where
  module _ (w b : ℕ) (rest : List ℕ) (s : Machine) (l : w < length s.workers) (is : (worker s w).inbox ≡ b ∷ rest) where
    popped-boxes : boxes (taking w b) (popped w s) ≡ boxes none s
    unfolding popped
    popped-boxes = fun_ext at_worker
      where
        at_worker : (v : ℕ) → boxes (taking w b) (popped w s) v ≡ boxes none s v
        at_worker v = elim (cases_eq v w) [
          | inl e ↦
              rw e (ap₂ (λ (xs ys : List ℕ). xs ++ ys) (put_same none w (b ∷ []) w refl)
              (ap (λ (x : Worker). x.inbox) (get_or-set_same s.workers w _ idle l) ∙ ap Machine.rest is) ∙ sym is)
          | inr n ↦
              ap₂ (λ (xs ys : List ℕ). xs ++ ys) (put_other none w (b ∷ []) v n)
              (ap (λ (x : Worker). x.inbox) (get_or-set_other s.workers w v _ idle n))
        ]

    popped-floors : floors (popped w s) ≡ floors s
    unfolding popped
    popped-floors = fun_ext (get_or-set_keeps (λ (x : Worker). x.floor) s.workers w _ idle refl)

    popped-reports : reports (popped w s) ≡ reports s
    unfolding popped
    popped-reports = fun_ext (get_or-set_keeps (λ (x : Worker). x.report) s.workers w _ idle refl)

    Kept-popped : Kept W base none [] s → Kept W base (taking w b) [] (popped w s)
    unfolding popped
    Kept-popped K = record {
      sized = record {
        messages = K.sized.messages;
        places = K.sized.places;
        workers = length-set s.workers w _ ∙ K.sized.workers;
        processes = K.sized.processes;
      };
      ended = K.ended;
      fit = K.fit;
      placed = K.placed;
      boxed = rw popped-boxes K.boxed;
      keyed = rw popped-boxes K.keyed;
      chained = K.chained;
      sending = K.sending;
      timed = rw (popped-floors, popped-reports) K.timed;
    }

  -- what the worker has in hand stands first
  in_hand : (w b : ℕ) (s : Machine) → boxes (taking w b) s w ≡ b ∷ boxes none s w
  in_hand w b s = ap (λ (xs : List ℕ). xs ++ (worker s w).inbox) (put_same none w (b ∷ []) w refl)

  elsewhere : (w b : ℕ) (s : Machine) (v : ℕ) → (v ≡ w → ⊥) → boxes (taking w b) s v ≡ boxes none s v
  elsewhere w b s v n = ap (λ (xs : List ℕ). xs ++ (worker s v).inbox) (put_other none w (b ∷ []) v n)

  -- the message in hand becomes pending
  module _ (w b : ℕ) (m : Message) (s : Machine) (K : Kept W base (taking w b) [] s) (moving : transits s b ≡ true)
      (stands : flags s b ≡ false)
      (flag : m.cancelled ≡ flags s b) (event : m.event ≡ events s b)
      (before : Over m.event.process (earlier m.event) s) where
    s' : Machine
    s' = with_message b (pending_again m) s

    phase : (at s b).phase ≡ Transit
    phase = is_transit_lem (at s b).phase moving

    back : {B : Type 0} (f : Message → B) → f (pending_again m) ≡ f (at s b) → parts f s' ≡ parts f s
    unfolding s'
    back f = same_part f s s' b (pending_again m) refl

    others : {B : Type 0} (f : Message → B) (c : ℕ) → (c ≡ b → ⊥) → parts f s' c ≡ parts f s c
    unfolding s'
    others f = part_others f s s' b (pending_again m) refl

    here : {B : Type 0} (f : Message → B) → parts f s' b ≡ f (pending_again m)
    unfolding s'
    here f = part_here f s s' b (pending_again m) refl (live_within s b (rw phase refl))

    lv : lives s' ≡ lives s
    lv = back (λ m. is_live m.phase) (rw phase refl)

    dn : dones s' ≡ dones s
    dn = back (λ m. is_done m.phase) (rw phase refl)

    fl : flags s' ≡ flags s
    fl = back (λ m. m.cancelled) flag

    ev : events s' ≡ events s
    ev = back (λ m. m.event) event

    alone : (c : ℕ) → (c ≡ b → ⊥) → lives s c ≡ true → SameKey (events s b) (events s c) → ⊥
    alone = head_alone w b (boxes none s w) (in_hand w b s) moving stands K.boxed K.keyed

    -- what is done differs from a message in transit
    done_differs : (d : ℕ) → dones s d ≡ true → d ≡ b → ⊥
    done_differs d h e =
        let i : is_done (at s b).phase ≡ true = rw e at h in
        let j : is_done Transit ≡ true = rw phase at i in
        true≢false (sym j)

    done_before : (d : ℕ) → dones s d ≡ true → (events s d).process ≡ (events s b).process →
        earlier (events s d) (events s b) ≡ true
    done_before d h e = elim (cases_Bool (earlier (events s d) (events s b))) [
      | inl t ↦ t
      | inr f ↦
          absurd (alone d (done_differs d h) (rw (is_done_lem (at s d).phase h) refl)
          (earlier-total _ _ (rw event at (before d h (rw event e))) f))
    ]

    Active-before : (c : ℕ) → Active (transits s') (pendings s') (flags s) c →
        Active (transits s) (pendings s) (flags s) c
    Active-before c a = elim (cases_eq c b) [ inl e ↦ moves (rw e moving) | inr n ↦ go n a ]
      where
        go : (c ≡ b → ⊥) → Active (transits s') (pendings s') (flags s) c → Active (transits s) (pendings s) (flags s) c
        go n (moves h) = moves (sym (others (λ m. is_transit m.phase) c n) ∙ h)
        go n (waits h) = waits (sym (others (λ m. is_pending m.phase) c n) ∙ h)
        go n (ends h) = ends h

    takes : Taking (lives s) (lives s) (transits s) (transits s') (flags s) (flags s) (events s) (events s)
        (boxes (taking w b) s) (boxes none s) w b
    takes = record {
      still = here (λ m. is_transit m.phase);
      stands = stands;
      first = in_hand w b s;
      elsewhere = elsewhere w b s;
      live_others = λ c n. refl;
      moving_others = others (λ m. is_transit m.phase);
      gone_others = λ c n. refl;
      event_others = λ c n. refl;
    }

    Kept-arrived : Kept W base none [] (with_message b (pending_again m) s)
    unfolding s'
    Kept-arrived = record {
      sized = record {
        messages = length-set s.messages b (pending_again m) ∙ K.sized.messages;
        places = K.sized.places;
        workers = K.sized.workers;
        processes = K.sized.processes;
      };
      ended = K.ended;
      fit = rw (lv, ev) K.fit;
      placed = rw lv K.placed;
      boxed = rw (lv, fl, ev) (Boxed-take takes K.boxed);
      keyed = rw (lv, fl, ev) (Keyed-take takes K.boxed (λ _. alone) K.keyed);
      chained = rw (dn, ev) (Chained-same (λ c. refl)
          (λ c h. (refl, others (λ m. m.snapshot) c (done_differs c h), others (λ m. m.outcome) c (done_differs c h)))
          (λ d c h v e. elim (cases_eq c b) [
            | inl k ↦ rw k (done_before d h (rw k at e))
            | inr n ↦
                K.chained.ahead d c h (sym (others (λ m. is_pending m.phase) c n) ∙ v) e
          ])
          K.chained);
      sending =
          rw (lv, dn, fl, ev) (Sending-same (λ c. refl)
          (λ c h. (others (λ m. m.outcome) c (done_differs c h), others (λ m. listed m.sent) c (done_differs c h)))
          K.sending);
      timed = rw (fl, ev) (record { lowest = K.timed.lowest; covers = λ c a. K.timed.covers c (Active-before c a) });
    }

    Steady-arrived : Steady base s (with_message b (pending_again m) s)
    unfolding s'
    Steady-arrived = Steady-same lv fl ev (omega arith) refl

  -- the message in hand is cancelled, and its buffer is emptied
  module _ (w b : ℕ) (l : Lanes) (s : Machine) (K : Kept W base (taking w b) [] s) (gone : flags s b ≡ true)
      (idle' : dones s b ≡ false) where
    within : b < length s.messages
    within = live_within s b (K.boxed.ends b gone)

    E : Empties s (freed l W.plan b s) b
    E = empties l W.plan b s within

    ends-taking : Taking (lives s) (lives (freed l W.plan b s)) (transits s) (transits (freed l W.plan b s)) (flags s)
        (flags (freed l W.plan b s)) (events s) (events (freed l W.plan b s)) (boxes (taking w b) s) (boxes none s) w b
    ends-taking = record {
      still = E.moving_off;
      stands = E.gone_off;
      first = in_hand w b s;
      elsewhere = elsewhere w b s;
      live_others = E.live_others;
      moving_others = E.moving_others;
      gone_others = E.gone_others;
      event_others = E.event_others;
    }

    Kept-freed : Kept W base none [] (freed l W.plan b s)
    unfolding freed
    Kept-freed = record {
      sized = Sized-free l W.plan b s within K.sized;
      ended = K.ended;
      fit = fit_free l W.plan b s within K.fit;
      placed = Placed-free l W.plan b s within K.sized K.placed;
      boxed = Boxed-take ends-taking K.boxed;
      keyed = Keyed-take ends-taking K.boxed (λ h. absurd (both_ways _ E.dead h)) K.keyed;
      chained = Chained-end E idle' K.chained;
      sending = Sending-end E idle' gone K.sending;
      timed = Timed-end E K.timed;
    }

    Steady-freed : Steady base s (freed l W.plan b s)
    unfolding freed
    Steady-freed = record {
      gvt = omega arith;
      posted = refl;
      stays = λ c h g r. let n : c ≡ b → ⊥ = λ e. both_ways _ g (rw e gone) in
          (E.live_others c n ∙ h, E.gone_others c n ∙ g, E.event_others c n);
      comes = λ c h g r. let n : c ≡ b → ⊥ = λ e. both_ways _ E.dead (rw e at h) in
          (sym (E.live_others c n) ∙ h, sym (E.gone_others c n) ∙ g, E.event_others c n);
    }

  -- ---- the whole call

  module _ (l : Lanes) (w b : ℕ) (s : Machine) (inside : w < W.plan.workers) (K : Kept W base (taking w b) [] s) where
    homed : home W.plan (events s b).process ≡ w
    homed = K.boxed.homed w b (rw (in_hand w b s) (inl refl))

    -- what set the rollback off was active
    covers : Covers W w (events s b).time s
    covers =
        rw homed at (K.timed.covers b (elim (K.boxed.due w b (rw (in_hand w b s) (inl refl)))
        [ inl t ↦ moves t | inr g ↦ ends g ]))

    enough : tally s ≤ 256
    enough = let x = counted-length (λ m. is_done m.phase) s.messages in let y = K.sized.messages in omega arith

    Kept-arrival : transits s b ≡ true → flags s b ≡ false →
        Kept W base none [] (arrived W.plan w b s).machine × Steady base s (arrived W.plan w b s).machine ×
        Returns (arrived W.plan w b s) s
    unfolding arrived
    Kept-arrival t f = (
      Kept-arrived w b (at s b) s₂ R.0.kept (agree R.0.frame.moving b ∙ t) (same ∙ f) (sym same)
          (sym (agree R.0.frame.event b)) R.1,
      Steady-more (Steady-rolled W P base (taking w b) R.0)
          (Steady-arrived w b (at s b) s₂ R.0.kept (agree R.0.frame.moving b ∙ t) (same ∙ f) (sym same)
          (sym (agree R.0.frame.event b)) R.1),
      (let q = ap (lent) R.0.frame.places in omega arith),
    )
      where
        s₂ : Machine
        s₂ = (rollback W.plan w (events s b).process (past false (events s b)) s).machine

        R : Rolling W P base (taking w b) w (events s b).time s s₂ ×
            Over (events s b).process (past false (events s b)) s₂
        R =
            Kept-rolled W P base (taking w b) w (events s b).process (events s b).time (past false (events s b)) homed
            (λ e e'. earlier_trans (events s b) e e') (λ e. earlier_time (events s b) e) 256 s enough covers K

        same : flags s₂ b ≡ flags s b
        same = R.0.frame.early b (omega arith)

    Kept-annihilation : flags s b ≡ true →
        Kept W base none [] (annihilated l W.plan w b s).machine × Steady base s (annihilated l W.plan w b s).machine ×
        Returns (annihilated l W.plan w b s) s
    unfolding annihilated
    Kept-annihilation g = elim (cases_Bool (dones s b)) [
      | inr f ↦
          rw (f, annihilated) (
            Kept-freed w b l s K g f,
            Steady-freed w b l s K g f,
            (let q = freed_back W l s b K (K.boxed.ends b g) in omega arith),
          )
      | inl t ↦ rw (t, annihilated) (
        Kept-freed w b l s₂ R.0.kept (R.0.frame.gone b g) ended,
        Steady-more (Steady-rolled W P base (taking w b) R.0)
            (Steady-freed w b l s₂ R.0.kept (R.0.frame.gone b g) ended),
        (let q = freed_back W l s₂ b R.0.kept (R.0.kept.boxed.ends b (R.0.frame.gone b g)) in
            let z = ap (lent) R.0.frame.places in omega arith),
      )
    ]
      where
        test : Event → Bool
        test = past true (events s b)

        s₂ : Machine
        s₂ = (rollback W.plan w (events s b).process test s).machine

        upward : (e f : Event) → test e ≡ true → earlier e f ≡ true → test f ≡ true
        upward e f h k = elim (cases_Bool (earlier f (events s b))) [
          | inl t ↦ absurd (both_ways _ (not-true _ h) (earlier_trans e f (events s b) k t))
          | inr n ↦ not_from_false _ n
        ]

        R : Rolling W P base (taking w b) w (events s b).time s s₂ × Over (events s b).process test s₂
        R =
            Kept-rolled W P base (taking w b) w (events s b).process (events s b).time test homed upward
            (λ e h. not_earlier_time e (events s b) (not-true _ h)) 256 s enough covers K

        ended : dones s₂ b ≡ false
        ended = elim (cases_Bool (dones s₂ b)) [
          | inr f ↦ f
          | inl t ↦ (let e = agree R.0.frame.event b in
              absurd (both_ways _ (earlier_irreflexive (events s b) (events s b)
              (record { time = refl; process = refl; sender = refl; number = refl }))
              (not-false _ (rw e at (R.1 b t (ap (λ (x : Event). x.process) e))))))
        ]

  pub Kept-absorbed : (l : Lanes) (w : ℕ) (s : Machine) → w < W.plan.workers → Kept W base none [] s →
      Kept W base none [] (absorbed l W.plan w s).machine × Steady base s (absorbed l W.plan w s).machine ×
      Returns (absorbed l W.plan w s) s
  unfolding absorbed popped
  Kept-absorbed l w s i K = go (worker s w).inbox refl
    where
      go : (xs : List ℕ) → (worker s w).inbox ≡ xs →
          Kept W base none [] (absorbed l W.plan w s).machine × Steady base s (absorbed l W.plan w s).machine ×
          Returns (absorbed l W.plan w s) s
      go [] e = rw (e, absorbed) (K, Steady-same refl refl refl (omega arith) refl, omega arith)
      go (b ∷ rest) e = elim (cases_Bool (flags s b)) [
        | inl g ↦
            rw (e, absorbed, g) (from_left (annihilated l W.plan w b (popped w s))
            (Kept-annihilation l w b (popped w s) i K' g))
        | inr f ↦
            rw (e, absorbed, f) (from_left (arrived W.plan w b (popped w s))
            (Kept-arrival l w b (popped w s) i K' (moved f) f))
      ]
        where
          K' : Kept W base (taking w b) [] (popped w s)
          K' = Kept-popped w b rest s (let x = W.plan.staffed.1 in let y = K.sized.workers in omega arith) e K

          from_left : (r : Absorption) →
              Kept W base none [] r.machine × Steady base (popped w s) r.machine × Returns r s →
              Kept W base none [] r.machine × Steady base s r.machine × Returns r s
          from_left r (A, X, B) = (A, Steady-more (Steady-same refl refl refl (omega arith) refl) X, B)

          moved : flags s b ≡ false → transits s b ≡ true
          moved f = elim (K.boxed.due w b (rw e (inl refl))) [ inl t ↦ t | inr g ↦ absurd (both_ways _ f g) ]

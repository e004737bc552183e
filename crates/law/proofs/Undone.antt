-- Undoing the latest done event of a process keeps the invariant: its process is as before it, and its messages are
-- cancelled one after the other.
use Rattle.std.proofs.Common.{◌≡◌, ℕ, suc, ◌<◌, ◌≤◌, true, false, List, [], ◌∷◌, ◌++◌, map, length, sym, refl, ap, ◌∙◌}
use Rattle.std.proofs.Common.{inl, inr, append_assoc, arith}
use Rattle.std.proofs.lemmas.List.{get_or-set_same, get_or-set_other, length-set}
use Rattle.std.proofs.lemmas.Bool.{both_ways}
use Rattle.std.specs.List.{AllByRecursion}
use Rattle.model.specs.Meaning.{listed}
use Rattle.sequential.proofs.Sends.{applied-sends, Fits}
use Rattle.sequential.specs.Events.{outside, earlier, nobody}
use Rattle.sequential.specs.declared.event.Process.{Process}
use Rattle.machine.specs.Calls.{World}
use Rattle.machine.specs.Machine.{Machine, blank, at, worker, process, home, marked, pending_again, is_transit}
use Rattle.machine.specs.Machine.{is_pending}
use Rattle.machine.specs.Machine.{is_done, cancelled, cancelled_all, undone, restored, counted}
use Rattle.machine.specs.declared.message.Message.{Message}
use Rattle.machine.specs.declared.message.Phase.TheVariants.{Done}
use Rattle.law.specs.Law.{Proper}
use Rattle.law.proofs.Cancel.{Cancelling, Boxed-cancel, Keyed-cancel, Sending-cancel, Timed-add, Active-cancel}
use Rattle.law.proofs.Cancel.{Covered-cancel, stays_gone}
use Rattle.law.proofs.Cancelled.{Cancels, cancels}
use Rattle.law.proofs.Invariant.{is_live, parts, lives, transits, pendings, dones, flags, events, snapshots, outcomes}
use Rattle.law.proofs.Invariant.{sents, boxes, is_done_lem, Ready, Kept}
use Rattle.law.proofs.Members.{In, all_sent}
use Rattle.law.proofs.Numbers.{done-applied, number_above}
use Rattle.law.proofs.Parts.{part_here, part_others, live_within, same_part}
use Rattle.law.proofs.Rolling.{Covers, Frame, Frame-none, tally, Rolling, Rolling-more}
use Rattle.law.proofs.Room.{Kept-room}
use Rattle.law.proofs.Search.{counted-set_same, counted-set_less}
use Rattle.law.proofs.Undo.{Undoing, Chained-undo, Sending-undo, Timed-wait, Covered-later}
use Rattle.law.proofs.World.{homes}

module _ (W : World) (P : Proper W) (base : ℕ → Process) (held : ℕ → List ℕ) where
  module _ {w b : ℕ} {s s' : Machine} (X : Cancels W.plan w b s s') where
    part : {B : Type 0} (f : Message → B) → f (marked (at s b)) ≡ f (at s b) → parts f s' ≡ parts f s
    part f = same_part f s s' b (marked (at s b)) X.messages

    cancelling : {bs : List ℕ} → Kept W base held (b ∷ bs) s →
        Cancelling (home W.plan) (lives s) (transits s) (flags s) (flags s') (events s) (boxes held s) (boxes held s') b
    cancelling K = let o = K.sending.owed_lasting b (inl refl) in record {
      lived = o.0;
      stood = o.1;
      ended = part_here (λ m. m.cancelled) s s' b (marked (at s b)) X.messages (live_within s b o.0);
      others = part_others (λ m. m.cancelled) s s' b (marked (at s b)) X.messages;
      elsewhere = λ v n. ap (λ xs. held v ++ xs) (X.elsewhere v n);
      coming = λ t. ap (λ xs. held (home W.plan (at s b).event.process) ++ xs) (X.coming t);
      enters = λ f. ap (λ xs. held (home W.plan (at s b).event.process) ++ xs) (X.enters f) ∙
          sym (append_assoc (held (home W.plan (at s b).event.process)) _ _);
    }

    pub Kept-cancel : {bs : List ℕ} {t : ℕ} → w < W.plan.workers → t ≤ (at s b).event.time → Covers W w t s →
        Kept W base held (b ∷ bs) s → Kept W base held bs s' × Covers W w t s'
    Kept-cancel {bs} {t} l k C K = (
      record {
        sized = record {
          messages = rw X.messages (length-set s.messages b (marked (at s b)) ∙ K.sized.messages);
          places = rw X.places K.sized.places;
          workers = X.workers ∙ K.sized.workers;
          processes = rw X.processes K.sized.processes;
        };
        ended = rw (X.gvt, X.floor) K.ended;
        fit = rw (lv, ev) K.fit;
        placed = rw (lv, X.places) K.placed;
        boxed = rw (lv, tr, ev) (Boxed-cancel Y K.boxed);
        keyed = rw (lv, tr, ev) (Keyed-cancel Y K.boxed K.keyed);
        chained = rw (pn, dn, ev, sn, oc, X.processes) K.chained;
        sending = rw (lv, dn, ev, oc, st, X.posted) (Sending-cancel Y K.sending);
        timed =
            rw (tr, pn, ev, X.floor, X.reported, X.rounding, X.gvt)
            (Timed-add X.lowers b refl l k C (λ c n. refl) (Active-cancel b Y.others) K.timed);
      },
      rw (X.floor, X.reported, X.rounding, X.gvt) (Covered-cancel X.lowers w t C),
    )
      where
        Y : Cancelling (home W.plan) (lives s) (transits s) (flags s) (flags s') (events s) (boxes held s)
            (boxes held s') b
        Y = cancelling K

        lv : lives s' ≡ lives s
        lv = part (λ m. is_live m.phase) refl

        tr : transits s' ≡ transits s
        tr = part (λ m. is_transit m.phase) refl

        pn : pendings s' ≡ pendings s
        pn = part (λ m. is_pending m.phase) refl

        dn : dones s' ≡ dones s
        dn = part (λ m. is_done m.phase) refl

        ev : events s' ≡ events s
        ev = part (λ m. m.event) refl

        sn : snapshots s' ≡ snapshots s
        sn = part (λ m. m.snapshot) refl

        oc : outcomes s' ≡ outcomes s
        oc = part (λ m. m.outcome) refl

        st : sents s' ≡ sents s
        st = part (λ m. listed m.sent) refl

    Frame-cancel : {bs : List ℕ} {t : ℕ} → t < (at s b).event.time → Kept W base held (b ∷ bs) s → Frame t s s'
    Frame-cancel {bs} {t} k K = record {
      live = part (λ m. is_live m.phase) refl;
      moving = part (λ m. is_transit m.phase) refl;
      event = part (λ m. m.event) refl;
      gone = stays_gone (cancelling K);
      early = λ c l. (cancelling K).others c (λ e. let i : (at s b).event.time ≤ t = rw e at l in omega arith);
      tally =
          let e = ap (counted (λ m. is_done m.phase)) X.messages in
          let e' = counted-set_same (λ m. is_done m.phase) s.messages b (marked (at s b)) blank refl in
          omega arith;
      places = X.places;
      posted = X.posted;
      gvt = X.gvt;
    }

  -- a message that is not in transit and not cancelled finds room in its receiver's inbox
  room_for : {owed : List ℕ} {s : Machine} → Kept W base held owed s → (b : ℕ) → lives s b ≡ true → flags s b ≡ false →
      is_transit (at s b).phase ≡ false →
      length (worker s (home W.plan (at s b).event.process)).inbox < 256
  room_for {owed} {s} K b l g t =
      Kept-room K b (home W.plan (events s b).process)
      (let h = K.sized.messages in let j = live_within s b l in omega arith)
      (λ i. elim (K.boxed.due _ b i) [ inl m ↦ both_ways _ t m | inr e ↦ both_ways _ g e ])

  -- the messages that an undoing owes, cancelled in order
  pub Kept-cancel_all : {w t : ℕ} (bs : List ℕ) (s : Machine) → w < W.plan.workers →
      ((b : ℕ) → In b bs → t < (events s b).time) → ((b : ℕ) → In b bs → Ready base (events s b) → ⊥) → Covers W w t s →
      Kept W base held bs s →
      Rolling W P base held w t s (cancelled_all W.plan w bs s)
  unfolding cancelled_all
  Kept-cancel_all [] s l k n C K = record { kept = K; covers = C; frame = Frame-none; ready = λ c f r. f }
  Kept-cancel_all {w} {t} (b ∷ bs) s l k n C K =
      Rolling-more W P base held F (λ c f r. (cancelling X K).others c (λ e. n b (inl refl) (rw e at r)) ∙ f)
      (Kept-cancel_all bs s' l (λ c i. rw F.event (k c (inr i))) (λ c i r. n c (inr i) (rw F.event at r)) both.1 both.0)
    where
      s' : Machine
      s' = cancelled W.plan w b s

      lived : lives s b ≡ true
      lived = (K.sending.owed_lasting b (inl refl)).0

      X : Cancels W.plan w b s s'
      X =
          cancels W.plan w b s (let h = W.plan.staffed.1 in let j = K.sized.workers in omega arith)
          (let h = W.plan.staffed.1 in let i = homes W P (events s b).process (K.fit.fits b lived).process in
          let j = K.sized.workers in omega arith) (room_for K b lived (K.sending.owed_lasting b (inl refl)).1)

      F : Frame t s s'
      F = Frame-cancel X (k b (inl refl)) K

      both : Kept W base held bs s' × Covers W w t s'
      both = Kept-cancel X l (let i = k b (inl refl) in omega arith) C K

  -- what a done event has sent is later and not from outside
  pub sent-fits : {owed : List ℕ} {s : Machine} → Kept W base held owed s → (d : ℕ) → dones s d ≡ true → (b : ℕ) →
      In b (sents s d) → Fits W.model.size W.plan.limits.end (events s d) (events s b)
  sent-fits {owed} {s} K d h b i =
      all_sent (Fits W.model.size W.plan.limits.end (events s d)) (events s) (sents s d) fits b i
    where
      fits : AllByRecursion (Fits W.model.size W.plan.limits.end (events s d)) (map (events s) (sents s d))
      fits =
          rw (K.sending.events d h, done-applied W base held K d h)
          (applied-sends W.model W.plan.limits (events s d) _).fit

  -- one event undone, its messages not yet cancelled
  rewound : Machine → ℕ → Machine
  rewound s d = restored d s

  module _ (s : Machine) (d : ℕ) (h : dones s d ≡ true) where
    phase : (at s d).phase ≡ Done
    phase = is_done_lem (at s d).phase h

    back : {B : Type 0} (f : Message → B) → f (pending_again (at s d)) ≡ f (at s d) → parts f (rewound s d) ≡ parts f s
    unfolding rewound
    back f = same_part f s (rewound s d) d (pending_again (at s d)) refl

    others : {B : Type 0} (f : Message → B) (c : ℕ) → (c ≡ d → ⊥) → parts f (rewound s d) c ≡ parts f s c
    unfolding rewound
    others f = part_others f s (rewound s d) d (pending_again (at s d)) refl

    here : {B : Type 0} (f : Message → B) → parts f (rewound s d) d ≡ f (pending_again (at s d))
    unfolding rewound
    here f = part_here f s (rewound s d) d (pending_again (at s d)) refl (live_within s d (rw phase refl))

    fewer : suc (tally (rewound s d)) ≡ tally s
    unfolding rewound
    fewer =
        counted-set_less (λ m. is_done m.phase) s.messages d (pending_again (at s d)) blank
        (live_within s d (rw phase refl)) h refl

    lv : lives (rewound s d) ≡ lives s
    lv = back (λ m. is_live m.phase) (rw phase refl)

    tr : transits (rewound s d) ≡ transits s
    tr = back (λ m. is_transit m.phase) (rw phase refl)

    fl : flags (rewound s d) ≡ flags s
    fl = back (λ m. m.cancelled) refl

    ev : events (rewound s d) ≡ events s
    ev = back (λ m. m.event) refl

    Frame-undo : (t : ℕ) → Frame t s (rewound s d)
    unfolding rewound
    Frame-undo t = record {
      live = lv;
      moving = tr;
      event = ev;
      gone = λ c g. rw fl g;
      early = λ c l. rw fl refl;
      tally = let e = fewer in omega arith;
      places = refl;
      posted = refl;
      gvt = refl;
    }

    module _ (K : Kept W base held [] s)
        (last : (c : ℕ) → dones s c ≡ true → (events s c).process ≡ (events s d).process →
        earlier (events s d) (events s c) ≡ false) where
      undoing : Undoing (dones s) (dones (rewound s d)) (pendings s) (pendings (rewound s d)) (events s) (snapshots s)
          (snapshots (rewound s d)) (outcomes s) (outcomes (rewound s d)) (sents s) (sents (rewound s d)) (process s)
          (process (rewound s d)) d
      unfolding rewound
      undoing = record {
        was = h;
        last = last;
        undone = here (λ m. is_done m.phase);
        waits = here (λ m. is_pending m.phase);
        restored = get_or-set_same s.processes (events s d).process (snapshots s d) nobody within;
        elsewhere = λ p n. get_or-set_other s.processes (events s d).process p (snapshots s d) nobody n;
        did_others = others (λ m. is_done m.phase);
        waiting_others = others (λ m. is_pending m.phase);
        snapshot_others = others (λ m. m.snapshot);
        outcome_others = others (λ m. m.outcome);
        sent_others = others (λ m. listed m.sent);
      }
        where
          within : (events s d).process < length s.processes
          within =
              let f = (K.fit.fits d (rw phase refl)).process in
              let i = P.sized.1 in
              let j = K.sized.processes in
              omega arith

      inner : (b : ℕ) → In b (sents s d) → (events s b).sender ≡ outside → ⊥
      inner b i e =
          let f = (sent-fits K d h b i).sender in
          let g = (K.fit.fits d (rw phase refl)).process in
          let k = P.sized.1 in
          omega arith

      Kept-restored : {t : ℕ} → t ≤ (events s d).time → Covers W (home W.plan (events s d).process) t s →
          Kept W base held (sents s d) (rewound s d)
      unfolding rewound
      Kept-restored {t} l C = record {
        sized = record {
          messages = length-set s.messages d (pending_again (at s d)) ∙ K.sized.messages;
          places = K.sized.places;
          workers = K.sized.workers;
          processes = length-set s.processes (events s d).process (snapshots s d) ∙ K.sized.processes;
        };
        ended = K.ended;
        fit = rw (lv, ev) K.fit;
        placed = rw lv K.placed;
        boxed = rw (lv, tr, fl, ev) K.boxed;
        keyed = rw (lv, tr, fl, ev) K.keyed;
        chained = rw ev (Chained-undo undoing K.chained);
        sending = rw (lv, fl, ev) (Sending-undo undoing inner K.sending);
        timed = rw (tr, fl, ev) (Timed-wait d (others (λ m. is_pending m.phase)) (Covered-later l C) K.timed);
      }

      -- what the event has sent is not ready: the event is not collected
      unready : (b : ℕ) → In b (sents s d) → Ready base (events s b) → ⊥
      unready b i r = elim r [
        | inl o ↦ inner b i o
        | inr o ↦
            (let u = number_above W base held K d h b i in
            let v : (events s b).number < (base (events s d).process).count =
            rw (sent-fits K d h b i).sender at o.1 in omega arith)
      ]

      pub Kept-undone : {t w : ℕ} → home W.plan (events s d).process ≡ w → t ≤ (events s d).time → Covers W w t s →
          Rolling W P base held w t s (undone W.plan w d s) × (suc (tally (undone W.plan w d s)) ≤ tally s)
      unfolding undone rewound
      Kept-undone {t} {w} e l C =
          let R =
          Kept-cancel_all {w = w} {t = t} (sents s d) (rewound s d)
          (rw e at (homes W P (events s d).process (K.fit.fits d (rw phase refl)).process))
          (λ b i. rw ev (let f = (sent-fits K d h b i).later in omega arith)) (λ b i r. unready b i (rw ev at r)) C
          (Kept-restored l (rw e C)) in (
            Rolling-more W P base held (Frame-undo t) (λ c f r. rw fl f) R,
            let f = R.frame.tally in let g = fewer in
                omega arith,
          )

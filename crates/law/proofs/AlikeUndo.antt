-- Two machines that differ in the names of their buffers undo the same events and cancel the same messages, in the same
-- order.
use Rattle.std.proofs.Common.{◌≡◌, ℕ, zero, suc, ◌+◌, Bool, true, false, List, [], ◌∷◌, map, Some, None, Option, sym}
use Rattle.std.proofs.Common.{refl, ap, ◌∙◌, subst, ap₂, inl, inr}
use Rattle.std.proofs.lemmas.List.{get_or-set_same, get_or-set_other}
use Rattle.std.proofs.lemmas.Bool.{cases_Bool, cases_eq}
use Rattle.model.specs.Meaning.{listed, many}
use Rattle.sequential.proofs.Keys.{earlier-total}
use Rattle.sequential.specs.declared.event.Event.{Event}
use Rattle.machine.specs.Machine.{Machine, Rolled, blank, at, home, is_transit, later, latest, marked, pending_again}
use Rattle.machine.specs.Machine.{with_message, with_process, lower, enter, cancelled, cancelled_all, undone, rolled}
use Rattle.machine.specs.declared.message.Message.{Message}
use Rattle.machine.specs.declared.message.Phase.TheVariants.{Done}
use Rattle.machine.specs.declared.plan.Plan.{Plan}
use Rattle.law.proofs.Alike.{carried, listed-mapped, many_mapped, renamed, Alike, Alike-message, Alike-process}
use Rattle.law.proofs.Alike.{Alike-lower, Alike-enter}
use Rattle.law.proofs.AlikeSearch.{Separate, foremost-Alike}
use Rattle.law.proofs.Invariant.{is_live, is_done_lem, lives, transits, dones, events, sents}
use Rattle.law.proofs.Members.{In, get_or-set_keeps}
use Rattle.law.proofs.Parts.{live_within}
use Rattle.law.proofs.Picks.{passing, passing-parts, latest_picks, done_stands}
use Rattle.law.proofs.Search.{IsStrictWeakOrder-later}

-- ---- what undoing leaves as it was

pub record Eased (s t : Machine) : Type 0 where
  pub live : (c : ℕ) → lives t c ≡ lives s c
  pub moving : (c : ℕ) → transits t c ≡ transits s c
  pub event : (c : ℕ) → events t c ≡ events s c
  pub sent : (c d : ℕ) → In d (sents t c) → In d (sents s c)

Eased-none : {s : Machine} → Eased s s
Eased-none = record { live = λ c. refl; moving = λ c. refl; event = λ c. refl; sent = λ c d i. i }

Eased-more : {s t v : Machine} → Eased s t → Eased t v → Eased s v
Eased-more E F = record {
  live = λ c. F.live c ∙ E.live c;
  moving = λ c. F.moving c ∙ E.moving c;
  event = λ c. F.event c ∙ E.event c;
  sent = λ c d i. E.sent c d (F.sent c d i);
}

pub record Sound (s : Machine) : Type 0 where
  pub separate : Separate s
  pub kin : (d c : ℕ) → lives s d ≡ true → In c (sents s d) → lives s c ≡ true

Sound-eased : {s t : Machine} → Eased s t → Sound s → Sound t
Sound-eased E S = record {
  separate =
      λ b c l m l' m' k. S.separate b c (sym (E.live b) ∙ l) (sym (E.moving b) ∙ m) (sym (E.live c) ∙ l')
      (sym (E.moving c) ∙ m') (rw (E.event b, E.event c) at k);
  kin = λ d c l i. E.live c ∙ S.kin d c (sym (E.live d) ∙ l) (E.sent d c i);
}

-- ---- cancelling

cancelled_moving : (u : Plan) (w b : ℕ) (s : Machine) (m : Message) → at s b ≡ m → is_transit m.phase ≡ true →
    cancelled u w b s ≡ lower w m.event.time (with_message b (marked m) s)
unfolding cancelled
cancelled_moving u w b s m h t =
    rw (ap (λ (x : Message). is_transit x.phase) h ∙ t, cancelled)
    (ap (λ (x : Message). lower w x.event.time (with_message b (marked x) s)) h)

cancelled-still : (u : Plan) (w b : ℕ) (s : Machine) (m : Message) → at s b ≡ m → is_transit m.phase ≡ false →
    cancelled u w b s ≡ enter (home u m.event.process) b (lower w m.event.time (with_message b (marked m) s))
unfolding cancelled
cancelled-still u w b s m h t =
    rw (ap (λ (x : Message). is_transit x.phase) h ∙ t, cancelled)
    (ap (λ (x : Message). enter (home u x.event.process) b (lower w x.event.time (with_message b (marked x) s))) h)

Eased-cancelled : (u : Plan) (w b : ℕ) (s : Machine) → Eased s (cancelled u w b s)
unfolding enter lower
Eased-cancelled u w b s = elim (cases_Bool (is_transit (at s b).phase)) [
  | inl t ↦ rw (cancelled_moving u w b s (at s b) refl t) E
  | inr n ↦
      rw (cancelled-still u w b s (at s b) refl n)
      (record { live = E.live; moving = E.moving; event = E.event; sent = E.sent })
]
  where
    E : Eased s (lower w (at s b).event.time (with_message b (marked (at s b)) s))
    E = record {
      live = get_or-set_keeps (λ (m : Message). is_live m.phase) s.messages b (marked (at s b)) blank refl;
      moving = get_or-set_keeps (λ (m : Message). is_transit m.phase) s.messages b (marked (at s b)) blank refl;
      event = get_or-set_keeps (λ (m : Message). m.event) s.messages b (marked (at s b)) blank refl;
      sent =
          λ c d i. subst (In d) (get_or-set_keeps (λ (m : Message). listed m.sent) s.messages b
          (marked (at s b)) blank refl c) i;
    }

cancelled-Alike : {f g : ℕ → ℕ} {s s' : Machine} (u : Plan) (w b : ℕ) → lives s b ≡ true → Alike f g s s' →
    Alike f g (cancelled u w b s) (cancelled u w (f b) s')
cancelled-Alike {f} {g} {s} {s'} u w b l A = elim (cases_Bool (is_transit (at s b).phase)) [
  | inl t ↦
      rw (
        cancelled_moving u w b s (at s b) refl t,
        cancelled_moving u w (f b) s' (renamed f (at s b)) (A.named.is b l) t,
      ) X
  | inr n ↦
      rw (cancelled-still u w b s (at s b) refl n, cancelled-still u w (f b) s' (renamed f (at s b)) (A.named.is b l) n)
      (Alike-enter X (home u (events s b).process) b)
]
  where
    X : Alike f g (lower w (events s b).time (with_message b (marked (at s b)) s))
        (lower w (events s b).time (with_message (f b) (marked (renamed f (at s b))) s'))
    X =
        Alike-lower (Alike-message A b (marked (at s b)) (marked (renamed f (at s b))) l refl (A.named.quiet b l)) w
        (events s b).time

cancelled_all-Alike : {f g : ℕ → ℕ} (u : Plan) (w : ℕ) (bs : List ℕ) {s s' : Machine} →
    ((c : ℕ) → In c bs → lives s c ≡ true) → Alike f g s s' →
    Alike f g (cancelled_all u w bs s) (cancelled_all u w (map f bs) s') × Eased s (cancelled_all u w bs s)
unfolding cancelled_all
cancelled_all-Alike u w [] l A = (A, Eased-none)
cancelled_all-Alike u w (b ∷ bs) {s} {s'} l A = let E = Eased-cancelled u w b s in
    let r = cancelled_all-Alike u w bs (λ c i. E.live c ∙ l c (inr i)) (cancelled-Alike u w b (l b (inl refl)) A) in
    (r.0, Eased-more E r.1)

-- ---- undoing

undone_is : (u : Plan) (w b : ℕ) (s : Machine) (m : Message) → at s b ≡ m →
    undone u w b s ≡ cancelled_all u w (listed m.sent)
    (with_message b (pending_again m) (with_process m.event.process m.snapshot s))
unfolding undone
undone_is u w b s m h =
    ap (λ (x : Message). cancelled_all u w (listed x.sent)
    (with_message b (pending_again x) (with_process x.event.process x.snapshot s))) h

undone-Alike : {f g : ℕ → ℕ} {s s' : Machine} (u : Plan) (w b : ℕ) → dones s b ≡ true → Sound s → Alike f g s s' →
    Alike f g (undone u w b s) (undone u w (f b) s') × Eased s (undone u w b s)
undone-Alike {f} {g} {s} {s'} u w b d S A =
    rw (
      undone_is u w b s (at s b) refl,
      undone_is u w (f b) s' (renamed f (at s b)) (A.named.is b l),
      listed-mapped f (at s b).sent,
    ) (r.0, Eased-more E r.1)
  where
    phase : (at s b).phase ≡ Done
    phase = is_done_lem (at s b).phase d

    l : lives s b ≡ true
    l = rw phase refl

    t : Machine
    t = with_message b (pending_again (at s b)) (with_process (events s b).process (at s b).snapshot s)

    E : Eased s t
    E = record {
      live = get_or-set_keeps (λ (m : Message). is_live m.phase) s.messages b (pending_again (at s b)) blank
          (rw phase refl);
      moving =
          get_or-set_keeps (λ (m : Message). is_transit m.phase) s.messages b (pending_again (at s b)) blank
          (rw phase refl);
      event = get_or-set_keeps (λ (m : Message). m.event) s.messages b (pending_again (at s b)) blank refl;
      sent = sent';
    }
      where
        sent' : (c e : ℕ) → In e (sents t c) → In e (sents s c)
        sent' c e i = elim (cases_eq c b) [
          | inl k ↦
              absurd (subst (In e) (ap (λ (m : Message). listed m.sent)
              (get_or-set_same s.messages b (pending_again (at s b)) blank (live_within s b l))) (rw k at i))
          | inr n ↦
              subst (In e) (ap (λ (m : Message). listed m.sent)
              (get_or-set_other s.messages b c (pending_again (at s b)) blank n)) i
        ]

    r : Alike f g (cancelled_all u w (sents s b) t)
        (cancelled_all u w (map f (sents s b))
        (with_message (f b) (pending_again (renamed f (at s b)))
        (with_process (events s b).process (at s b).snapshot s'))) ×
        Eased t (cancelled_all u w (sents s b) t)
    r =
        cancelled_all-Alike u w (sents s b) (λ c i. E.live c ∙ S.kin b c l i)
        (Alike-message (Alike-process A (events s b).process (at s b).snapshot) b (pending_again (at s b))
        (pending_again (renamed f (at s b))) l refl (λ _. refl))

-- ---- rolling back

pub record Rolls (f g : ℕ → ℕ) (s : Machine) (r r' : Rolled) : Type 0 where
  pub alike : Alike f g r.machine r'.machine
  pub eased : Eased s r.machine
  pub undone : r'.undone ≡ r.undone
  pub cancelled : r'.cancelled ≡ r.cancelled

module _ (u : Plan) (w p : ℕ) (past : Event → Bool) where
  abbrev still : Machine → Rolled
  still s = record { machine = s; undone = 0; cancelled = 0 }

  abbrev more : ℕ → Rolled → Rolled
  more n r = record { machine = r.machine; undone = suc r.undone; cancelled = n + r.cancelled }

  rolled-still : (k : ℕ) (s : Machine) → latest p past s ≡ None → rolled (suc k) u w p past s ≡ still s
  unfolding rolled
  rolled-still k s h = rw (h, rolled) refl

  rolled_more : (k : ℕ) (s : Machine) (d : ℕ) → latest p past s ≡ Some d →
      rolled (suc k) u w p past s ≡ more (many (at s d).sent) (rolled k u w p past (undone u w d s))
  unfolding rolled
  rolled_more k s d h = rw (h, rolled) refl

  latest-Alike : {f g : ℕ → ℕ} {s s' : Machine} → Separate s → Alike f g s s' →
      latest p past s' ≡ carried f (latest p past s)
  latest-Alike S A =
      foremost-Alike A S (passing p past) later IsStrictWeakOrder-later (λ e e' h k. earlier-total e e' k h)
      (λ m. refl) refl (λ m h. done_stands m (passing-parts p past m h).0)

  latest-done : (s : Machine) (d : ℕ) → latest p past s ≡ Some d → dones s d ≡ true
  latest-done s d h = (passing-parts p past (at s d) (latest_picks p past s d h).passes).0

  pub rolled-Alike : (k : ℕ) {f g : ℕ → ℕ} (s s' : Machine) → Sound s → Alike f g s s' →
      Rolls f g s (rolled k u w p past s) (rolled k u w p past s')
  unfolding rolled
  rolled-Alike zero s s' S A = record { alike = A; eased = Eased-none; undone = refl; cancelled = refl }
  rolled-Alike (suc k) {f} {g} s s' S A = go (latest p past s) refl (rolled-Alike k {f = f} {g = g})
    where
      picks : {d : Option ℕ} → latest p past s ≡ d → latest p past s' ≡ carried f d
      picks h = latest-Alike S.separate A ∙ ap (carried f) h

      go : (d : Option ℕ) → latest p past s ≡ d →
          ((s s' : Machine) → Sound s → Alike f g s s' → Rolls f g s (rolled k u w p past s) (rolled k u w p past s')) →
          Rolls f g s (rolled (suc k) u w p past s) (rolled (suc k) u w p past s')
      go None h r =
          rw (rolled-still k s h, rolled-still k s' (picks h))
          (record { alike = A; eased = Eased-none; undone = refl; cancelled = refl })
      go (Some d) h r = rw (rolled_more k s d h, rolled_more k s' (f d) (picks h)) (record {
        alike = R.alike;
        eased = Eased-more U.1 R.eased;
        undone = ap suc R.undone;
        cancelled =
            ap₂ (λ (x y : ℕ). x + y) (ap (λ (m : Message). many m.sent) (A.named.is d l) ∙ many_mapped f (at s d).sent)
            R.cancelled;
      })
        where
          q : dones s d ≡ true
          q = latest-done s d h

          l : lives s d ≡ true
          l = rw (is_done_lem (at s d).phase q) refl

          U : Alike f g (undone u w d s) (undone u w (f d) s') × Eased s (undone u w d s)
          U = undone-Alike u w d q S A

          R : Rolls f g (undone u w d s) (rolled k u w p past (undone u w d s))
              (rolled k u w p past (undone u w (f d) s'))
          R = r (undone u w d s) (undone u w (f d) s') (Sound-eased U.1 S) U.0

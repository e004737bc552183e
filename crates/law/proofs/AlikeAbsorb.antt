-- Two machines that differ in the names of their buffers absorb alike: they take the same message, and roll back the
-- same events.
use Rattle.std.proofs.Common.{◌≡◌, ℕ, true, false, List, [], ◌∷◌, Some, None, Option, sym, refl, ap, ◌∙◌, subst, inl}
use Rattle.std.proofs.Common.{inr, arith}
use Rattle.std.proofs.lemmas.Bool.{cases_Bool}
use Rattle.pool.specs.Lanes.{Lanes}
use Rattle.machine.specs.Machine.{Machine, Worker, Absorption, absorbed_to, first, past, at, worker, is_done}
use Rattle.machine.specs.Machine.{pending_again}
use Rattle.machine.specs.Machine.{with_message, popped, freed, rollback, arrived, annihilated, absorbed}
use Rattle.machine.specs.declared.message.Message.{Message}
use Rattle.machine.specs.declared.plan.Plan.{Plan}
use Rattle.law.proofs.Alike.{first_map, carried, renamed, Alike, worker_there, Alike-message, Alike-popped, Alike-freed}
use Rattle.law.proofs.AlikeUndo.{Sound, Rolls, rolled-Alike}
use Rattle.law.proofs.Invariant.{lives, dones, events}
use Rattle.law.proofs.Members.{In}

pub record Absorbs (f g : ℕ → ℕ) (r r' : Absorption) : Type 0 where
  pub alike : Alike f g r.machine r'.machine
  pub annihilated : r'.annihilated ≡ r.annihilated
  pub undone : r'.undone ≡ r.undone
  pub cancelled : r'.cancelled ≡ r.cancelled

module _ (l : Lanes) (u : Plan) (w b : ℕ) {f g : ℕ → ℕ} (s s' : Machine) (S : Sound s) (A : Alike f g s s')
    (x : lives s b ≡ true) where
  abbrev arrived_as : ℕ → Machine → Message → Absorption
  arrived_as c z m =
      let r = rollback u w m.event.process (past false m.event) z in
      absorbed_to (with_message c (pending_again m) r.machine) 0 r.undone r.cancelled

  arrived-Alike : Absorbs f g (arrived u w b s) (arrived u w (f b) s')
  unfolding arrived
  arrived-Alike = subst (Absorbs f g (arrived u w b s)) (sym (ap (arrived_as (f b) s') (A.named.is b x))) (record {
    alike =
        Alike-message R.alike b (pending_again (at s b)) (pending_again (renamed f (at s b))) (R.eased.live b ∙ x) refl
        (λ _. refl);
    annihilated = refl;
    undone = R.undone;
    cancelled = R.cancelled;
  })
    where
      R : Rolls f g s (rollback u w (events s b).process (past false (events s b)) s)
          (rollback u w (events s b).process (past false (events s b)) s')
      R = rolled-Alike u w (events s b).process (past false (events s b)) 256 s s' S A

  abbrev gone_as : ℕ → Machine → Message → Absorption
  gone_as c z m =
      let r = rollback u w m.event.process (past true m.event) z in
      absorbed_to (freed l u c r.machine) 1 r.undone r.cancelled

  abbrev gone_still : ℕ → Machine → Absorption
  gone_still c z = absorbed_to (freed l u c z) 1 0 0

  annihilated_done : (c : ℕ) (z : Machine) (m : Message) → at z c ≡ m → is_done m.phase ≡ true →
      annihilated l u w c z ≡ gone_as c z m
  unfolding annihilated
  annihilated_done c z m h t = rw (ap (λ (y : Message). is_done y.phase) h ∙ t, annihilated) (ap (gone_as c z) h)

  annihilated_still : (c : ℕ) (z : Machine) (m : Message) → at z c ≡ m → is_done m.phase ≡ false →
      annihilated l u w c z ≡ gone_still c z
  unfolding annihilated
  annihilated_still c z m h t = rw (ap (λ (y : Message). is_done y.phase) h ∙ t, annihilated) refl

  annihilated-Alike : Absorbs f g (annihilated l u w b s) (annihilated l u w (f b) s')
  annihilated-Alike = elim (cases_Bool (dones s b)) [
    | inl t ↦
        rw (annihilated_done b s (at s b) refl t, annihilated_done (f b) s' (renamed f (at s b)) (A.named.is b x) t)
        (record {
          alike = Alike-freed R.alike l u b (R.eased.live b ∙ x);
          annihilated = refl;
          undone = R.undone;
          cancelled = R.cancelled;
        })
    | inr n ↦
        rw (annihilated_still b s (at s b) refl n, annihilated_still (f b) s' (renamed f (at s b)) (A.named.is b x) n)
        (record { alike = Alike-freed A l u b x; annihilated = refl; undone = refl; cancelled = refl })
  ]
    where
      R : Rolls f g s (rollback u w (events s b).process (past true (events s b)) s)
          (rollback u w (events s b).process (past true (events s b)) s')
      R = rolled-Alike u w (events s b).process (past true (events s b)) 256 s s' S A

module _ (l : Lanes) (u : Plan) (w : ℕ) where
  absorbed_none : (s : Machine) → first (worker s w).inbox ≡ None → absorbed l u w s ≡ absorbed_to s 0 0 0
  unfolding absorbed
  absorbed_none s h = rw (h, absorbed) refl

  absorbed_gone : (s : Machine) (b : ℕ) → first (worker s w).inbox ≡ Some b → (at s b).cancelled ≡ true →
      absorbed l u w s ≡ annihilated l u w b (popped w s)
  unfolding absorbed
  absorbed_gone s b h t = rw (h, absorbed, t) refl

  absorbed_comes : (s : Machine) (b : ℕ) → first (worker s w).inbox ≡ Some b → (at s b).cancelled ≡ false →
      absorbed l u w s ≡ arrived u w b (popped w s)
  unfolding absorbed
  absorbed_comes s b h t = rw (h, absorbed, t) refl

  Sound-popped : {s : Machine} → Sound s → Sound (popped w s)
  unfolding popped
  Sound-popped S = record { separate = S.separate; kin = S.kin }

  left_lives : (s : Machine) (b : ℕ) → lives s b ≡ true → lives (popped w s) b ≡ true
  unfolding popped
  left_lives s b x = x

  first_in : (xs : List ℕ) (b : ℕ) → first xs ≡ Some b → In b xs
  first_in [] b h = absurd (grind arith)
  first_in (x ∷ xs) b h = inl (cc)

  pub absorbed-Alike : {f g : ℕ → ℕ} (s s' : Machine) → Sound s →
      ((c : ℕ) → In c (worker s w).inbox → lives s c ≡ true) → Alike f g s s' →
      Absorbs f g (absorbed l u w s) (absorbed l u w s')
  absorbed-Alike {f} {g} s s' S m A = go (first (worker s w).inbox) refl
    where
      there : {o : Option ℕ} → first (worker s w).inbox ≡ o → first (worker s' w).inbox ≡ carried f o
      there h = ap (λ (x : Worker). first x.inbox) (worker_there A w) ∙
          (first_map f (worker s w).inbox ∙ ap (carried f) h)

      go : (o : Option ℕ) → first (worker s w).inbox ≡ o → Absorbs f g (absorbed l u w s) (absorbed l u w s')
      go None h =
          rw (absorbed_none s h, absorbed_none s' (there h))
          (record { alike = A; annihilated = refl; undone = refl; cancelled = refl })
      go (Some b) h = elim (cases_Bool (at s b).cancelled) [
        | inl t ↦
            rw (absorbed_gone s b h t, absorbed_gone s' (f b) (there h) (rw (A.named.is b x) t))
            (annihilated-Alike l u w b (popped w s) (popped w s') (Sound-popped S) (Alike-popped A w)
            (left_lives s b x))
        | inr n ↦
            rw (absorbed_comes s b h n, absorbed_comes s' (f b) (there h) (rw (A.named.is b x) n))
            (arrived-Alike l u w b (popped w s) (popped w s') (Sound-popped S) (Alike-popped A w) (left_lives s b x))
      ]
        where
          x : lives s b ≡ true
          x = m b (first_in (worker s w).inbox b h)

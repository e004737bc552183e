-- Posting keeps the invariant: the post is not earlier than GVT, no other post has its number, and the outside floor
-- covers it.
use Rattle.std.proofs.Common.{◌≡◌, ℕ, ◌+◌, ◌<◌, ◌≤◌, min, Bool, true, false, [], Option, refl, ap, inl, inr, arith}
use Rattle.std.proofs.lemmas.List.{get_or-set_same}
use Rattle.std.proofs.lemmas.Bool.{cases_eq}
use Rattle.pool.specs.Lanes.{place_at}
use Rattle.pool.specs.declared.place.Place.TheVariants.{Lane}
use Rattle.sequential.proofs.Keys.{SameKey}
use Rattle.sequential.specs.declared.event.Event.{Event}
use Rattle.sequential.specs.declared.event.Process.{Process}
use Rattle.machine.specs.Calls.{World, post_of}
use Rattle.machine.specs.Machine.{Machine, blank, home, sent, enter, with_outside}
use Rattle.machine.specs.declared.message.Message.{Message}
use Rattle.law.specs.Law.{Proper}
use Rattle.law.proofs.Absorb.{none}
use Rattle.law.proofs.Enter.{Active-enter, Sending-enter}
use Rattle.law.proofs.Invariant.{lives, dones, flags, events, sents, Kept, Timed, Covered, Active, Origin}
use Rattle.law.proofs.Invariant.Origin.{outer, settled, sent_by, owing}
use Rattle.law.proofs.Picks.{done_lives}
use Rattle.law.proofs.Room.{dead_room}
use Rattle.law.proofs.Sent.{Enters, Draws, draws-sent, draws-outside, sent-floors, sent-reports, draw-Entering}
use Rattle.law.proofs.Sent.{Kept-draw, Drawn-dead}
use Rattle.law.proofs.World.{homes}

-- a message of the time t comes from outside, and the outside floor falls to t
Timed-post : {home : ℕ → ℕ} {workers : ℕ} {moving moving' waiting waiting' gone gone' : ℕ → Bool}
    {event event' : ℕ → Event} {floor : ℕ} {floors : ℕ → ℕ} {reports : ℕ → Option ℕ} {rounding : Bool} {gvt t : ℕ}
    (b : ℕ) → (event' b).time ≡ t → gvt ≤ t →
    ((c : ℕ) → (c ≡ b → ⊥) → event' c ≡ event c) →
    ((c : ℕ) → (c ≡ b → ⊥) → Active moving' waiting' gone' c → Active moving waiting gone c) →
    Timed home workers moving waiting gone event floor floors reports rounding gvt →
    Timed home workers moving' waiting' gone' event' (min floor t) floors reports rounding gvt
Timed-post {home} {workers} {moving} {moving'} {waiting} {waiting'} {gone} {gone'} {event} {event'} {floor} {floors}
    {reports} {rounding} {gvt} {t} b is low kept others T = record {
      lowest = λ o. let B = T.lowest o in
          record { outer = let i = B.outer in omega arith; told = B.told; untold = B.untold };
      covers = covers';
    }
  where
    covers' : (c : ℕ) → Active moving' waiting' gone' c →
        Covered workers (min floor t) floors reports rounding gvt (home (event' c).process) (event' c).time
    covers' c a = elim (cases_eq c b) [
      | inl e ↦ rw e (record { low = omega arith; bound = λ o n x B. let i = B.outer in omega arith })
      | inr n ↦
          rw (kept c n) (let C = T.covers c (others c n a) in
          record {
            low = C.low;
            bound =
                λ o m x B. C.bound o m x (record {
                  outer = let i = B.outer in
                      omega arith;
                  told = B.told;
                  untold = B.untold;
                });
          })
    ]

module _ (W : World) (P : Proper W) (base : ℕ → Process) (s : Machine) (K : Kept W base none [] s) (p t x b l : ℕ)
    (small : p < W.model.size) (low : s.gvt ≤ t) (early : t < W.plan.limits.end)
    (lane : place_at s.places b ≡ Lane l) where
  abbrev e : Event
  e = post_of W s p t x

  abbrev s₁ : Machine
  s₁ = with_outside (s.posted + 1) (min s.floor t) (sent W.plan b e s)

  pub empty : (b < 256) × (lives s b ≡ false)
  empty = Drawn-dead W base none K b l lane

  drawn : Draws W.plan b e s s₁
  drawn =
      draws-outside (s.posted + 1) (min s.floor t)
      (draws-sent W.plan b e s (let i = W.plan.staffed.1 in let j = homes W P p small in let k = K.sized.workers in
      omega arith) (dead_room K b (home W.plan p) empty.0 empty.1))

  pub entering : Enters W none s s₁ b
  entering = draw-Entering W base none drawn K empty.0 empty.1

  pub event_here : events s₁ b ≡ e
  unfolding sent enter
  event_here =
      ap (λ (m : Message). m.event) (get_or-set_same s.messages b _ blank
      (let j = K.sized.messages in let i = empty.0 in omega arith))

  pub fresh : (c : ℕ) → lives s c ≡ true → flags s c ≡ false → SameKey (events s c) e → ⊥
  fresh c h g k = go (K.sending.origin c h g)
    where
      go : Origin (dones s) (events s) (sents s) base s.posted [] c → ⊥
      go (outer q i) = let j = k.number in omega arith
      go (settled n i) = n k.sender
      go (owing i) = i
      go (sent_by d i q j) =
          let r = (K.fit.fits d (done_lives s d i)).process in let v = k.sender in let z = P.sized.1 in omega arith

  pub Kept-posted : Kept W base none []
      (with_outside (s.posted + 1) (min s.floor t) (sent W.plan b (post_of W s p t x) s))
  unfolding sent enter
  Kept-posted = Kept-draw W base none drawn K empty.0 empty.1
      (record { gvt_ends = K.ended.gvt_ends; floor_ends = let i = K.ended.floor_ends in omega arith })
      (record { process = small; sender = inl refl; time = early }) fresh
      (Sending-enter entering (done_lives s) (omega arith) (λ c i. i) (λ c i. inl i) (λ o a. a)
      (outer (ap (λ (y : Event). y.sender) event_here) (let i = ap (λ (y : Event). y.number) event_here in omega arith))
      K.sending)
      (rw (sent-floors W.plan b e s, sent-reports W.plan b e s)
      (Timed-post b (ap (λ (y : Event). y.time) event_here) low entering.event_others
      (Active-enter entering) K.timed))

-- What emptying a buffer does to a machine, and to how many buffers are out.
use Rattle.std.proofs.Common.{◌≡◌, ℕ, zero, suc, ◌<◌, true, List, [], ◌∷◌, length, set, sym, refl, ap, ◌∙◌, inl, inr}
use Rattle.std.proofs.Common.{arith}
use Rattle.std.proofs.lemmas.List.{get_or-set_same, get_or-set_other, length-set}
use Rattle.std.proofs.lemmas.Bool.{cases_eq}
use Rattle.model.specs.Meaning.{listed}
use Rattle.pool.specs.Lanes.{Lanes, place_at, lent}
use Rattle.pool.specs.declared.place.Place.{Place}
use Rattle.pool.specs.declared.place.Place.TheVariants.{Out, Lane}
use Rattle.sequential.specs.declared.event.Process.{Process}
use Rattle.machine.specs.Calls.{World}
use Rattle.machine.specs.Machine.{Machine, blank, freed, is_transit, is_pending, is_done}
use Rattle.machine.specs.declared.message.Message.{Message}
use Rattle.machine.specs.declared.plan.Plan.{Plan}
use Rattle.law.proofs.Invariant.{is_live, parts, lives, transits, pendings, dones, flags, events, snapshots, outcomes}
use Rattle.law.proofs.Invariant.{sents, Sized, Fit, Placed, Kept}
use Rattle.law.proofs.Parts.{part_here, part_others, live_within}
use Rattle.law.proofs.Same.{before}
use Rattle.law.proofs.Take.{Emptying}

-- the buffer b of s is emptied in s'
abbrev pub Empties : Machine → Machine → ℕ → Type 0
Empties s s' b =
    Emptying (lives s) (lives s') (transits s) (transits s') (pendings s) (pendings s') (flags s) (flags s') (dones s)
    (dones s')
    (events s) (events s') (snapshots s) (snapshots s') (outcomes s) (outcomes s') (sents s) (sents s') b

in_lane : (places : List Place) (b l : ℕ) → b < length places → place_at (set places b (Lane l)) b ≡ Out → ⊥
in_lane places b l h e = let j = get_or-set_same places b (Lane l) Out h in grind arith

module _ (l : Lanes) (u : Plan) (b : ℕ) (s : Machine) (within : b < length s.messages) where
  out : {B : Type 0} (f : Message → B) (c : ℕ) → (c ≡ b → ⊥) → parts f (freed l u b s) c ≡ parts f s c
  unfolding freed
  out f = part_others f s (freed l u b s) b blank refl

  off : {B : Type 0} (f : Message → B) → parts f (freed l u b s) b ≡ f blank
  unfolding freed
  off f = part_here f s (freed l u b s) b blank refl within

  pub empties : Empties s (freed l u b s) b
  empties = record {
    dead = off (λ m. is_live m.phase);
    moving_off = off (λ m. is_transit m.phase);
    waiting_off = off (λ m. is_pending m.phase);
    gone_off = off (λ m. m.cancelled);
    did_off = off (λ m. is_done m.phase);
    live_others = out (λ m. is_live m.phase);
    moving_others = out (λ m. is_transit m.phase);
    waiting_others = out (λ m. is_pending m.phase);
    gone_others = out (λ m. m.cancelled);
    did_others = out (λ m. is_done m.phase);
    event_others = out (λ m. m.event);
    snapshot_others = out (λ m. m.snapshot);
    outcome_others = out (λ m. m.outcome);
    sent_others = out (λ m. listed m.sent);
  }

  pub alive : (c : ℕ) → lives (freed l u b s) c ≡ true → (c ≡ b → ⊥) × (lives s c ≡ true)
  alive = before (lives s) (lives (freed l u b s)) b empties.dead empties.live_others

  pub Sized-free : Sized s → Sized (freed l u b s)
  unfolding freed
  Sized-free Z = record {
    messages = length-set s.messages b blank ∙ Z.messages;
    places = length-set s.places b _ ∙ Z.places;
    workers = Z.workers;
    processes = Z.processes;
  }

  pub fit_free : {size end : ℕ} → Fit size end (lives s) (events s) →
      Fit size end (lives (freed l u b s)) (events (freed l u b s))
  fit_free F = record { fits = λ c h. rw (empties.event_others c (alive c h).0) (F.fits c (alive c h).1) }

  pub Placed-free : Sized s → Placed (lives s) (place_at s.places) →
      Placed (lives (freed l u b s)) (place_at (freed l u b s).places)
  unfolding freed
  Placed-free Z L = record {
    out = λ c h. get_or-set_other s.places b c _ Out (alive c h).0 ∙ L.out c (alive c h).1;
    rests = λ c h r e. elim (cases_eq c b) [
      | inl k ↦ in_lane s.places b _ (let y = Z.messages in let z = Z.places in omega arith) (rw k at e)
      | inr n ↦ L.rests c (sym (empties.live_others c n) ∙ h) r (sym (get_or-set_other s.places b c _ Out n) ∙ e)
    ];
  }

-- ---- how many buffers are out

pub out_lane : {l : ℕ} → Out ≡ Lane l → ⊥
out_lane h = grind arith

-- a buffer that lies in a lane goes out
pub lent_out : (xs : List Place) (b l : ℕ) → place_at xs b ≡ Lane l → lent (set xs b Out) ≡ suc (lent xs)
unfolding lent
lent_out [] b l h = absurd (out_lane h)
lent_out (Out ∷ xs) zero l h = absurd (out_lane h)
lent_out (Lane m ∷ xs) zero l h = refl
lent_out (Out ∷ xs) (suc b) l h = ap suc (lent_out xs b l h)
lent_out (Lane m ∷ xs) (suc b) l h = lent_out xs b l h

-- a buffer that is out goes into a lane
pub lent_back : (xs : List Place) (b l : ℕ) → b < length xs → place_at xs b ≡ Out →
    suc (lent (set xs b (Lane l))) ≡ lent xs
unfolding lent
lent_back [] b l i h = absurd (omega arith)
lent_back (Out ∷ xs) zero l i h = refl
lent_back (Lane m ∷ xs) zero l i h = absurd (out_lane (sym h))
lent_back (Out ∷ xs) (suc b) l i h = ap suc (lent_back xs b l (omega arith) h)
lent_back (Lane m ∷ xs) (suc b) l i h = lent_back xs b l (omega arith) h

-- an emptied buffer goes back
pub freed_back : (W : World) {base : ℕ → Process} {held : ℕ → List ℕ} {owed : List ℕ} (l : Lanes) (s : Machine)
    (b : ℕ) → Kept W base held owed s → lives s b ≡ true → suc (lent (freed l W.plan b s).places) ≡ lent s.places
unfolding freed
freed_back W l s b K h =
    lent_back s.places b _ (let i = live_within s b h in let j = K.sized.messages in let k = K.sized.places in
    omega arith) (K.placed.out b h)

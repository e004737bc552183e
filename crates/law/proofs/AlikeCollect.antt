-- Two machines that differ in the names of their buffers collect the same lines, and as many remain.
use Rattle.std.proofs.Common.{◌≡◌, ℕ, zero, suc, ◌<◌, true, List, [], ◌∷◌, length, Some, None, Option, sym, refl, ap}
use Rattle.std.proofs.Common.{◌∙◌, ap₂, arith}
use Rattle.pool.specs.Lanes.{Lanes}
use Rattle.sequential.proofs.Keys.{earlier-total, IsStrictWeakOrder-earlier}
use Rattle.sequential.specs.Events.{earlier, line_of}
use Rattle.sequential.specs.declared.event.Line.{Line}
use Rattle.machine.specs.Machine.{Machine, Collected, collected_to, at, foremost, freed, oldest, collected, remaining}
use Rattle.machine.specs.declared.message.Message.{Message}
use Rattle.machine.specs.declared.plan.Plan.{Plan}
use Rattle.law.proofs.Alike.{carried, Alike, Alike-freed}
use Rattle.law.proofs.AlikeSearch.{Separate, foremost-Alike}
use Rattle.law.proofs.Freed.{empties, alive}
use Rattle.law.proofs.History.{collected_some}
use Rattle.law.proofs.Invariant.{lives}
use Rattle.law.proofs.Parts.{live_within}
use Rattle.law.proofs.Picks.{ripe, ripe-parts, oldest_picks, done_stands, done_lives, remaining_none, remaining_some}

oldest_lives : (s : Machine) (d : ℕ) → oldest s ≡ Some d → lives s d ≡ true
oldest_lives s d h = done_lives s d (ripe-parts s.gvt (at s d) (oldest_picks s d h).passes).0

oldest-Alike : {f g : ℕ → ℕ} {s s' : Machine} → Separate s → Alike f g s s' → oldest s' ≡ carried f (oldest s)
oldest-Alike {f} {g} {s} {s'} S A = ap (λ (v : ℕ). foremost (ripe v) earlier s') A.gvt ∙
    foremost-Alike A S (ripe s.gvt) earlier IsStrictWeakOrder-earlier earlier-total (λ m. refl) refl
    (λ m h. done_stands m (ripe-parts s.gvt m h).0)

Separate-freed : (l : Lanes) (u : Plan) (b : ℕ) (s : Machine) → lives s b ≡ true → Separate s → Separate (freed l u b s)
Separate-freed l u b s x S c d h m h' m' k =
    let y = alive l u b s w c h in let y' = alive l u b s w d h' in
    S c d y.1 (sym ((empties l u b s w).moving_others c y.0) ∙ m) y'.1
    (sym ((empties l u b s w).moving_others d y'.0) ∙ m')
    (rw ((empties l u b s w).event_others c y.0, (empties l u b s w).event_others d y'.0) at k)
  where
    w : b < length s.messages
    w = live_within s b x

-- ---- lines

pub record Collects (f g : ℕ → ℕ) (r r' : Collected) : Type 0 where
  pub alike : Alike f g r.machine r'.machine
  pub lines : r'.lines ≡ r.lines
  pub separate : Separate r.machine

module _ (l : Lanes) (u : Plan) where
  collected_none : (k : ℕ) (s : Machine) → oldest s ≡ None → collected l u (suc k) s ≡ collected_to s []
  unfolding collected
  collected_none k s h = rw (h, collected) refl

  pub collected-Alike : (k : ℕ) {f g : ℕ → ℕ} (s s' : Machine) → Separate s → Alike f g s s' →
      Collects f g (collected l u k s) (collected l u k s')
  unfolding collected
  collected-Alike zero s s' S A = record { alike = A; lines = refl; separate = S }
  collected-Alike (suc k) {f} {g} s s' S A = go (oldest s) refl (collected-Alike k {f = f} {g = g})
    where
      picks : {o : Option ℕ} → oldest s ≡ o → oldest s' ≡ carried f o
      picks h = oldest-Alike S A ∙ ap (carried f) h

      go : (o : Option ℕ) → oldest s ≡ o →
          ((s s' : Machine) → Separate s → Alike f g s s' → Collects f g (collected l u k s) (collected l u k s')) →
          Collects f g (collected l u (suc k) s) (collected l u (suc k) s')
      go None h r =
          rw (collected_none k s h, collected_none k s' (picks h)) (record { alike = A; lines = refl; separate = S })
      go (Some d) h r = rw (collected_some l u k s d h, collected_some l u k s' (f d) (picks h)) (record {
        alike = R.alike;
        separate = R.separate;
        lines =
            ap₂ (λ (x : Line) (xs : List Line). x ∷ xs)
            (ap (λ (m : Message). line_of m.event m.outcome) (A.named.is d x)) R.lines;
      })
        where
          x : lives s d ≡ true
          x = oldest_lives s d h

          R : Collects f g (collected l u k (freed l u d s)) (collected l u k (freed l u (f d) s'))
          R = r (freed l u d s) (freed l u (f d) s') (Separate-freed l u d s x S) (Alike-freed A l u d x)

  -- ---- how many remain

  remaining_same : (n : ℕ) {f g : ℕ → ℕ} (s s' : Machine) → remaining s ≡ n → Separate s → Alike f g s s' →
      remaining s' ≡ n
  remaining_same zero {f} s s' e S A = go (oldest s) refl
    where
      go : (o : Option ℕ) → oldest s ≡ o → remaining s' ≡ 0
      go None h = remaining_none s' (oldest-Alike S A ∙ ap (carried f) h)
      go (Some d) h = absurd (let x = remaining_some l u s d h in omega arith)
  remaining_same (suc n) {f} {g} s s' e S A = go (oldest s) refl (remaining_same n {f = f} {g = g})
    where
      go : (o : Option ℕ) → oldest s ≡ o →
          ((s s' : Machine) → remaining s ≡ n → Separate s → Alike f g s s' → remaining s' ≡ n) → remaining s' ≡ suc n
      go None h r = absurd (let x = remaining_none s h in omega arith)
      go (Some d) h r =
          let x = oldest_lives s d h in
          let p = remaining_some l u s d h in
          let q = remaining_some l u s' (f d) (oldest-Alike S A ∙ ap (carried f) h) in
          let z = r (freed l u d s) (freed l u (f d) s') (omega arith) (Separate-freed l u d s x S)
          (Alike-freed A l u d x) in
          omega arith

  pub remaining-Alike : {f g : ℕ → ℕ} (s s' : Machine) → Separate s → Alike f g s s' → remaining s' ≡ remaining s
  remaining-Alike s s' S A = remaining_same (remaining s) s s' refl S A

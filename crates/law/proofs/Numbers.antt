-- The messages of a process are numbered by its count: those not cancelled are below it, and those of a done event
-- begin at the count of its snapshot.
use Rattle.std.proofs.Common.{◌≡◌, ℕ, ◌+◌, ◌<◌, ◌≤◌, true, false, ◌⊎◌, List, [], ◌∷◌, map, length, ap, inl, inr, arith}
use Rattle.std.proofs.lemmas.List.{length-map}
use Rattle.model.specs.Meaning.{many}
use Rattle.sequential.proofs.Sends.{Numbered, applied-sends, length-listed}
use Rattle.sequential.specs.Events.{outside}
use Rattle.sequential.specs.declared.event.Event.{Event}
use Rattle.sequential.specs.declared.event.Outcome.{Outcome}
use Rattle.sequential.specs.declared.event.Process.{Process}
use Rattle.machine.specs.Calls.{World}
use Rattle.machine.specs.Machine.{Machine, process}
use Rattle.law.proofs.Invariant.{Chain, Origin, lives, flags, dones, events, snapshots, outcomes, sents, Kept, applying}
use Rattle.law.proofs.Invariant.Origin.{outer, settled, sent_by, owing}
use Rattle.law.proofs.Members.{In}

pub Chain-applied : (apply : Event → Process → Outcome) (event : ℕ → Event) (snapshot : ℕ → Process)
    (outcome : ℕ → Outcome) (q₀ : Process) (xs : List ℕ) (q : Process) → Chain apply event snapshot outcome q₀ xs q →
    (b : ℕ) → In b xs → outcome b ≡ apply (event b) (snapshot b)
Chain-applied apply event snapshot outcome q₀ [] q c b i = absurd i
Chain-applied apply event snapshot outcome q₀ (x ∷ xs) q c b (inl e) = rw e c.0
Chain-applied apply event snapshot outcome q₀ (x ∷ xs) q c b (inr i) =
    Chain-applied apply event snapshot outcome q₀ xs (snapshot x) c.2 b i

-- counts grow along a chain
pub Chain-counts : (apply : Event → Process → Outcome) (event : ℕ → Event) (snapshot : ℕ → Process)
    (outcome : ℕ → Outcome) (q₀ : Process) (xs : List ℕ) (q : Process) → Chain apply event snapshot outcome q₀ xs q →
    (q₀.count ≤ q.count) × ((d : ℕ) → In d xs → (snapshot d).count + many (outcome d).sends ≤ q.count)
Chain-counts apply event snapshot outcome q₀ [] q c =
    (let e = ap (λ (r : Process). r.count) c in omega arith, λ d i. absurd i)
Chain-counts apply event snapshot outcome q₀ (x ∷ xs) q c =
    more (Chain-counts apply event snapshot outcome q₀ xs (snapshot x) c.2)
  where
    more : (q₀.count ≤ (snapshot x).count) ×
        ((d : ℕ) → In d xs → (snapshot d).count + many (outcome d).sends ≤ (snapshot x).count) →
        (q₀.count ≤ q.count) × ((d : ℕ) → In d (x ∷ xs) → (snapshot d).count + many (outcome d).sends ≤ q.count)
    more (l, rest) = (let f = e in omega arith, below)
      where
        e : q.count ≡ (snapshot x).count + many (outcome x).sends
        e = ap (λ (r : Process). r.count) c.1

        below : (d : ℕ) → In d (x ∷ xs) → (snapshot d).count + many (outcome d).sends ≤ q.count
        below d (inl k) = rw k (let f = e in omega arith)
        below d (inr i) = let f = rest d i in let g = e in omega arith

pub Chain-lower : (apply : Event → Process → Outcome) (event : ℕ → Event) (snapshot : ℕ → Process)
    (outcome : ℕ → Outcome) (q₀ : Process) (xs : List ℕ) (q : Process) → Chain apply event snapshot outcome q₀ xs q →
    (d : ℕ) → In d xs → q₀.count ≤ (snapshot d).count
Chain-lower apply event snapshot outcome q₀ [] q c d i = absurd i
Chain-lower apply event snapshot outcome q₀ (x ∷ xs) q c d (inl e) =
    rw e (Chain-counts apply event snapshot outcome q₀ xs (snapshot x) c.2).0
Chain-lower apply event snapshot outcome q₀ (x ∷ xs) q c d (inr i) =
    Chain-lower apply event snapshot outcome q₀ xs (snapshot x) c.2 d i

pub Numbered-in : (event : ℕ → Event) (bs : List ℕ) (n : ℕ) → Numbered n (map event bs) → (b : ℕ) → In b bs →
    (n ≤ (event b).number) × ((event b).number < n + length bs)
Numbered-in event [] n h b i = absurd i
Numbered-in event (c ∷ cs) n h b (inl e) = rw e (let k = h.0 in (omega arith, omega arith))
Numbered-in event (c ∷ cs) n h b (inr i) = let k = Numbered-in event cs (n + 1) h.1 b i in (omega arith, omega arith)

module _ (W : World) (base : ℕ → Process) (held : ℕ → List ℕ) where
  -- what a done event did is what it does at its snapshot
  pub done-applied : {owed : List ℕ} {s : Machine} → Kept W base held owed s → (d : ℕ) → dones s d ≡ true →
      outcomes s d ≡ applying W (events s d) (snapshots s d)
  done-applied {owed} {s} K d h =
      let p = (events s d).process in
      Chain-applied (applying W) (events s) (snapshots s) (outcomes s) (base p) (K.chained.past p) (process s p)
      (K.chained.chain p) d (K.chained.lists d h)

  sent_numbered : {owed : List ℕ} {s : Machine} → Kept W base held owed s → (d : ℕ) → dones s d ≡ true →
      Numbered (snapshots s d).count (map (events s) (sents s d))
  sent_numbered {owed} {s} K d h =
      rw (K.sending.events d h, done-applied K d h)
      (applied-sends W.model W.plan.limits (events s d) (snapshots s d)).numbered

  -- a message of a done event is numbered from its process's collected count on
  pub number_above : {owed : List ℕ} {s : Machine} → Kept W base held owed s → (d : ℕ) → dones s d ≡ true → (b : ℕ) →
      In b (sents s d) → (base (events s d).process).count ≤ (events s b).number
  number_above {owed} {s} K d h b i =
      let p = (events s d).process in
      let m = Chain-lower (applying W) (events s) (snapshots s) (outcomes s) (base p) (K.chained.past p) (process s p)
      (K.chained.chain p) d (K.chained.lists d h) in
      let k = (Numbered-in (events s) (sents s d) (snapshots s d).count (sent_numbered K d h) b i).0 in omega arith

  pub base_below : {owed : List ℕ} {s : Machine} → Kept W base held owed s → (p : ℕ) →
      (base p).count ≤ (process s p).count
  base_below {owed} {s} K p =
      (Chain-counts (applying W) (events s) (snapshots s) (outcomes s) (base p) (K.chained.past p) (process s p)
      (K.chained.chain p)).0

  -- a message of a process that is not cancelled and not owed is numbered below the process's count
  pub number_below : {owed : List ℕ} {s : Machine} → Kept W base held owed s → (b : ℕ) → lives s b ≡ true →
      flags s b ≡ false → ((events s b).sender ≡ outside → ⊥) →
      ((events s b).number < (process s (events s b).sender).count) ⊎ In b owed
  number_below {owed} {s} K b l g n = go (K.sending.origin b l g)
    where
      counts : (p : ℕ) → ((base p).count ≤ (process s p).count) ×
          ((d : ℕ) → In d (K.chained.past p) → (snapshots s d).count + many (outcomes s d).sends ≤ (process s p).count)
      counts p =
          Chain-counts (applying W) (events s) (snapshots s) (outcomes s) (base p) (K.chained.past p) (process s p)
          (K.chained.chain p)

      go : Origin (dones s) (events s) (sents s) base s.posted owed b →
          ((events s b).number < (process s (events s b).sender).count) ⊎ In b owed
      go (outer e k) = absurd (n e)
      go (settled m k) = inl (let c = (counts (events s b).sender).0 in omega arith)
      go (owing i) = inr i
      go (sent_by d h e i) = inl (rw (← e) (
          let k = (Numbered-in (events s) (sents s d) (snapshots s d).count (sent_numbered K d h) b i).1 in
          let m = (counts (events s d).process).1 d (K.chained.lists d h) in
          let j = ap length (K.sending.events d h) in let l = length-listed (outcomes s d).sends in
          let j' = length-map (sents s d) (events s) in omega arith))

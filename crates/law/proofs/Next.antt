-- What a collection takes next is what the sequential run writes next. The least done event earlier than GVT waits in
-- the run too, since its sender's event is collected; and whatever waited before it would be earlier than GVT, so done,
-- so not before it.
-- Its snapshot is where the run has its process, so it does there what it did here.
use Rattle.std.proofs.Common.{◌≡◌, ℕ, ◌<◌, ◌≤◌, Bool, true, false, List, [], ◌∷◌, map, length, get_or, Some, sym, refl}
use Rattle.std.proofs.Common.{ap, ◌∙◌, inl, inr, arith}
use Rattle.std.proofs.lemmas.List.{get_or-set_same, get_or-set_other, length-set}
use Rattle.std.proofs.lemmas.Bool.{cases_Bool, cases_eq, both_ways, true≢false}
use Rattle.model.specs.Meaning.{listed}
use Rattle.pool.specs.Lanes.{Lanes}
use Rattle.sequential.proofs.Keys.{SameKey, SameKey-sym, earlier_irreflexive, earlier_time}
use Rattle.sequential.proofs.Sends.{Numbered, applied-sends}
use Rattle.sequential.proofs.Waits.{Among, Ascending, Numbered-distinct, queued_all_from, queued_all_in}
use Rattle.sequential.proofs.Waits.{queued_all_ascending, Ascending-head}
use Rattle.sequential.specs.Events.{earlier, nobody, process_after}
use Rattle.sequential.specs.Run.{queued_all, outcome, processes_after}
use Rattle.sequential.specs.declared.event.Event.{Event}
use Rattle.sequential.specs.declared.event.Process.{Process}
use Rattle.machine.specs.Calls.{World}
use Rattle.machine.specs.Machine.{Machine, at, freed, oldest, is_transit, is_pending, is_done}
use Rattle.machine.specs.declared.message.Phase.{Phase}
use Rattle.machine.specs.declared.message.Phase.TheVariants.{Free, Transit, Pending, Done}
use Rattle.law.specs.Law.{Proper}
use Rattle.law.proofs.Absorb.{none}
use Rattle.law.proofs.Collected.{onward, ripened, least, stands, begun, unsent, grows, settles, E, Kept-one}
use Rattle.law.proofs.Freed.{Empties}
use Rattle.law.proofs.Invariant.{is_live, lives, dones, flags, events, snapshots, outcomes, sents, Boxed, Keyed, Queue}
use Rattle.law.proofs.Invariant.{Origin, Active, Kept, Ready, Steady, applying}
use Rattle.law.proofs.Invariant.Origin.{outer, settled, sent_by, owing}
use Rattle.law.proofs.Members.{In}
use Rattle.law.proofs.Numbers.{number_above}
use Rattle.law.proofs.Picks.{done_lives}
use Rattle.law.proofs.Undo.{put_same, put_other}
use Rattle.law.proofs.Undone.{sent-fits}

-- ---- two messages that are not cancelled never have one key

queue_unique : (gone : ℕ → Bool) (event : ℕ → Event) (xs : List ℕ) → Queue gone event xs → (b c : ℕ) → In b xs →
    In c xs → gone b ≡ false → gone c ≡ false → SameKey (event b) (event c) → b ≡ c
queue_unique gone event [] q b c i j g h k = absurd i
queue_unique gone event (x ∷ xs) q b c (inl e) (inl e') g h k = e ∙ sym e'
queue_unique gone event (x ∷ xs) q b c (inl e) (inr j) g h k = absurd (q.0 (rw e at g) c j (rw e at k))
queue_unique gone event (x ∷ xs) q b c (inr i) (inl e) g h k = absurd (q.0 (rw e at h) b i (SameKey-sym (rw e at k)))
queue_unique gone event (x ∷ xs) q b c (inr i) (inr j) g h k = queue_unique gone event xs q.1 b c i j g h k

pub key_unique : {home : ℕ → ℕ} {live moving gone : ℕ → Bool} {event : ℕ → Event} {box : ℕ → List ℕ} →
    Boxed home live moving gone event box → Keyed live moving gone event box →
    (b c : ℕ) → live b ≡ true → live c ≡ true → gone b ≡ false → gone c ≡ false → SameKey (event b) (event c) → b ≡ c
key_unique {home} {live} {moving} {gone} {event} {box} B K b c l m g h k = elim (cases_Bool (moving b)) [
  | inl t ↦ elim (cases_Bool (moving c)) [
    | inl t' ↦
        queue_unique gone event (box (home (event b).process)) (K.queues _) b c (B.reached b (inl t))
        (rw (ap home (sym k.process)) at (B.reached c (inl t'))) g h k
    | inr f ↦ absurd (K.arriving b c t m f h k)
  ]
  | inr f ↦
      elim (cases_Bool (moving c)) [
        | inl t ↦ absurd (K.arriving c b t l f g (SameKey-sym k))
        | inr f' ↦
            K.arrived b c l f m f' k
      ]
]

-- ---- what waits

Among-map : (event : ℕ → Event) (bs : List ℕ) (e : Event) → Among e (map event bs) → (b : ℕ) × In b bs × (event b ≡ e)
Among-map event [] e i = absurd i
Among-map event (b ∷ bs) e (inl k) = (b, inl refl, sym k)
Among-map event (b ∷ bs) e (inr i) = let r = Among-map event bs e i in (r.0, inr r.1, r.2)

map_among : (event : ℕ → Event) (bs : List ℕ) (b : ℕ) → In b bs → Among (event b) (map event bs)
map_among event [] b i = absurd i
map_among event (c ∷ cs) b (inl k) = inl (ap event k)
map_among event (c ∷ cs) b (inr i) = inr (map_among event cs b i)

pub record Waiting (base : ℕ → Process) (live gone : ℕ → Bool) (event : ℕ → Event) (ws : List Event) : Type 0 where
  pub sorted : Ascending ws
  pub there : (b : ℕ) → live b ≡ true → gone b ≡ false → Ready base (event b) → Among (event b) ws
  pub held : (e : Event) → Among e ws → (b : ℕ) × (live b ≡ true) × (gone b ≡ false) × (event b ≡ e) × Ready base e

pub Waiting-Steady : {base : ℕ → Process} {s s' : Machine} {ws : List Event} → Steady base s s' →
    Waiting base (lives s) (flags s) (events s) ws → Waiting base (lives s') (flags s') (events s') ws
Waiting-Steady {base} {s} {s'} {ws} X T = record {
  sorted = T.sorted;
  there = λ b l g r. let k = X.comes b l g r in rw k.2 (T.there b k.0 k.1 (rw k.2 at r));
  held = λ e i. let h = T.held e i in let k = X.stays h.0 h.1 h.2 (rw h.3 h.4) in (h.0, k.0, k.1, k.2 ∙ h.3, h.4);
}

-- the processes of the sequential run
pub record Stands (base : ℕ → Process) (ps : List Process) : Type 0 where
  pub many : length ps ≡ 32
  pub are : (p : ℕ) → get_or ps p nobody ≡ base p

pub live_done : (p : Phase) → is_live p ≡ true → (is_transit p ≡ true → ⊥) → (is_pending p ≡ true → ⊥) →
    is_done p ≡ true
live_done Free l t n = absurd (true≢false (sym l))
live_done Transit l t n = absurd (t refl)
live_done Pending l t n = absurd (n refl)
live_done Done l t n = refl

SameKey-refl : {e f : Event} → e ≡ f → SameKey e f
SameKey-refl k = record {
  time = ap (λ (x : Event). x.time) k;
  process = ap (λ (x : Event). x.process) k;
  sender = ap (λ (x : Event). x.sender) k;
  number = ap (λ (x : Event). x.number) k;
}

module _ (W : World) (P : Proper W) (base : ℕ → Process) (l : Lanes) (d : ℕ) (s : Machine) (K : Kept W base none [] s)
    (is : oldest s ≡ Some d) (ws : List Event) (T : Waiting base (lives s) (flags s) (events s) ws) where
  did : dones s d ≡ true
  did = (ripened W P base l d s K is).0

  live_d : lives s d ≡ true
  live_d = done_lives s d did

  stands_d : flags s d ≡ false
  stands_d = stands W P base l d s K is

  ready : Ready base (events s d)
  ready = go (K.sending.origin d live_d stands_d)
    where
      go : Origin (dones s) (events s) (sents s) base s.posted [] d → Ready base (events s d)
      go (outer e n) = inl e
      go (settled m n) = inr (m, n)
      go (owing i) = absurd i
      go (sent_by c h e i) = absurd (unsent W P base l d s K is c h i)

  -- nothing that waits is earlier: it would be done
  none_earlier : (f : Event) → Among f ws → earlier f (events s d) ≡ false
  none_earlier f i = go (T.held f i)
    where
      go : (b : ℕ) × (lives s b ≡ true) × (flags s b ≡ false) × (events s b ≡ f) × Ready base f →
          earlier f (events s d) ≡ false
      go (b, h, g, e, _) = elim (cases_Bool (earlier f (events s d))) [
        | inr n ↦ n
        | inl t ↦
            (let early : (events s b).time < s.gvt =
            (let u = earlier_time f (events s d) t in let v = (ripened W P base l d s K is).1 in
            let q = ap (λ (x : Event). x.time) e in omega arith) in
            rw e at (least W P base l d s K is b (live_done (at s b).phase h
            (λ m. let c = (K.timed.covers b (Active.moves m)).low in omega arith)
            (λ m. let c = (K.timed.covers b (Active.waits m)).low in omega arith))))
      ]

  pub head : (ws' : List Event) × (ws ≡ events s d ∷ ws')
  head = Ascending-head (events s d) ws T.sorted (T.there d live_d stands_d ready) none_earlier

  numbered : Numbered (snapshots s d).count (listed (outcomes s d).sends)
  numbered =
      rw (begun W P base l d s K is).0 (applied-sends W.model W.plan.limits (events s d) (snapshots s d)).numbered

  sorted_ws : Ascending (events s d ∷ head.0)
  sorted_ws = rw head.1 at T.sorted

  -- a message of the event, as a buffer
  sent_as : (e : Event) → Among e (listed (outcomes s d).sends) → (b : ℕ) × In b (sents s d) × (events s b ≡ e)
  sent_as e i = Among-map (events s) (sents s d) e (rw (K.sending.events d did) i)

  was_held : (e : Event) → Among e head.0 →
      (b : ℕ) × (lives s b ≡ true) × (flags s b ≡ false) × (events s b ≡ e) × Ready base e
  was_held e i = T.held e (rw head.1 (inr i))

  sender : (b : ℕ) → In b (sents s d) → (events s b).sender ≡ (events s d).process
  sender b i = (sent-fits W P base none K d did b i).sender

  -- what waited is not what the event has just sent
  not_sent : (e f : Event) → Among e (listed (outcomes s d).sends) → Among f head.0 → SameKey e f → ⊥
  not_sent e f i j k = go (sent_as e i) (was_held f j)
    where
      go : (b : ℕ) × In b (sents s d) × (events s b ≡ e) →
          (b : ℕ) × (lives s b ≡ true) × (flags s b ≡ false) × (events s b ≡ f) × Ready base f → ⊥
      go (b, h, q) (c, m, g, r, R) =
          elim same_ready [
            | inl o ↦ (settles W P base l d s K is b h).0 o
            | inr o ↦
                (let u = number_above W base none K d did b h in
                let v : (events s b).number < (base (events s d).process).count = rw (sender b h) at o.1 in omega arith)
          ]
        where
          same_key : SameKey (events s b) (events s c)
          same_key = rw (q, r) k

          b≡c : b ≡ c
          b≡c =
              key_unique K.boxed K.keyed b c (K.sending.lasting d b did h).0 m
              (K.sending.lasting d b did h).1 g same_key

          same_ready : Ready base (events s b)
          same_ready = rw (ap (events s) b≡c ∙ r) R

  s' : Machine
  s' = freed l W.plan d s

  base' : ℕ → Process
  base' = onward base s d

  K₁ : Kept W base' none [] s'
  unfolding s' base'
  K₁ = Kept-one W P base l d s K is

  E₁ : Empties s s' d
  unfolding s'
  E₁ = E W P base l d s K is

  -- a message that was not collected and is not of the event is no more ready than before
  not_ready : (c b : ℕ) → dones s c ≡ true → (c ≡ d → ⊥) → (b ≡ d → ⊥) → In b (sents s c) →
      (events s c).process ≡ (events s b).sender → Ready base' (events s b) → ⊥
  unfolding s'
  not_ready c b h n m i e r = elim r [
    | inl o ↦ (let f = (K.fit.fits c (done_lives s c h)).process in let z = P.sized.1 in omega arith)
    | inr o ↦
        (let u : (base' (events s c).process).count ≤ (events s b).number =
        rw (E₁.event_others c n, E₁.event_others b m) at (number_above W base' none K₁ c (E₁.did_others c n ∙ h) b
        (rw (E₁.sent_others c n) i)) in
        let v : (events s b).number < (base' (events s c).process).count = rw (← e) at o.1 in omega arith)
  ]

  there' : (b : ℕ) → lives s' b ≡ true → flags s' b ≡ false → Ready base' (events s' b) →
      Among (events s' b) (queued_all (listed (outcomes s d).sends) head.0)
  unfolding s'
  there' b h g r = rw ev (go (K.sending.origin b h₀ g₀) (rw ev at r))
    where
      n : b ≡ d → ⊥
      n e = both_ways _ E₁.dead (rw e at h)

      ev : events s' b ≡ events s b
      ev = E₁.event_others b n

      h₀ : lives s b ≡ true
      h₀ = sym (E₁.live_others b n) ∙ h

      g₀ : flags s b ≡ false
      g₀ = sym (E₁.gone_others b n) ∙ g

      waited : Ready base (events s b) → Among (events s b) (queued_all (listed (outcomes s d).sends) head.0)
      waited q = let i : Among (events s b) (events s d ∷ head.0) = rw head.1 at (T.there b h₀ g₀ q) in elim i [
        | inl k ↦ absurd (n (key_unique K.boxed K.keyed b d h₀ live_d g₀ stands_d (SameKey-refl k)))
        | inr j ↦ queued_all_in (events s b) (listed (outcomes s d).sends) head.0 (inr j)
      ]

      go : Origin (dones s) (events s) (sents s) base s.posted [] b → Ready base' (events s b) →
          Among (events s b) (queued_all (listed (outcomes s d).sends) head.0)
      go (outer e k) q = waited (inl e)
      go (settled m k) q = waited (inr (m, k))
      go (owing i) q = absurd i
      go (sent_by c k e i) q = elim (cases_eq c d) [
        | inl z ↦
            queued_all_in (events s b) (listed (outcomes s d).sends) head.0
            (inl (rw (K.sending.events d did) at (map_among (events s) (sents s d) b (rw z at i))))
        | inr z ↦ absurd (not_ready c b k z n i e q)
      ]

  held' : (e : Event) → Among e (queued_all (listed (outcomes s d).sends) head.0) →
      (b : ℕ) × (lives s' b ≡ true) × (flags s' b ≡ false) × (events s' b ≡ e) × Ready base' e
  unfolding s' base'
  held' e i =
      elim (queued_all_from e (listed (outcomes s d).sends) head.0 i) [
        | inl j ↦ new (sent_as e j)
        | inr j ↦
            old (was_held e j)
            (λ k. both_ways _ (earlier_irreflexive (events s d) e (SameKey-refl k)) (sorted_ws.0 e j))
      ]
    where
      new : (b : ℕ) × In b (sents s d) × (events s b ≡ e) →
          (b : ℕ) × (lives s' b ≡ true) × (flags s' b ≡ false) × (events s' b ≡ e) × Ready base' e
      new (b, h, q) = (
        b,
        E₁.live_others b n ∙ (K.sending.lasting d b did h).0,
        E₁.gone_others b n ∙
            (K.sending.lasting d b did h).1,
        E₁.event_others b n ∙ q,
        rw q at r,
      )
        where
          n : b ≡ d → ⊥
          n k = unsent W P base l d s K is d did (rw k at h)

          r : Ready base' (events s b)
          r = inr (settles W P base l d s K is b h)

      old : (b : ℕ) × (lives s b ≡ true) × (flags s b ≡ false) × (events s b ≡ e) × Ready base e →
          (events s d ≡ e → ⊥) → (b : ℕ) × (lives s' b ≡ true) × (flags s' b ≡ false) × (events s' b ≡ e) ×
          Ready base' e
      old (b, h, g, q, r) z = (
        b,
        E₁.live_others b n ∙ h,
        E₁.gone_others b n ∙ g,
        E₁.event_others b n ∙ q,
        elim r [
          | inl o ↦ inl o
          | inr o ↦
              inr (o.0, let u = grows W P base l d s K is e.sender in let v = o.1 in omega arith)
        ],
      )
        where
          n : b ≡ d → ⊥
          n k = z (rw k at q)

  -- after the event is collected, what waits is what the sequential run has waiting after it
  pub Waiting-one : Waiting (onward base s d) (lives (freed l W.plan d s)) (flags (freed l W.plan d s))
      (events (freed l W.plan d s)) (queued_all (listed (outcomes s d).sends) head.0)
  unfolding s' base'
  Waiting-one = record {
    sorted =
        queued_all_ascending (listed (outcomes s d).sends) head.0
        (Numbered-distinct (snapshots s d).count (listed (outcomes s d).sends) numbered) not_sent sorted_ws.1;
    there = there';
    held = held';
  }

  module _ (ps : List Process) (S : Stands base ps) where
    begins : get_or ps (events s d).process nobody ≡ snapshots s d
    begins = S.are (events s d).process ∙ sym (begun W P base l d s K is).1

    -- the run's next event does what it did here
    pub outcome_one : outcome W.model W.plan.limits ps (events s d) ≡ outcomes s d
    outcome_one = ap (λ (q : Process). applying W (events s d) q) begins ∙ sym (begun W P base l d s K is).0

    pub Stands-one : Stands (onward base s d) (processes_after ps (events s d) (outcomes s d))
    Stands-one = record { many = length-set ps (events s d).process _ ∙ S.many; are = are' }
      where
        are' : (p : ℕ) → get_or (processes_after ps (events s d) (outcomes s d)) p nobody ≡ onward base s d p
        are' p = elim (cases_eq p (events s d).process) [
          | inl e ↦
              rw (
                e,
                put_same base (events s d).process (process_after (outcomes s d) (snapshots s d))
                    (events s d).process refl,
              )
              (get_or-set_same ps (events s d).process _ nobody
              (let f = (K.fit.fits d live_d).process in let i = P.sized.1 in let j = S.many in omega arith) ∙
              ap (λ (q : Process). process_after (outcomes s d) q) begins)
          | inr n ↦
              get_or-set_other ps (events s d).process p _ nobody n ∙
              (S.are p ∙ sym (put_other base (events s d).process (process_after (outcomes s d) (snapshots s d)) p n))
        ]

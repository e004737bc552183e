-- What every machine of a run keeps, over its parts as functions of the buffer, the worker or the process.
-- Each record reads only the parts that it names, so a call that leaves those alone keeps it by a path.
use Rattle.std.proofs.Common.{◌≡◌, ℕ, ◌<◌, ◌≤◌, Bool, true, false, ◌⊎◌, List, [], ◌∷◌, ◌++◌, map, length, Some, None}
use Rattle.std.proofs.Common.{Option, sym, refl, inl, inr, arith}
use Rattle.std.proofs.lemmas.Bool.{true≢false}
use Rattle.model.specs.Meaning.{listed}
use Rattle.pool.specs.Lanes.{place_at}
use Rattle.pool.specs.declared.place.Place.{Place}
use Rattle.pool.specs.declared.place.Place.TheVariants.{Out}
use Rattle.sequential.proofs.Keys.{SameKey}
use Rattle.sequential.specs.Events.{outside, earlier, applied, process_after}
use Rattle.sequential.specs.declared.event.Event.{Event}
use Rattle.sequential.specs.declared.event.Outcome.{Outcome}
use Rattle.sequential.specs.declared.event.Process.{Process}
use Rattle.machine.specs.Calls.{World}
use Rattle.machine.specs.Machine.{Machine, is_transit, is_pending, is_done, at, worker, process, home}
use Rattle.machine.specs.declared.message.Message.{Message}
use Rattle.machine.specs.declared.message.Phase.{Phase}
use Rattle.machine.specs.declared.message.Phase.TheVariants.{Free, Transit, Pending, Done}
use Rattle.law.proofs.Members.{In, Apart}

abbrev pub is_live : Phase → Bool
is_live Free = false
is_live Transit = true
is_live Pending = true
is_live Done = true

pub is_transit_lem : (p : Phase) → is_transit p ≡ true → p ≡ Transit
is_transit_lem Free h = absurd (true≢false (sym h))
is_transit_lem Transit h = refl
is_transit_lem Pending h = absurd (true≢false (sym h))
is_transit_lem Done h = absurd (true≢false (sym h))

pub is_pending_lem : (p : Phase) → is_pending p ≡ true → p ≡ Pending
is_pending_lem Free h = absurd (true≢false (sym h))
is_pending_lem Transit h = absurd (true≢false (sym h))
is_pending_lem Pending h = refl
is_pending_lem Done h = absurd (true≢false (sym h))

pub is_done_lem : (p : Phase) → is_done p ≡ true → p ≡ Done
is_done_lem Free h = absurd (true≢false (sym h))
is_done_lem Transit h = absurd (true≢false (sym h))
is_done_lem Pending h = absurd (true≢false (sym h))
is_done_lem Done h = refl

-- ---- the parts of a machine

abbrev pub parts : {B : Type 0} → (Message → B) → Machine → ℕ → B
parts f s b = f (at s b)

abbrev pub lives : Machine → ℕ → Bool
lives s b = is_live (at s b).phase

abbrev pub transits : Machine → ℕ → Bool
transits s b = is_transit (at s b).phase

abbrev pub pendings : Machine → ℕ → Bool
pendings s b = is_pending (at s b).phase

abbrev pub dones : Machine → ℕ → Bool
dones s b = is_done (at s b).phase

abbrev pub flags : Machine → ℕ → Bool
flags s b = (at s b).cancelled

abbrev pub events : Machine → ℕ → Event
events s b = (at s b).event

abbrev pub snapshots : Machine → ℕ → Process
snapshots s b = (at s b).snapshot

abbrev pub outcomes : Machine → ℕ → Outcome
outcomes s b = (at s b).outcome

abbrev pub sents : Machine → ℕ → List ℕ
sents s b = listed (at s b).sent

-- the inbox of each worker behind what the worker has taken out and not yet dealt with
abbrev pub boxes : (ℕ → List ℕ) → Machine → ℕ → List ℕ
boxes held s w = held w ++ (worker s w).inbox

abbrev pub floors : Machine → ℕ → ℕ
floors s w = (worker s w).floor

abbrev pub reports : Machine → ℕ → Option ℕ
reports s w = (worker s w).report

-- a worker has reported, or it has not
pub cases_told : (o : Option ℕ) → (o ≡ None) ⊎ (o ≡ None → ⊥)
cases_told None = inl refl
cases_told (Some t) = inr (λ e. grind arith)

-- ---- inboxes

-- what stands in an inbox is in transit or cancelled, at its receiver's worker, once, and the other way round
pub record Boxed (home : ℕ → ℕ) (live moving gone : ℕ → Bool) (event : ℕ → Event) (box : ℕ → List ℕ) : Type 0 where
  pub moves : (b : ℕ) → moving b ≡ true → live b ≡ true
  pub ends : (b : ℕ) → gone b ≡ true → live b ≡ true
  pub due : (w b : ℕ) → In b (box w) → (moving b ≡ true) ⊎ (gone b ≡ true)
  pub homed : (w b : ℕ) → In b (box w) → home (event b).process ≡ w
  pub once : (w : ℕ) → Apart (box w)
  pub reached : (b : ℕ) → (moving b ≡ true) ⊎ (gone b ≡ true) → In b (box (home (event b).process))

-- ---- keys

-- behind a message that is not cancelled, none has its key
abbrev pub Queue : (ℕ → Bool) → (ℕ → Event) → List ℕ → Type 0
Queue gone event [] = Unit {0}
Queue gone event (b ∷ bs) = (gone b ≡ false → (c : ℕ) → In c bs → SameKey (event b) (event c) → ⊥) × Queue gone event bs

pub record Keyed (live moving gone : ℕ → Bool) (event : ℕ → Event) (box : ℕ → List ℕ) : Type 0 where
  pub queues : (w : ℕ) → Queue gone event (box w)
  pub arriving : (b c : ℕ) → moving b ≡ true → live c ≡ true → moving c ≡ false → gone c ≡ false →
      SameKey (event b) (event c) → ⊥
  pub arrived : (b c : ℕ) → live b ≡ true → moving b ≡ false → live c ≡ true → moving c ≡ false →
      SameKey (event b) (event c) → b ≡ c

-- ---- what was done

-- strictly latest first
abbrev pub Latest : (ℕ → Event) → List ℕ → Type 0
Latest event [] = Unit {0}
Latest event (b ∷ bs) = ((c : ℕ) → In c bs → earlier (event c) (event b) ≡ true) × Latest event bs

-- from q₀ the events bs, latest first, lead to q, each applied to its snapshot
abbrev pub Chain : (Event → Process → Outcome) → (ℕ → Event) → (ℕ → Process) → (ℕ → Outcome) → Process → List ℕ →
    Process → Type 0
Chain apply event snapshot outcome q₀ [] q = q ≡ q₀
Chain apply event snapshot outcome q₀ (b ∷ bs) q =
    (outcome b ≡ apply (event b) (snapshot b)) × (q ≡ process_after (outcome b) (snapshot b)) ×
    Chain apply event snapshot outcome q₀ bs (snapshot b)

pub record Chained (apply : Event → Process → Outcome) (cap : ℕ) (waiting did : ℕ → Bool) (event : ℕ → Event)
    (snapshot : ℕ → Process) (outcome : ℕ → Outcome) (now base : ℕ → Process) : Type 0 where
  pub past : ℕ → List ℕ
  pub only : (p b : ℕ) → In b (past p) → (did b ≡ true) × ((event b).process ≡ p)
  pub lists : (b : ℕ) → did b ≡ true → In b (past (event b).process)
  pub latest : (p : ℕ) → Latest event (past p)
  pub chain : (p : ℕ) → Chain apply event snapshot outcome (base p) (past p) (now p)
  pub capped : (p : ℕ) → (now p).count ≤ cap
  pub ahead : (d b : ℕ) → did d ≡ true → waiting b ≡ true → (event d).process ≡ (event b).process →
      earlier (event d) (event b) ≡ true

-- ---- what was sent

-- where a message that is not cancelled comes from; `owed`: those of an event that is being undone
pub data Origin (did : ℕ → Bool) (event : ℕ → Event) (sent : ℕ → List ℕ) (base : ℕ → Process) (posted : ℕ)
    (owed : List ℕ) (b : ℕ) : Type 0 where
  outer : (event b).sender ≡ outside → (event b).number < posted → Origin did event sent base posted owed b
  settled : ((event b).sender ≡ outside → ⊥) → (event b).number < (base (event b).sender).count →
      Origin did event sent base posted owed b
  sent_by : (d : ℕ) → did d ≡ true → (event d).process ≡ (event b).sender → In b (sent d) →
      Origin did event sent base posted owed b
  owing : In b owed → Origin did event sent base posted owed b

pub record Sending (live gone did : ℕ → Bool) (event : ℕ → Event) (outcome : ℕ → Outcome) (sent : ℕ → List ℕ)
    (base : ℕ → Process) (posted : ℕ) (owed : List ℕ) : Type 0 where
  pub events : (d : ℕ) → did d ≡ true → map event (sent d) ≡ listed (outcome d).sends
  pub lasting : (d b : ℕ) → did d ≡ true → In b (sent d) → (live b ≡ true) × (gone b ≡ false)
  pub once : (d : ℕ) → did d ≡ true → Apart (sent d)
  pub parted : (d d' b : ℕ) → did d ≡ true → did d' ≡ true → In b (sent d) → In b (sent d') → d ≡ d'
  pub owed_once : Apart owed
  pub owed_lasting : (b : ℕ) → In b owed → (live b ≡ true) × (gone b ≡ false)
  pub owed_inner : (b : ℕ) → In b owed → (event b).sender ≡ outside → ⊥
  pub owed_parted : (d b : ℕ) → did d ≡ true → In b owed → In b (sent d) → ⊥
  pub origin : (b : ℕ) → live b ≡ true → gone b ≡ false → Origin did event sent base posted owed b
  pub outer_stays : (b : ℕ) → (event b).sender ≡ outside → gone b ≡ false

-- ---- GVT

pub data Active (moving waiting gone : ℕ → Bool) (b : ℕ) : Type 0 where
  moves : moving b ≡ true → Active moving waiting gone b
  waits : waiting b ≡ true → Active moving waiting gone b
  ends : gone b ≡ true → Active moving waiting gone b

-- x is no later than the outside floor, the reports given and the floors of the workers that have not reported
pub record Bound (workers floor : ℕ) (floors : ℕ → ℕ) (reports : ℕ → Option ℕ) (x : ℕ) : Type 0 where
  pub outer : x ≤ floor
  pub told : (v r : ℕ) → v < workers → reports v ≡ Some r → x ≤ r
  pub untold : (v : ℕ) → v < workers → reports v ≡ None → x ≤ floors v

-- a worker that has reported may make a message of the time t active
pub record Covered (workers floor : ℕ) (floors : ℕ → ℕ) (reports : ℕ → Option ℕ) (rounding : Bool)
    (gvt w t : ℕ) : Type 0 where
  pub low : gvt ≤ t
  pub bound : rounding ≡ true → (reports w ≡ None → ⊥) → (x : ℕ) → Bound workers floor floors reports x → x ≤ t

pub record Timed (home : ℕ → ℕ) (workers : ℕ) (moving waiting gone : ℕ → Bool) (event : ℕ → Event) (floor : ℕ)
    (floors : ℕ → ℕ) (reports : ℕ → Option ℕ) (rounding : Bool) (gvt : ℕ) : Type 0 where
  pub lowest : rounding ≡ true → Bound workers floor floors reports gvt
  pub covers : (b : ℕ) → Active moving waiting gone b →
      Covered workers floor floors reports rounding gvt (home (event b).process) (event b).time

-- ---- the whole

pub record Sized (s : Machine) : Type 0 where
  pub messages : length s.messages ≡ 256
  pub places : length s.places ≡ 256
  pub workers : length s.workers ≡ 8
  pub processes : length s.processes ≡ 32

-- a message that is there fits the world
pub record Fitting (size end : ℕ) (e : Event) : Type 0 where
  pub process : e.process < size
  pub sender : (e.sender ≡ outside) ⊎ (e.sender < size)
  pub time : e.time < end

pub record Fit (size end : ℕ) (live : ℕ → Bool) (event : ℕ → Event) : Type 0 where
  pub fits : (b : ℕ) → live b ≡ true → Fitting size end (event b)

-- neither GVT nor the outside floor passes the end
pub record Ended (end gvt floor : ℕ) : Type 0 where
  pub gvt_ends : gvt ≤ end
  pub floor_ends : floor ≤ end

-- a buffer is out exactly where it is not empty
pub record Placed (live : ℕ → Bool) (place : ℕ → Place) : Type 0 where
  pub out : (b : ℕ) → live b ≡ true → place b ≡ Out
  pub rests : (b : ℕ) → live b ≡ false → b < 256 → place b ≡ Out → ⊥

abbrev pub applying : World → Event → Process → Outcome
applying W e q = applied W.model W.plan.limits e q

-- `base`: each process after its collected events; `held`: what a worker has in hand; `owed`: what an undoing has yet
-- to cancel
pub record Kept (W : World) (base : ℕ → Process) (held : ℕ → List ℕ) (owed : List ℕ) (s : Machine) : Type 0 where
  pub sized : Sized s
  pub ended : Ended W.plan.limits.end s.gvt s.floor
  pub fit : Fit W.model.size W.plan.limits.end (lives s) (events s)
  pub placed : Placed (lives s) (place_at s.places)
  pub boxed : Boxed (home W.plan) (lives s) (transits s) (flags s) (events s) (boxes held s)
  pub keyed : Keyed (lives s) (transits s) (flags s) (events s) (boxes held s)
  pub chained : Chained (applying W) W.plan.limits.most (pendings s) (dones s) (events s) (snapshots s) (outcomes s)
      (process s) base
  pub sending : Sending (lives s) (flags s) (dones s) (events s) (outcomes s) (sents s) base s.posted owed
  pub timed : Timed (home W.plan) W.plan.workers (transits s) (pendings s) (flags s) (events s) s.floor (floors s)
      (reports s) s.rounding s.gvt

-- ---- what the sequential run has waiting

-- e comes from outside or from a collected event
abbrev pub Ready : (ℕ → Process) → Event → Type 0
Ready base e = (e.sender ≡ outside) ⊎ ((e.sender ≡ outside → ⊥) × (e.number < (base e.sender).count))

-- the same messages that are ready and not cancelled are in both machines, GVT does not fall, and nothing was posted
pub record Steady (base : ℕ → Process) (s s' : Machine) : Type 0 where
  pub stays : (b : ℕ) → lives s b ≡ true → flags s b ≡ false → Ready base (events s b) →
      (lives s' b ≡ true) × (flags s' b ≡ false) × (events s' b ≡ events s b)
  pub comes : (b : ℕ) → lives s' b ≡ true → flags s' b ≡ false → Ready base (events s' b) →
      (lives s b ≡ true) × (flags s b ≡ false) × (events s' b ≡ events s b)
  pub gvt : s.gvt ≤ s'.gvt
  pub posted : s'.posted ≡ s.posted

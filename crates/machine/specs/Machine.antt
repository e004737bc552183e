-- The Time Warp machine: processes, messages by their buffers, workers, the pool's places, and what becomes of them.
use Rattle.std.specs.Prelude.{ℕ, zero, suc, ◌+◌, min, Bool, true, false, if◌then◌else◌, not, ◌&&◌, List, [], ◌∷◌}
use Rattle.std.specs.Prelude.{map, slice_index_or, replicate, Some, None, Option, ◌==◌, nat_lt, slice_index}
use Rattle.std.specs.Prelude.{slice_set}
use Rattle.model.specs.Formulas.{zeros}
use Rattle.model.specs.Meaning.{Meaning, listed, many}
use Rattle.model.specs.declared.reaction.Few.{Few}
use Rattle.model.specs.declared.reaction.Few.TheVariants.{Nothing, One, Two}
pub use Rattle.inbox.specs.declared.worker.Worker.{Worker}
pub use Rattle.inbox.specs.Queue.{entered, first, rest}
use Rattle.pool.specs.Lanes.{Lanes}
use Rattle.pool.specs.declared.place.Place.{Place}
use Rattle.pool.specs.declared.place.Place.TheVariants.{Out, Lane}
use Rattle.sequential.specs.Events.{earlier, applied, faulted, line_of, process_after, nobody, outside}
use Rattle.sequential.specs.Run.{fresh}
use Rattle.sequential.specs.declared.event.Event.{Event}
use Rattle.sequential.specs.declared.event.Line.{Line}
use Rattle.sequential.specs.declared.event.Outcome.{Outcome}
use Rattle.sequential.specs.declared.event.Process.{Process}
use Rattle.sequential.specs.declared.event.Verdict.TheVariants.{Fine}
use Rattle.machine.specs.declared.message.Message.{Message}
use Rattle.machine.specs.declared.message.Phase.{Phase}
use Rattle.machine.specs.declared.message.Phase.TheVariants.{Free, Transit, Pending, Done}
use Rattle.machine.specs.declared.plan.Plan.{Plan}

-- whether a message is on its way, waits to be applied, or has been
abbrev pub is_transit : Phase → Bool
is_transit Transit = true
is_transit _ = false

abbrev pub is_pending : Phase → Bool
is_pending Pending = true
is_pending _ = false

abbrev pub is_done : Phase → Bool
is_done Done = true
is_done _ = false

-- the whole machine; floor is that of the outside, rounding says that a round is open
pub record Machine : Type 0 where
  pub processes : List Process
  pub messages : List Message
  pub workers : List Worker
  pub places : List Place
  pub posted : ℕ
  pub floor : ℕ
  pub rounding : Bool
  pub gvt : ℕ

-- what stands where there is no event
abbrev pub no_event : Event
no_event = record { time = 0; process = 0; sender = 0; number = 0; payload = 0 }

-- a message that is not done, by its phase, whether it is cancelled, and its event
abbrev pub fresh_of : Phase → Bool → Event → Message
fresh_of p c e = record {
  phase = p;
  cancelled = c;
  event = e;
  snapshot = nobody;
  outcome = faulted Fine zeros;
  sent = Nothing;
}

-- a done one, with its process as it was before it, what it did, and the buffers of its messages
abbrev pub done_of : Bool → Event → Process → Outcome → Few ℕ → Message
done_of c e q o bs = record { phase = Done; cancelled = c; event = e; snapshot = q; outcome = o; sent = bs }

-- what a free buffer holds
abbrev pub blank : Message
blank = fresh_of Free false no_event

-- the worker that there is not
abbrev pub idle : Worker
idle = record { inbox = []; floor = 0; report = None }

-- the message in the buffer b, the worker w, the process p, and the worker that p lives on
abbrev pub at : Machine → ℕ → Message
at s b = slice_index_or s.messages b blank

abbrev pub worker : Machine → ℕ → Worker
worker s w = slice_index_or s.workers w idle

abbrev pub process : Machine → ℕ → Process
process s p = slice_index_or s.processes p nobody

abbrev pub home : Plan → ℕ → ℕ
home u p = slice_index u.home p

-- the machine with one part replaced
abbrev pub with_process : ℕ → Process → Machine → Machine
with_process p q s = record s { processes = slice_set s.processes p q }

abbrev pub with_message : ℕ → Message → Machine → Machine
with_message b m s = record s { messages = slice_set s.messages b m }

abbrev pub with_worker : ℕ → Worker → Machine → Machine
with_worker w x s = record s { workers = slice_set s.workers w x }

abbrev pub with_place : ℕ → Place → Machine → Machine
with_place b l s = record s { places = slice_set s.places b l }

-- the worker j changed
abbrev pub on_worker : ℕ → (Worker → Worker) → Machine → Machine
on_worker j f s = with_worker j (f (worker s j)) s

-- a worker with the buffer b behind its inbox, and one with its floor lowered to the time t
abbrev pub entering : ℕ → Worker → Worker
entering b x = record x { inbox = entered b x.inbox }

abbrev pub lowering : ℕ → Worker → Worker
lowering t x = record x { floor = min x.floor t }

-- a buffer enters the inbox of the worker j
unfoldable pub enter : ℕ → ℕ → Machine → Machine
enter j b s = on_worker j (entering b) s

-- the floor of the worker w is lowered to the time t
unfoldable pub lower : ℕ → ℕ → Machine → Machine
lower w t s = on_worker w (lowering t) s

-- of the messages that pass a test, the buffer of the one that comes first by an order
abbrev pub chosen : (Message → Bool) → (Event → Event → Bool) → List Message → ℕ → Option ℕ → Event → Option ℕ
chosen ok before [] i best e = best
chosen ok before (m ∷ ms) i None e =
    if ok m then chosen ok before ms (suc i) (Some i) m.event else chosen ok before ms (suc i) None e
chosen ok before (m ∷ ms) i (Some b) e =
    if ok m && before m.event e
    then chosen ok before ms (suc i) (Some i) m.event
    else chosen ok before ms (suc i) (Some b) e

-- of the machine's messages
unfoldable pub foremost : (Message → Bool) → (Event → Event → Bool) → Machine → Option ℕ
foremost ok before s = chosen ok before s.messages 0 None no_event

-- the order that a rollback goes by: latest first
abbrev pub later : Event → Event → Bool
later e f = earlier f e

-- the worker's pending event of least key
abbrev pub next : Plan → ℕ → Machine → Option ℕ
next u w s = foremost (λ m. is_pending m.phase && home u m.event.process == w) earlier s

-- the latest done event of a process that passes a test
abbrev pub latest : ℕ → (Event → Bool) → Machine → Option ℕ
latest p past s = foremost (λ m. is_done m.phase && (m.event.process == p && past m.event)) later s

-- the done event of least key earlier than GVT
abbrev pub oldest : Machine → Option ℕ
oldest s = foremost (λ m. is_done m.phase && nat_lt m.event.time s.gvt) earlier s

-- a message under cancellation, and one that is pending again or for the first time
abbrev pub marked : Message → Message
marked m = record m { cancelled = true }

abbrev pub pending_again : Message → Message
pending_again m = fresh_of Pending m.cancelled m.event

-- the worker w cancels the message in the buffer b: unless in transit, it enters its receiver's inbox as a notice
unfoldable pub cancelled : Plan → ℕ → ℕ → Machine → Machine
cancelled u w b s =
    let m = at s b in
    let s₁ = lower w m.event.time (with_message b (marked m) s) in
    if is_transit m.phase then s₁ else enter (home u m.event.process) b s₁

unfoldable pub cancelled_all : Plan → ℕ → List ℕ → Machine → Machine
cancelled_all u w [] s = s
cancelled_all u w (b ∷ bs) s = cancelled_all u w bs (cancelled u w b s)

-- the event in the buffer b is pending again, and its process as before it
abbrev pub restored : ℕ → Machine → Machine
restored b s =
    let m = at s b in
    with_message b (pending_again m) (with_process m.event.process m.snapshot s)

-- one event undone: its process as before it, its messages cancelled in sending order, itself pending
unfoldable pub undone : Plan → ℕ → ℕ → Machine → Machine
undone u w b s = cancelled_all u w (listed (at s b).sent) (restored b s)

-- what a rollback undoes: the events later than e, and e itself too where it goes through it
abbrev pub past : Bool → Event → Event → Bool
past true e f = not (earlier f e)
past false e f = earlier e f

-- a machine rolled back, how many events were undone, and how many messages were cancelled
pub record Rolled : Type 0 where
  pub machine : Machine
  pub undone : ℕ
  pub cancelled : ℕ

abbrev pub rolled_to : Machine → ℕ → ℕ → Rolled
rolled_to s m n = record { machine = s; undone = m; cancelled = n }

-- the done events of the process p that pass the test, undone latest first (at most k)
unfoldable pub rolled : ℕ → Plan → ℕ → ℕ → (Event → Bool) → Machine → Rolled
rolled zero u w p past s = record { machine = s; undone = 0; cancelled = 0 }
rolled (suc k) u w p past s = elim (latest p past s) [
  | None ↦ record { machine = s; undone = 0; cancelled = 0 }
  | Some b ↦
      let r = rolled k u w p past (undone u w b s) in
      record { machine = r.machine; undone = suc r.undone; cancelled = many (at s b).sent + r.cancelled }
]

-- all of them: no more than 256 messages are done
abbrev pub rollback : Plan → ℕ → ℕ → (Event → Bool) → Machine → Rolled
rollback u w p past s = rolled 256 u w p past s

-- the pair a message was drawn for
abbrev pub side : Plan → Event → ℕ
side u e = if e.sender == outside then 8 else home u e.sender

-- where the buffer of a message returns to
abbrev pub returned : Lanes → Plan → Event → Place
returned l u e = Lane (l.return (side u e) (home u e.process))

-- the buffer b is emptied and returns to the pool
unfoldable pub freed : Lanes → Plan → ℕ → Machine → Machine
freed l u b s = with_place b (returned l u (at s b).event) (with_message b blank s)

-- a machine that absorbed, how many messages were annihilated, and what was rolled back
pub record Absorption : Type 0 where
  pub machine : Machine
  pub annihilated : ℕ
  pub undone : ℕ
  pub cancelled : ℕ

abbrev pub absorbed_to : Machine → ℕ → ℕ → ℕ → Absorption
absorbed_to s a m n = record { machine = s; annihilated = a; undone = m; cancelled = n }

-- a message in transit, not cancelled, comes in
unfoldable pub arrived : Plan → ℕ → ℕ → Machine → Absorption
arrived u w b s =
    let m = at s b in
    let r = rollback u w m.event.process (past false m.event) s in
    absorbed_to (with_message b (pending_again m) r.machine) 0 r.undone r.cancelled

-- a cancelled message is annihilated; if it was done, its process is first rolled back through it
unfoldable pub annihilated : Lanes → Plan → ℕ → ℕ → Machine → Absorption
annihilated l u w b s =
    let m = at s b in
    let r = rollback u w m.event.process (past true m.event) s in
    if is_done m.phase
    then absorbed_to (freed l u b r.machine) 1 r.undone r.cancelled
    else absorbed_to (freed l u b s) 1 0 0

-- a worker without the oldest buffer of its inbox
abbrev pub leaving : Worker → Worker
leaving x = record x { inbox = rest x.inbox }

-- the oldest buffer leaves the inbox of the worker w
unfoldable pub popped : ℕ → Machine → Machine
popped w s = on_worker w leaving s

-- the worker's oldest buffer leaves its inbox, and its message is annihilated or comes in
unfoldable pub absorbed : Lanes → Plan → ℕ → Machine → Absorption
absorbed l u w s = elim (first (worker s w).inbox) [
  | None ↦ absorbed_to s 0 0 0
  | Some b ↦ if (at s b).cancelled then annihilated l u w b (popped w s) else arrived u w b (popped w s)
]

-- a worker at the opening of a round
abbrev pub clearing : ℕ → Worker → Worker
clearing end x = record { inbox = x.inbox; floor = end; report = None }

-- a round opens: every floor rises to the end, and no report is in
unfoldable pub opened : Plan → Machine → Machine
opened u s = record s { workers = map (clearing u.limits.end) s.workers; floor = u.limits.end; rounding = true }

-- the least of t and the times of the messages that pass a test
abbrev pub least_time : (Message → Bool) → List Message → ℕ → ℕ
least_time ok [] t = t
least_time ok (m ∷ ms) t = least_time ok ms (if ok m then min t m.event.time else t)

-- the least of t and the times of the messages in an inbox
abbrev pub inbox_time : List Message → List ℕ → ℕ → ℕ
inbox_time ms [] t = t
inbox_time ms (b ∷ bs) t = inbox_time ms bs (min t (slice_index_or ms b blank).event.time)

-- what a worker reports: the least time of its floor, its pending events and its inbox, at most the end
unfoldable pub report_of : Plan → ℕ → Machine → ℕ
report_of u w s =
    let x = worker s w in
    let t = least_time (λ m. is_pending m.phase && home u m.event.process == w) s.messages (min u.limits.end x.floor) in
    inbox_time s.messages x.inbox t

-- how many of the first k workers have not reported, and the least of t and what they reported
abbrev pub missing : List Worker → ℕ → ℕ
missing xs zero = 0
missing [] (suc k) = 0
missing (x ∷ xs) (suc k) = elim x.report [ None ↦ suc (missing xs k) | Some t ↦ missing xs k ]

abbrev pub least_report : List Worker → ℕ → ℕ → ℕ
least_report xs zero t = t
least_report [] (suc k) t = t
least_report (x ∷ xs) (suc k) t = elim x.report [ None ↦ least_report xs k t | Some r ↦ least_report xs k (min t r) ]

-- a worker that has reported
abbrev pub telling : ℕ → Worker → Worker
telling t x = record x { report = Some t }

-- the worker w has reported
unfoldable pub with_report : Plan → ℕ → Machine → Machine
with_report u w s = on_worker w (telling (report_of u w s)) s

-- no round is open, and GVT is t
abbrev pub closed : ℕ → Machine → Machine
closed t s = record s { rounding = false; gvt = t }

-- the last report closes the round
unfoldable pub reported : Plan → ℕ → Machine → Machine
reported u w s =
    let s₁ = with_report u w s in
    elim (missing s₁.workers u.workers) [
      | zero ↦ closed (least_report s₁.workers u.workers s₁.floor) s₁
      | suc k ↦ s₁
    ]

-- how many messages pass a test; along the list, as what is proved of it goes. std's `count_by` folds from the front
-- with what it has counted so far, and would be no plainer
abbrev pub counted : (Message → Bool) → List Message → ℕ
counted ok [] = 0
counted ok (m ∷ ms) = if ok m then suc (counted ok ms) else counted ok ms

-- how many done events are earlier than GVT
unfoldable pub remaining : Machine → ℕ
remaining s = counted (λ m. is_done m.phase && nat_lt m.event.time s.gvt) s.messages

-- a message in transit
abbrev pub coming : Event → Message
coming e = fresh_of Transit false e

-- the message e, drawn into the buffer b, is in transit to its receiver
unfoldable pub sent : Plan → ℕ → Event → Machine → Machine
sent u b e s = enter (home u e.process) b (with_place b Out (with_message b (coming e) s))

-- the messages of a step, each into a buffer that was drawn for it; each lowers the sender's floor
unfoldable pub sent_all : Plan → ℕ → List ℕ → List Event → Machine → Machine
sent_all u w bs [] s = s
sent_all u w [] (e ∷ es) s = s
sent_all u w (b ∷ bs) (e ∷ es) s = sent_all u w bs es (lower w e.time (sent u b e s))

-- the places once the buffers are out
abbrev pub outs : List ℕ → List Place → List Place
outs [] pl = pl
outs (b ∷ bs) pl = outs bs (slice_set pl b Out)

-- what the event in the buffer b would do now
abbrev pub doing : Meaning → Plan → Machine → ℕ → Outcome
doing m u s b =
    let e = (at s b).event in
    applied m u.limits e (process s e.process)

-- the few of a list
abbrev pub few : {A : Type 0} → List A → Few A
few [] = Nothing
few (a ∷ []) = One a
few (a ∷ b ∷ _) = Two a b

-- the message x, done
abbrev pub finished : Process → Outcome → Few ℕ → Message → Message
finished q o bs x = done_of x.cancelled x.event q o bs

-- the event in the buffer b, which did o, is done: its messages went into the buffers bs
unfoldable pub stepped_by : Plan → ℕ → ℕ → Outcome → Few ℕ → Machine → Machine
stepped_by u w b o bs s =
    let x = at s b in
    let q = process s x.event.process in
    with_process x.event.process (process_after o q)
    (with_message b (finished q o bs x) (sent_all u w (listed bs) (listed o.sends) s))

-- the event in the buffer b is applied: its messages are drawn into the buffers bs, and it is done
abbrev pub stepped : Meaning → Plan → ℕ → ℕ → Few ℕ → Machine → Machine
stepped m u w b bs s = stepped_by u w b (doing m u s b) bs s

-- a machine that collected, and the lines
pub record Collected : Type 0 where
  pub machine : Machine
  pub lines : List Line

abbrev pub collected_to : Machine → List Line → Collected
collected_to s ls = record { machine = s; lines = ls }

-- at most k lines of done events earlier than GVT, in key order
unfoldable pub collected : Lanes → Plan → ℕ → Machine → Collected
collected l u zero s = record { machine = s; lines = [] }
collected l u (suc k) s = elim (oldest s) [
  | None ↦ record { machine = s; lines = [] }
  | Some b ↦
      let r = collected l u k (freed l u b s) in
      record { machine = r.machine; lines = line_of (at s b).event (at s b).outcome ∷ r.lines }
]

-- the machine before any call, over the processes as the model has them first
unfoldable pub started_with : Plan → List Process → List Place → Machine
started_with u ps pl = record {
  processes = ps;
  messages = replicate 256 blank;
  workers = replicate 8 (record { inbox = []; floor = u.limits.end; report = None });
  places = pl;
  posted = 0;
  floor = u.limits.end;
  rounding = false;
  gvt = 0;
}

-- the machine before any call, over a new pool
unfoldable pub started : Meaning → Lanes → Plan → Machine
started m l u = started_with u (fresh m) l.full

-- the machine after n posts, with the outside's floor at t
abbrev pub with_outside : ℕ → ℕ → Machine → Machine
with_outside n t s = record s { posted = n; floor = t }

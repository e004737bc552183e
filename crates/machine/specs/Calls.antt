-- The six calls: when each is refused, what it answers, what it does; and runs of calls.
use Rattle.std.specs.Prelude.{◌≡◌, ℕ, suc, ◌+◌, min, Bool, true, false, if◌then◌else◌, not, List, [], ◌∷◌, map, is_some}
use Rattle.std.specs.Prelude.{Some, None, Option, ◌==◌, nat_le, nat_lt, slice_index_or, slice_set}
use Rattle.model.specs.Formulas.{outside_limits}
use Rattle.model.specs.Meaning.{Meaning, listed, many}
use Rattle.pool.specs.Lanes.{Lanes, lies}
use Rattle.pool.specs.declared.place.Place.{Place}
use Rattle.pool.specs.declared.place.Place.TheVariants.{Out, Lane}
use Rattle.sequential.specs.Posts.{posted_event}
use Rattle.sequential.specs.declared.event.Event.{Event}
use Rattle.sequential.specs.declared.event.Line.{Line}
use Rattle.machine.specs.declared.call.Answer.{Answer}
use Rattle.machine.specs.declared.call.Answer.TheVariants.{Refused, Posted, Absorbed, Stepped, Opened, Told, Collected}
use Rattle.machine.specs.declared.call.Call.{Call}
use Rattle.machine.specs.declared.call.Call.TheVariants.{Post, Absorb, Step, Round, Report, Collect}
use Rattle.machine.specs.declared.plan.Plan.{Plan}
use Rattle.machine.specs.declared.refusal.Refusal.{Refusal}
use Rattle.machine.specs.declared.refusal.Refusal.TheVariants.{OutsideLimits, NoProcess, NoWorker, BeforeGvt, PastEnd}
use Rattle.machine.specs.declared.refusal.Refusal.TheVariants.{CapReached, LaneShort, InboxEmpty, NothingPending}
use Rattle.machine.specs.declared.refusal.Refusal.TheVariants.{RoundOpen, NoRound, Reported}
use Rattle.machine.specs.Machine.{Machine, home, at, worker, first, next, doing, few, sent, with_outside, stepped}
use Rattle.machine.specs.Machine.{absorbed, opened, reported, missing, collected, remaining}

-- the number of each refusal
abbrev pub code : Refusal → ℕ
code OutsideLimits = outside_limits
code NoProcess = 2
code NoWorker = 3
code BeforeGvt = 4
code PastEnd = 5
code CapReached = 6
code LaneShort = 7
code InboxEmpty = 8
code NothingPending = 9
code RoundOpen = 10
code NoRound = 11
code Reported = 12

-- the event of a post by its number: process, time, payload
abbrev pub post_as : ℕ → ℕ → ℕ → ℕ → Event
post_as n p t x = posted_event n (record { process = p; time = t; payload = x })

-- what a run rests on: a model, a pool, and what was set up
pub record World : Type 0 where
  pub model : Meaning
  pub lanes : Lanes
  pub plan : Plan

-- the first refusal whose test holds: the upper row counts
abbrev pub first_refusal : List (Bool × Refusal) → Option Refusal
first_refusal [] = None
first_refusal (r ∷ rs) = if r.0 then Some r.1 else first_refusal rs

-- how often the lane is asked for
abbrev pub asked : ℕ → List ℕ → ℕ
asked l [] = 0
asked l (k ∷ ks) = if k == l then suc (asked l ks) else asked l ks

-- each of the lanes ls holds as many buffers as all ask of it
abbrev pub enough : List Place → List ℕ → List ℕ → Bool
enough places all [] = true
enough places all (l ∷ ls) = if nat_le (asked l all) (lies l places) then enough places all ls else false

module _ (W : World) where
  -- the lane that a post for the process draws from
  abbrev pub post_lane : ℕ → ℕ
  post_lane p = W.lanes.draw 8 (home W.plan p)

  -- the lanes that the messages of the worker w draw from, in their order
  abbrev pub draw_lanes : ℕ → List Event → List ℕ
  draw_lanes w es = map (λ e. W.lanes.draw w (home W.plan e.process)) es

  -- the lanes that a call which is not refused draws from: a post from one, a step from one for each message
  unfoldable pub lanes_drawn : Machine → Call → List ℕ
  lanes_drawn s (Post p t x) = post_lane p ∷ []
  lanes_drawn s (Absorb w) = []
  lanes_drawn s (Step w) =
      elim (next W.plan w s) [ None ↦ [] | Some b ↦ draw_lanes w (listed (doing W.model W.plan s b).sends) ]
  lanes_drawn s Round = []
  lanes_drawn s (Report w) = []
  lanes_drawn s (Collect k) = []

  -- some draw lane has too few buffers for the call's messages
  abbrev pub lacks_buffers : Machine → Call → Bool
  lacks_buffers s c = not (enough s.places (lanes_drawn s c) (lanes_drawn s c))

  abbrev pub worker_row : ℕ → Bool × Refusal
  worker_row w = (nat_le W.plan.workers w, NoWorker)

  -- why the call is refused, if it is
  unfoldable pub refusal : Machine → Call → Option Refusal
  refusal s (Post p t x) =
      first_refusal (
      (nat_le W.model.size p, NoProcess) ∷
      (nat_lt t s.gvt, BeforeGvt) ∷
      (nat_le W.plan.limits.end t, PastEnd) ∷
      ((s.posted == W.plan.limits.most), CapReached) ∷
      (lacks_buffers s (Post p t x), LaneShort) ∷ [])
  refusal s (Absorb w) = first_refusal (worker_row w ∷ (not (is_some (first (worker s w).inbox)), InboxEmpty) ∷ [])
  refusal s (Step w) =
      first_refusal (
      worker_row w ∷
      (lacks_buffers s (Step w), LaneShort) ∷
      (not (is_some (next W.plan w s)), NothingPending) ∷ [])
  refusal s Round = first_refusal ((s.rounding, RoundOpen) ∷ [])
  refusal s (Report w) =
      first_refusal (worker_row w ∷ (not s.rounding, NoRound) ∷ (is_some (worker s w).report, Reported) ∷ [])
  refusal s (Collect k) = None

  -- the event of a post that is accepted now
  abbrev pub post_of : Machine → ℕ → ℕ → ℕ → Event
  post_of s p t x = post_as s.posted p t x

  -- what a call that is not refused does, with the buffers bs that it drew
  unfoldable pub does : Machine → Call → List ℕ → Machine
  does s (Post p t x) [] = s
  does s (Post p t x) (b ∷ _) = with_outside (s.posted + 1) (min s.floor t) (sent W.plan b (post_of s p t x) s)
  does s (Absorb w) bs = (absorbed W.lanes W.plan w s).machine
  does s (Step w) bs = elim (next W.plan w s) [ None ↦ s | Some b ↦ stepped W.model W.plan w b (few bs) s ]
  does s Round bs = opened W.plan s
  does s (Report w) bs = reported W.plan w s
  does s (Collect k) bs = (collected W.lanes W.plan k s).machine

  -- what it answers, whichever buffers it drew
  unfoldable pub answers : Machine → Call → Answer (List Line)
  answers s (Post p t x) = Posted s.posted
  answers s (Absorb w) =
      let r = absorbed W.lanes W.plan w s in
      Absorbed r.annihilated r.undone r.cancelled
  answers s (Step w) = elim (next W.plan w s) [
    | None ↦ Refused NothingPending
    | Some b ↦ Stepped (at s b).event.time (at s b).event.process (many (doing W.model W.plan s b).sends)
  ]
  answers s Round = Opened W.plan.workers
  answers s (Report w) =
      let s' = reported W.plan w s in
      Told (missing s'.workers W.plan.workers) s'.gvt
  answers s (Collect k) =
      let r = collected W.lanes W.plan k s in
      Collected r.lines (remaining r.machine)

-- the buffers bs are drawn from the lanes ls one after the other; which buffer of a lane is drawn is undecided
pub data DrawnAll : List Place → List ℕ → List ℕ → Type 0 where
  none : {places : List Place} → DrawnAll places [] []
  one : {places : List Place} {l b : ℕ} {ls bs : List ℕ} → slice_index_or places b Out ≡ Lane l →
      DrawnAll (slice_set places b Out) ls bs → DrawnAll places (l ∷ ls) (b ∷ bs)

-- one call, its answer, and the machine after it: a refused call leaves the machine as it was
pub data Does (W : World) (s : Machine) (c : Call) : Answer (List Line) → Machine → Type 0 where
  refuses : (r : Refusal) → refusal W s c ≡ Some r → Does W s c (Refused r) s
  acts : (bs : List ℕ) → refusal W s c ≡ None → DrawnAll s.places (lanes_drawn W s c) bs →
      Does W s c (answers W s c) (does W s c bs)

-- the calls with their answers
abbrev pub Transcript : Type 0
Transcript = List (Call × Answer (List Line))

-- calls made one after the other lead from a machine to a machine
pub data Run (W : World) : Machine → Transcript → Machine → Type 0 where
  rests : {s : Machine} → Run W s [] s
  goes : {s s₁ s₂ : Machine} {c : Call} {a : Answer (List Line)} {r : Transcript} → Does W s c a s₁ → Run W s₁ r s₂ →
      Run W s ((c, a) ∷ r) s₂

-- The law of runs: what every run of calls keeps, in terms of what its calls answered, the sequential run of its posts,
-- and the machine's messages and places.
use Rattle.std.specs.Prelude.{◌≡◌, ℕ, suc, ◌+◌, ◌<◌, ◌≤◌, true, false, if◌then◌else◌, ◌⊎◌, List, [], ◌∷◌, ◌++◌, map}
use Rattle.std.specs.Prelude.{length, ◌≢◌, nat_lt, slice_index_or}
use Rattle.pool.specs.Lanes.{lent}
use Rattle.sequential.specs.Run.{run}
use Rattle.sequential.specs.declared.event.Event.{Event}
use Rattle.sequential.specs.declared.event.Line.{Line}
use Rattle.machine.specs.Calls.{World, Transcript, Does, Run, post_as}
use Rattle.machine.specs.Machine.{Machine, started, at}
use Rattle.machine.specs.declared.call.Answer.{Answer}
use Rattle.machine.specs.declared.call.Answer.TheVariants.{Refused, Posted, Absorbed, Stepped, Opened, Told, Collected}
use Rattle.machine.specs.declared.call.Call.{Call}
use Rattle.machine.specs.declared.call.Call.TheVariants.{Post, Absorb, Step, Round, Report, Collect}
use Rattle.machine.specs.declared.message.Message.{Message}
use Rattle.machine.specs.declared.message.Phase.TheVariants.{Free, Transit, Pending}

-- ---- what a transcript tells

-- the post that a call and its answer tell of
abbrev pub post_told : Call → Answer (List Line) → List Event
post_told (Post p t x) (Refused r) = []
post_told (Post p t x) (Posted n) = post_as n p t x ∷ []
post_told (Post p t x) (Absorbed a b c) = []
post_told (Post p t x) (Stepped a b c) = []
post_told (Post p t x) (Opened n) = []
post_told (Post p t x) (Told n g) = []
post_told (Post p t x) (Collected ls r) = []
post_told (Absorb w) a = []
post_told (Step w) a = []
post_told Round a = []
post_told (Report w) a = []
post_told (Collect k) a = []

-- how many sends a step tells
abbrev pub sends_told : Answer (List Line) → ℕ
sends_told (Refused r) = 0
sends_told (Posted n) = 0
sends_told (Absorbed a b c) = 0
sends_told (Stepped t p k) = k
sends_told (Opened n) = 0
sends_told (Told n g) = 0
sends_told (Collected ls r) = 0

-- how many annihilations an absorption tells
abbrev pub annihilations_told : Answer (List Line) → ℕ
annihilations_told (Refused r) = 0
annihilations_told (Posted n) = 0
annihilations_told (Absorbed a b c) = a
annihilations_told (Stepped t p k) = 0
annihilations_told (Opened n) = 0
annihilations_told (Told n g) = 0
annihilations_told (Collected ls r) = 0

-- the lines that a collection hands out
abbrev pub lines_told : Answer (List Line) → List Line
lines_told (Refused r) = []
lines_told (Posted n) = []
lines_told (Absorbed a b c) = []
lines_told (Stepped t p k) = []
lines_told (Opened n) = []
lines_told (Told n g) = []
lines_told (Collected ls r) = ls

-- the posts accepted, in their order
abbrev pub posts : Transcript → List Event
posts [] = []
posts (x ∷ xs) = post_told x.0 x.1 ++ posts xs

-- the sends told
abbrev pub sends : Transcript → ℕ
sends [] = 0
sends (x ∷ xs) = sends_told x.1 + sends xs

-- the annihilations told
abbrev pub annihilations : Transcript → ℕ
annihilations [] = 0
annihilations (x ∷ xs) = annihilations_told x.1 + annihilations xs

-- the lines collected, end to end
abbrev pub collected_lines : Transcript → List Line
collected_lines [] = []
collected_lines (x ∷ xs) = lines_told x.1 ++ collected_lines xs

-- the calls made
abbrev pub calls_in : Transcript → List Call
calls_in r = map (λ x. x.0) r

-- how many lines are earlier than a time
abbrev pub before : ℕ → List Line → ℕ
before t [] = 0
before t (l ∷ ls) = if nat_lt l.event.time t then suc (before t ls) else before t ls

-- ---- the law

-- unprocessed, in transit or under cancellation
pub data Unsettled : Message → Type 0 where
  moving : {m : Message} → m.phase ≡ Transit → Unsettled m
  waits : {m : Message} → m.phase ≡ Pending → Unsettled m
  ending : {m : Message} → (m.phase ≢ Free) → m.cancelled ≡ true → Unsettled m

-- the law at the machine s, to which the transcript r leads from the start
pub record Holds (W : World) (r : Transcript) (s : Machine) : Type 0 where
  -- the lines collected are earlier than GVT
  pub committed : (k : ℕ) (d : Line) → k < length (collected_lines r) →
      (slice_index_or (collected_lines r) k d).event.time < s.gvt
  -- they are a front of the sequential run of the posts accepted so far
  pub sequential : (rest : List Line) × (run W.model W.plan.limits (posts r) ≡ collected_lines r ++ rest)
  -- these posts are numbered in their order
  pub numbered : (k : ℕ) (d : Event) → k < length (posts r) → (slice_index_or (posts r) k d).number ≡ k
  -- no message unprocessed, in transit or under cancellation is earlier than GVT
  pub safe : (b : ℕ) → Unsettled (at s b) → s.gvt ≤ (at s b).event.time
  -- the buffers out are the posts and the sends less the annihilations and the lines collected
  pub buffers : lent s.places + (annihilations r + length (collected_lines r)) ≡ length (posts r) + sends r

-- what a world must be: its model has 1 to 32 processes, and its new pool has 256 buffers and none of them out
pub record Proper (W : World) : Type 0 where
  pub sized : (1 ≤ W.model.size) × (W.model.size ≤ 32)
  pub full_sized : length W.lanes.full ≡ 256
  pub none_out : lent W.lanes.full ≡ 0

-- the machine before any call
abbrev pub start : World → Machine
start W = started W.model W.lanes W.plan

-- a collection answers as remaining how many lines of the sequential run are then earlier than GVT and not collected;
-- and it hands out as many as were asked for, or none remain
abbrev pub Remaining : World → Type 0
Remaining W =
    (r : Transcript) (k n : ℕ) (ls : List Line) (s s' : Machine) → Run W (start W) r s →
    Does W s (Collect k) (Collected ls n) s' →
    (n + length (collected_lines r ++ ls) ≡ before s'.gvt (run W.model W.plan.limits (posts r))) ×
    ((n ≡ 0) ⊎ (length ls ≡ k))

-- in a proper world every run keeps the law, GVT never falls from one point of a run to a later one, and collections
-- answer what remains
abbrev pub Lawful : Type 0
Lawful =
    (W : World) → Proper W →
    ((first second : Transcript) (s₁ s₂ : Machine) → Run W (start W) first s₁ → Run W s₁ second s₂ →
    Holds W first s₁ × Holds W (first ++ second) s₂ × (s₁.gvt ≤ s₂.gvt)) × Remaining W

-- t is the end, or the time of an unsettled message
abbrev pub Attained : World → Machine → ℕ → Type 0
Attained W s t = (t ≡ W.plan.limits.end) ⊎ ((b : ℕ) × Unsettled (at s b) × ((at s b).event.time ≡ t))

-- nothing but reports is called
abbrev pub Reports : Transcript → Type 0
Reports [] = Unit {0}
Reports (x ∷ xs) = ((w : ℕ) × (x.0 ≡ Report w)) × Reports xs

-- a round in which nothing but its reports is called sets GVT to the earliest unsettled time, or to the end; and where
-- nothing is unsettled, what a collection then hands out and tells to remain is the rest of the whole sequential run
abbrev pub QuietRoundsAreExact : Type 0
QuietRoundsAreExact =
    (W : World) → Proper W →
    (r round : Transcript) (n : ℕ) (s s' : Machine) → Run W (start W) r s → Run W s ((Round, Opened n) ∷ round) s' →
    Reports round → s'.rounding ≡ false →
    Attained W s' s'.gvt ×
    (((b : ℕ) → Unsettled (at s' b) → ⊥) → (k m : ℕ) (ls : List Line) (s'' : Machine) →
    Does W s' (Collect k) (Collected ls m) s'' →
    m + length (collected_lines r ++ ls) ≡ length (run W.model W.plan.limits (posts r)))

-- two runs of the same calls, which may draw other buffers of the same lanes, answer the same, and come to the same GVT
-- and to as many buffers out
abbrev pub AnswersFixedByCalls : Type 0
AnswersFixedByCalls =
    (W : World) → Proper W → (r r' : Transcript) (s s' : Machine) → Run W (start W) r s → Run W (start W) r' s' →
    calls_in r ≡ calls_in r' →
    (r ≡ r') × (s.gvt ≡ s'.gvt) × (lent s.places ≡ lent s'.places)

-- from the start, the calls have this transcript, and only this one
pub record Answered (W : World) (calls_made : List Call) : Type 0 where
  pub transcript : Transcript
  pub machine : Machine
  pub run : Run W (start W) transcript machine
  pub calls : calls_in transcript ≡ calls_made
  pub only : (r : Transcript) (s : Machine) → Run W (start W) r s → calls_in r ≡ calls_made → r ≡ transcript

-- in every machine every call has an answer and a machine after it; so in a proper world a list of calls has exactly
-- one list of answers
abbrev pub EveryCallIsAnswered : Type 0
EveryCallIsAnswered =
    ((W : World) (s : Machine) (c : Call) → (a : Answer (List Line)) × (s' : Machine) × Does W s c a s') ×
    ((W : World) → Proper W → (cs : List Call) → Answered W cs)

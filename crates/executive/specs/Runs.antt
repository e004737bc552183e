-- What code returns of calls and of runs, as the machine's answers and transcripts.
use Rattle.std.specs.Prelude.{◌≡◌, ℕ, ◌+◌, ◌≤◌, Bool, true, false, ◌⊎◌, List, [], ◌∷◌, ◌++◌, length, vec_items, Vec}
use Rattle.std.specs.declared.alloc.Global.{Global}
use Rattle.pool.specs.Lanes.{lent}
use Rattle.sequential.specs.declared.event.Line.{Line}
use Rattle.machine.specs.declared.call.Answer.{Answer}
use Rattle.machine.specs.declared.call.Answer.TheVariants.{Refused, Posted, Absorbed, Stepped, Opened, Told, Collected}
use Rattle.machine.specs.declared.call.Call.{Call}
use Rattle.machine.specs.declared.call.Call.TheVariants.{Collect}
use Rattle.machine.specs.declared.message.Phase.{Phase}
use Rattle.machine.specs.declared.message.Phase.TheVariants.{Free, Transit, Pending, Done}
use Rattle.machine.specs.Machine.{Machine}
use Rattle.machine.specs.Calls.{Run, Transcript, World}
use Rattle.law.specs.Law.{Holds, before, collected_lines, posts, start}
use Rattle.sequential.specs.Run.{run}
use Rattle.executive.specs.declared.runs.Group.{Group}

-- an answer whose lines a vector holds
abbrev pub answer_of : Answer (Vec Line Global) → Answer (List Line)
answer_of (Refused r) = Refused r
answer_of (Posted n) = Posted n
answer_of (Absorbed a b c) = Absorbed a b c
answer_of (Stepped t p k) = Stepped t p k
answer_of (Opened n) = Opened n
answer_of (Told n g) = Told n g
answer_of (Collected v n) = Collected (vec_items v) n

-- lines that a vector holds, and how many remain
abbrev pub gathered : Vec Line Global × ℕ → Answer (List Line)
gathered x = Collected (vec_items x.0) x.1

-- the calls, each with its answer
abbrev pub transcript_of : List Call → List (Answer (Vec Line Global)) → Transcript
transcript_of [] xs = []
transcript_of (c ∷ cs) [] = []
transcript_of (c ∷ cs) (a ∷ xs) = (c, answer_of a) ∷ transcript_of cs xs

-- a buffer in this phase is in use
abbrev pub is_in_use : Phase → Bool
is_in_use Free = false
is_in_use Transit = true
is_in_use Pending = true
is_in_use Done = true

-- the transcript of a group of calls
abbrev pub group_transcript : List Call → Group → Transcript
group_transcript cs g = transcript_of cs (vec_items g.answers)

-- a collection, wherever it stands in the transcript, told how many lines of the sequential run of the posts accepted
-- until then
-- were earlier than GVT and not collected; and it handed out as many as were asked for, unless none remained
abbrev pub Remains : World → Transcript → Type 0
Remains W r =
    (q q' : Transcript) (k n : ℕ) (ls : List Line) → r ≡ q ++ ((Collect k, Collected ls n) ∷ q') →
    (s : Machine) × Run W (start W) (q ++ (Collect k, Collected ls n) ∷ []) s
    × (n + length (collected_lines q ++ ls) ≡ before s.gvt (run W.model W.plan.limits (posts q)))
    × ((n ≡ 0) ⊎ (length ls ≡ k))

-- what two groups of calls, made one after the other from the start, keep
pub record LawfulGroups (W : World) (cs₁ cs₂ : List Call) (g₁ g₂ : Group) : Type 0 where
  -- the machines after the first and after the second group: every answer and refusal is the machine's
  pub middle : Machine
  pub last : Machine
  pub first_runs : Run W (start W) (group_transcript cs₁ g₁) middle
  pub second_runs : Run W middle (group_transcript cs₂ g₂) last
  -- every call has its answer
  pub first_answered : length (vec_items g₁.answers) ≡ length cs₁
  pub second_answered : length (vec_items g₂.answers) ≡ length cs₂
  -- GVT and the buffers out are the machine's
  pub first_gvt : g₁.gvt ≡ middle.gvt
  pub second_gvt : g₂.gvt ≡ last.gvt
  pub first_out : g₁.out ≡ lent middle.places
  pub second_out : g₂.out ≡ lent last.places
  -- the law after each group
  pub first_holds : Holds W (group_transcript cs₁ g₁) middle
  pub second_holds : Holds W (group_transcript cs₁ g₁ ++ group_transcript cs₂ g₂) last
  pub rises : g₁.gvt ≤ g₂.gvt
  pub remains : Remains W (group_transcript cs₁ g₁ ++ group_transcript cs₂ g₂)

-- what one list of calls, made from the start, keeps
pub record LawfulRun (W : World) (cs : List Call) (g : Group) : Type 0 where
  pub last : Machine
  pub runs : Run W (start W) (group_transcript cs g) last
  pub answered : length (vec_items g.answers) ≡ length cs
  pub gvt_is : g.gvt ≡ last.gvt
  pub out_is : g.out ≡ lent last.places
  pub holds : Holds W (group_transcript cs g) last
  pub remains : Remains W (group_transcript cs g)

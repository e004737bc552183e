-- The worked cases: a switch of two ports with service time 3, on two workers, over one lane of buffers.
use Rattle.std.specs.Prelude.{◌≡◌, ℕ, zero, suc, ◌^◌, ◌<◌, ◌≤◌, List, [], ◌∷◌, replicate, Some, None, slice_index}
use Rattle.std.proofs.Common.{lit<, lit≤, arith}
use Rattle.std.proofs.lemmas.List.{get_or-replicate}
use Rattle.model.specs.Formulas.{switch, zeros}
use Rattle.model.specs.declared.state.State.{State}
use Rattle.pool.specs.Pools.{common_lanes}
use Rattle.sequential.specs.Events.{outside}
use Rattle.sequential.specs.declared.event.Line.{Line}
use Rattle.sequential.specs.declared.event.Verdict.{Verdict}
use Rattle.sequential.specs.declared.event.Verdict.TheVariants.{Fine, ModelFault}
use Rattle.machine.specs.declared.call.Answer.{Answer}
use Rattle.machine.specs.declared.call.Answer.TheVariants.{Refused, Posted, Absorbed, Stepped, Opened, Told, Collected}
use Rattle.machine.specs.declared.call.Call.{Call}
use Rattle.machine.specs.declared.call.Call.TheVariants.{Post, Absorb, Step, Round, Report, Collect}
use Rattle.machine.specs.declared.plan.Plan.{Plan}
use Rattle.machine.specs.declared.refusal.Refusal.TheVariants.{BeforeGvt}
use Rattle.machine.specs.Machine.{Machine, started}
use Rattle.machine.specs.Calls.{World, refusal, does, answers}

-- the calls made in order, each with the buffers that it draws: their answers
abbrev pub play : World → Machine → List (Call × List ℕ) → List (Answer (List Line))
play W s [] = []
play W s (c ∷ cs) = elim (refusal W s c.0) [
  | None ↦ answers W s c.0 ∷ play W (does W s c.0 c.1) cs
  | Some r ↦ Refused r ∷ play W s cs
]

-- every process on worker 0, but process 1 on worker 1
abbrev pub homes : List ℕ
homes = 0 ∷ 1 ∷ replicate 30 0

pub housed : (p : ℕ) → p < 32 → slice_index homes p < 2
housed zero h = lit< tt
housed (suc zero) h = lit< tt
housed (suc (suc p)) h = rw (get_or-replicate {A = ℕ} 30 p 0 0 (omega arith)) (lit< tt)

-- two workers, and a cap of 100
abbrev pub plan : (end : ℕ) → (1 ≤ end) × (end ≤ 2 ^ 40) → Plan
plan end ends = record {
  limits = record { end = end; most = 100; ends = ends; caps = (lit≤ tt, lit< tt) };
  workers = 2;
  home = homes;
  staffed = (lit≤ tt, lit≤ tt);
  housed = housed;
}

abbrev pub world : (end : ℕ) → (1 ≤ end) × (end ≤ 2 ^ 40) → World
world end ends = record { model = switch 2 3; lanes = common_lanes; plan = plan end ends }

-- the answers to the calls up to the end, from the start
abbrev pub answers_by : (end : ℕ) → (1 ≤ end) × (end ≤ 2 ^ 40) → List (Call × List ℕ) → List (Answer (List Line))
answers_by end ends cs = play (world end ends) (started (switch 2 3) common_lanes (plan end ends)) cs

abbrev pub line : ℕ → ℕ → ℕ → ℕ → ℕ → Verdict → State → Line
line time process sender number payload v s =
    record {
      event = record { time = time; process = process; sender = sender; number = number; payload = payload };
      verdict = v;
      state = s;
    }

abbrev pub words : ℕ → ℕ → ℕ → State
words a b c = record { w0 = a; w1 = b; w2 = c; w3 = 0 }

pub ends100 : (1 ≤ 100) × (100 ≤ 2 ^ 40)
ends100 = (lit≤ tt, lit≤ tt)

pub ends14 : (1 ≤ 14) × (14 ≤ 2 ^ 40)
ends14 = (lit≤ tt, lit≤ tt)

pub ends13 : (1 ≤ 13) × (13 ≤ 2 ^ 40)
ends13 = (lit≤ tt, lit≤ tt)

-- a late cell rolls the second port back; all three lines are collected in key order
abbrev pub StragglerIsCollectedInOrder : Type 0
StragglerIsCollectedInOrder =
    answers_by 100 ends100 (
    (Post 0 10 1, 0 ∷ []) ∷ (Post 1 14 0, 1 ∷ []) ∷ (Absorb 1, []) ∷ (Step 1, []) ∷ (Absorb 0, []) ∷ (Step 0, 2 ∷ []) ∷
    (Absorb 1, []) ∷ (Step 1, []) ∷ (Step 1, []) ∷ (Round, []) ∷ (Report 0, []) ∷ (Report 1, []) ∷ (Collect 8, []) ∷ [])
    ≡ (Posted 0 ∷ Posted 1 ∷ Absorbed 0 0 0 ∷ Stepped 14 1 0 ∷ Absorbed 0 0 0 ∷ Stepped 10 0 1 ∷
    Absorbed 0 1 0 ∷ Stepped 13 1 0 ∷ Stepped 14 1 0 ∷ Opened 2 ∷ Told 1 0 ∷ Told 0 100 ∷
    Collected (
    line 10 0 outside 0 1 Fine (words 13 1 0) ∷
    line 13 1 0 0 0 Fine (words 16 1 0) ∷
    line 14 1 outside 1 0 Fine (words 19 2 2) ∷ []) 0 ∷ [])

-- a post for an earlier time rolls two ports back, one by a notice, and both messages are annihilated
abbrev pub CancellationChasesItsMessages : Type 0
CancellationChasesItsMessages =
    answers_by 100 ends100 (
    (Post 0 10 2, 0 ∷ []) ∷ (Absorb 0, []) ∷ (Step 0, 1 ∷ []) ∷ (Absorb 1, []) ∷ (Step 1, 2 ∷ []) ∷
    (Post 0 9 0, 3 ∷ []) ∷
    (Absorb 0, []) ∷ (Absorb 0, []) ∷ (Absorb 1, []) ∷ (Absorb 0, []) ∷ [])
    ≡ (Posted 0 ∷ Absorbed 0 0 0 ∷ Stepped 10 0 1 ∷ Absorbed 0 0 0 ∷ Stepped 13 1 1 ∷ Posted 1 ∷
    Absorbed 0 0 0 ∷ Absorbed 0 1 1 ∷ Absorbed 1 1 1 ∷ Absorbed 1 0 0 ∷ [])

-- a message sent while a round is open holds GVT at its time; a post before GVT is refused, and one at GVT is accepted
abbrev pub FloorsHoldGvt : Type 0
FloorsHoldGvt =
    answers_by 100 ends100 (
    (Post 0 10 1, 0 ∷ []) ∷ (Absorb 0, []) ∷ (Round, []) ∷ (Report 1, []) ∷ (Step 0, 1 ∷ []) ∷ (Report 0, []) ∷
    (Post 0 12 0, 2 ∷ []) ∷ (Post 0 13 0, 2 ∷ []) ∷ [])
    ≡ (Posted 0 ∷ Absorbed 0 0 0 ∷ Opened 2 ∷ Told 1 0 ∷ Stepped 10 0 1 ∷ Told 0 13 ∷ Refused BeforeGvt ∷ Posted 1 ∷ [])

-- a message due at the end is struck out, and one due just before it is sent
abbrev pub TheEndStrikesAtItsEdge : Type 0
TheEndStrikesAtItsEdge =
    (answers_by 13 ends13 ((Post 0 10 1, 0 ∷ []) ∷ (Absorb 0, []) ∷ (Step 0, []) ∷ []) ≡
    (Posted 0 ∷ Absorbed 0 0 0 ∷ Stepped 10 0 0 ∷ []))
    × (answers_by 14 ends14 ((Post 0 10 1, 0 ∷ []) ∷ (Absorb 0, []) ∷ (Step 0, 1 ∷ []) ∷ []) ≡
    (Posted 0 ∷ Absorbed 0 0 0 ∷ Stepped 10 0 1 ∷ []))

-- a cell with too many hops is the model's fault 2, and leaves zero words
abbrev pub AFaultIsALine : Type 0
AFaultIsALine =
    answers_by 100 ends100 (
    (Post 0 10 256, 0 ∷ []) ∷ (Absorb 0, []) ∷ (Step 0, []) ∷ (Round, []) ∷ (Report 0, []) ∷ (Report 1, []) ∷
    (Collect 1, []) ∷ [])
    ≡ (Posted 0 ∷ Absorbed 0 0 0 ∷ Stepped 10 0 0 ∷ Opened 2 ∷ Told 1 0 ∷ Told 0 100 ∷
    Collected (line 10 0 outside 0 256 (ModelFault 2) zeros ∷ []) 0 ∷ [])

-- the eight cases: a straggler, chased cancellations, a floor that holds GVT with a post before it and one at it, the
-- end at both sides of its edge, a fault
abbrev pub TheWorkedCasesHold : Type 0
TheWorkedCasesHold =
    StragglerIsCollectedInOrder × CancellationChasesItsMessages × FloorsHoldGvt × TheEndStrikesAtItsEdge × AFaultIsALine

-- That the law speaks of something: proper worlds for both models over the lanes of both pools, and a run in each of
-- them with a rollback, an annihilation, a round that raises GVT, and two collections.
use Rattle.std.specs.Prelude.{◌^◌, ◌≤◌, [], ◌∷◌}
use Rattle.std.proofs.Common.{lit≤}
use Rattle.model.specs.Formulas.{switch, phold}
use Rattle.model.specs.Meaning.{Meaning}
use Rattle.pool.specs.Lanes.{Lanes}
use Rattle.pool.specs.Pools.{common_lanes, receiver_lanes}
use Rattle.sequential.specs.Events.{outside}
use Rattle.sequential.specs.declared.event.Verdict.TheVariants.{Fine}
use Rattle.machine.specs.Calls.{World, Transcript, Run}
use Rattle.machine.specs.Cases.{plan, line, words, ends100}
use Rattle.machine.specs.Machine.{Machine}
use Rattle.machine.specs.declared.call.Answer.TheVariants.{Posted, Absorbed, Stepped, Opened, Told, Collected}
use Rattle.machine.specs.declared.call.Call.TheVariants.{Post, Absorb, Step, Round, Report, Collect}
use Rattle.machine.specs.declared.plan.Plan.{Plan}
use Rattle.law.specs.Law.{Proper, start}

abbrev pub over : Meaning → Lanes → Plan → World
over m l u = record { model = m; lanes = l; plan = u }

-- every model of 1 to 32 processes makes a proper world over the lanes, with every plan
abbrev pub ProperOver : Lanes → Type 0
ProperOver l = (m : Meaning) (u : Plan) → (1 ≤ m.size) × (m.size ≤ 32) → Proper (over m l u)

-- the transcript is one of a run in the world
abbrev pub IsRunOf : World → Transcript → Type 0
IsRunOf W r = (s : Machine) × Run W (start W) r s

-- ---- a switch of two ports with service time 3

abbrev pub switching : Lanes → World
switching l = over (switch 2 3) l (plan 100 ends100)

-- a late cell undoes one event and cancels its message, which is annihilated; all three lines are collected in two
-- parts
abbrev pub switched : Transcript
switched =
    (Post 0 20 1, Posted 0) ∷ (Absorb 0, Absorbed 0 0 0) ∷ (Step 0, Stepped 20 0 1) ∷
    (Post 0 10 0, Posted 1) ∷ (Absorb 0, Absorbed 0 1 1) ∷ (Absorb 1, Absorbed 1 0 0) ∷
    (Step 0, Stepped 10 0 0) ∷ (Step 0, Stepped 20 0 1) ∷ (Absorb 1, Absorbed 0 0 0) ∷ (Step 1, Stepped 23 1 0) ∷
    (Round, Opened 2) ∷ (Report 0, Told 1 0) ∷ (Report 1, Told 0 100) ∷ (
      Collect 2,
      Collected (
          line 10 0 outside 1 0 Fine (words 13 1 0) ∷
          line 20 0 outside 0 1 Fine (words 23 2 0) ∷ []) 1,
    ) ∷
    (Collect 8, Collected (line 23 1 0 0 0 Fine (words 26 1 0) ∷ []) 0) ∷ []

-- ---- the synthetic load of two processes with the seed 37

pub ends500 : (1 ≤ 500) × (500 ≤ 2 ^ 40)
ends500 = (lit≤ tt, lit≤ tt)

abbrev pub loading : Lanes → World
loading l = over (phold 2 37) l (plan 500 ends500)

-- as with the switch, and a second rollback on the other worker; one message, due past the end, is struck out
abbrev pub loaded : Transcript
loaded =
    (Post 0 20 5, Posted 0) ∷ (Absorb 0, Absorbed 0 0 0) ∷ (Step 0, Stepped 20 0 1) ∷
    (Post 0 10 6, Posted 1) ∷ (Absorb 0, Absorbed 0 1 1) ∷ (Absorb 1, Absorbed 1 0 0) ∷
    (Step 0, Stepped 10 0 1) ∷ (Step 0, Stepped 20 0 1) ∷ (Absorb 1, Absorbed 0 0 0) ∷ (Step 1, Stepped 275 1 0) ∷
    (Absorb 1, Absorbed 0 1 0) ∷ (Step 1, Stepped 148 1 0) ∷ (Step 1, Stepped 275 1 1) ∷ (Absorb 0, Absorbed 0 0 0) ∷
    (Round, Opened 2) ∷ (Report 0, Told 1 0) ∷ (Report 1, Told 0 396) ∷ (
      Collect 3,
      Collected (
          line 10 0 outside 1 6 Fine (words 15554806438705685200 1 0) ∷
          line 20 0 outside 0 5 Fine (words 3448065697647595487 2 0) ∷
          line 148 1 0 1 5 Fine (words 3472198588842926589 1 0) ∷ []) 1,
    ) ∷
    (Collect 8, Collected (line 275 1 0 0 6 Fine (words 10968963421957930440 2 0) ∷ []) 0) ∷ []

-- ---- all of them

abbrev pub TheLawSpeaksOfRuns : Type 0
TheLawSpeaksOfRuns =
    ProperOver common_lanes × ProperOver receiver_lanes ×
    IsRunOf (switching common_lanes) switched × IsRunOf (switching receiver_lanes) switched ×
    IsRunOf (loading common_lanes) loaded × IsRunOf (loading receiver_lanes) loaded

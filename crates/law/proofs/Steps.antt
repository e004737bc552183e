-- The sequential run as data: so many lines from here to there. A post that is later than all of them waits to the end,
-- so that it can be put into a run already made.
use Rattle.std.proofs.Common.{◌≡◌, ℕ, suc, ◌+◌, ◌<◌, ◌≤◌, List, [], ◌∷◌, ◌++◌, length, refl, ap, ◌∙◌, inl, inr, suc-add}
use Rattle.std.proofs.Common.{zero-add, arith}
use Rattle.std.specs.List.{AllByRecursion}
use Rattle.model.specs.Meaning.{Meaning, listed}
use Rattle.sequential.proofs.Budget.{all_among, Going, Going-on, slack, slack_falls}
use Rattle.sequential.proofs.Keys.{SameKey}
use Rattle.sequential.proofs.Sends.{Fits, applied-sends}
use Rattle.sequential.proofs.Waits.{Among, queued_all_from, queued_all_comm, queued-behind}
use Rattle.sequential.specs.Events.{outside, line_of}
use Rattle.sequential.specs.Run.{queued, queued_all, outcome, processes_after, lines}
use Rattle.sequential.specs.declared.event.Event.{Event}
use Rattle.sequential.specs.declared.limits.Limits.{Limits}
use Rattle.sequential.specs.declared.event.Line.{Line}
use Rattle.sequential.specs.declared.event.Outcome.{Outcome}
use Rattle.sequential.specs.declared.event.Process.{Process}
use Rattle.machine.specs.Calls.{World}
use Rattle.law.specs.Law.{Proper}

-- the run goes from ps with ws waiting to ps' with ws' waiting, and writes ls
pub data Steps (W : World) : List Process → List Event → List Line → List Process → List Event → Type 0 where
  rests : {ps : List Process} {ws : List Event} → Steps W ps ws [] ps ws
  writes : {ps : List Process} {e : Event} {ws : List Event} {o : Outcome} {ls : List Line} {ps' : List Process}
      {ws' : List Event} → outcome W.model W.plan.limits ps e ≡ o →
      Steps W (processes_after ps e o) (queued_all (listed o.sends) ws) ls ps' ws' →
      Steps W ps (e ∷ ws) (line_of e o ∷ ls) ps' ws'

pub Steps-more : {W : World} {ps : List Process} {ws : List Event} {ls : List Line} {ps' : List Process}
    {ws' : List Event} {ls' : List Line} {ps'' : List Process} {ws'' : List Event} →
    Steps W ps ws ls ps' ws' → Steps W ps' ws' ls' ps'' ws'' → Steps W ps ws (ls ++ ls') ps'' ws''
Steps-more rests T = T
Steps-more (writes e S) T = writes e (Steps-more S T)

lines_more : (m : Meaning) (u : Limits) (k : ℕ) (ps : List Process) (e : Event) (ws : List Event) (o : Outcome) →
    outcome m u ps e ≡ o → lines m u (suc k) ps (e ∷ ws) ≡ line_of e o ∷
    lines m u k (processes_after ps e o) (queued_all (listed o.sends) ws)
unfolding lines
lines_more m u k ps e ws o is =
    ap (λ (x : Outcome). line_of e x ∷ lines m u k (processes_after ps e x) (queued_all (listed x.sends) ws)) is

-- what the run writes with enough fuel
pub Steps-lines : {W : World} {ps : List Process} {ws : List Event} {ls : List Line} {ps' : List Process}
    {ws' : List Event} → Steps W ps ws ls ps' ws' → (n : ℕ) →
    lines W.model W.plan.limits (length ls + n) ps ws ≡ ls ++ lines W.model W.plan.limits n ps' ws'
Steps-lines rests n = rw zero-add refl
Steps-lines {W} (writes {ps = ps} {e = e} {ws = ws} {o = o} {ls = ls} is S) n =
    rw suc-add (lines_more W.model W.plan.limits (length ls + n) ps e ws o is ∙
    ap (λ (xs : List Line). line_of e o ∷ xs) (Steps-lines S n))

-- an event from outside that is later than all that the run has written waits to the end
pub Steps-post : {W : World} (P : Proper W) {ps : List Process} {ws : List Event} {ls : List Line} {ps' : List Process}
    {ws' : List Event} (e : Event) → e.sender ≡ outside → Steps W ps ws ls ps' ws' →
    ((f : Event) → Among f ws → f.process < W.model.size) → AllByRecursion (λ (x : Line). x.event.time < e.time) ls →
    Steps W ps (queued e ws) ls ps' (queued e ws')
Steps-post P e o rests n a = rests
Steps-post {W} P e o (writes {ps = ps} {e = f} {ws = ws} {o = out} {ls = ls} {ps' = qs} {ws' = end} is S) n a =
    rw (queued-behind e f ws a.0) (writes is
    (rw (← (queued_all_comm e (listed out.sends) apart ws)) at (Steps-post P e o S within a.1)))
  where
    fits : AllByRecursion (Fits W.model.size W.plan.limits.end f) (listed out.sends)
    fits = rw (← is) (applied-sends W.model W.plan.limits f _).fit

    apart : (g : Event) → Among g (listed out.sends) → SameKey e g → ⊥
    apart g i k =
        let x = (all_among (Fits W.model.size W.plan.limits.end f) (listed out.sends) fits g i).sender in
        let y = n f (inl refl) in
        let z = k.sender in
        let v = P.sized.1 in
        omega arith

    within : (g : Event) → Among g (queued_all (listed out.sends) ws) → g.process < W.model.size
    within g i =
        elim (queued_all_from g (listed out.sends) ws i) [
          | inl j ↦ (all_among (Fits W.model.size W.plan.limits.end f) (listed out.sends) fits g j).receiver
          | inr j ↦
              n g (inr j)
        ]

-- with each line the number waiting and what the cap still allows fall together by one: so a run is no longer than both
pub Steps-bound : {W : World} {ps : List Process} {ws : List Event} {ls : List Line} {ps' : List Process}
    {ws' : List Event} → Steps W ps ws ls ps' ws' → Going W.model W.plan.limits ps ws →
    length ls ≤ length ws + slack W.plan.limits.most ps
Steps-bound rests G = omega arith
Steps-bound {W} (writes {ps = ps} {e = e} {ws = ws} {o = o} {ls = ls} is S) G =
    let f = slack_falls G in
    let r : length ls ≤ length (queued_all (listed (outcome W.model W.plan.limits ps e).sends) ws) +
    slack W.plan.limits.most (processes_after ps e (outcome W.model W.plan.limits ps e)) =
    rw (is) (Steps-bound S (rw is at (Going-on G))) in
    omega arith

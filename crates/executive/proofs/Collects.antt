-- Collecting line by line: each line's buffer is out and returns to the pool, and the rest of the caller's list is
-- kept.
use Rattle.std.proofs.Common.{◌≡◌, ℕ, zero, suc, ◌+◌, true, List, [], ◌∷◌, get_or, drop, set, Some, sym, refl, ap, ◌∙◌}
use Rattle.std.proofs.Common.{subst, inl, inr, arith, drop-drop, drop-set-lt}
use Rattle.std.proofs.lemmas.Bool.{and_parts, both_ways, cases_eq}
use Rattle.std.proofs.lemmas.List.{get_or-set_other}
use Rattle.pool.specs.Lanes.{Lanes}
use Rattle.pool.specs.declared.place.Place.TheVariants.{Out}
use Rattle.sequential.specs.declared.event.Line.{Line}
use Rattle.machine.specs.declared.call.Answer.TheVariants.{Collected as Gathered}
use Rattle.machine.specs.declared.call.Call.TheVariants.{Collect}
use Rattle.machine.specs.declared.message.Message.{Message}
use Rattle.machine.specs.declared.plan.Plan.{Plan}
use Rattle.machine.specs.Machine.{Collected, Machine, at, blank, collected, collected_to, freed, is_done, oldest}
use Rattle.machine.specs.Machine.{remaining, returned}
use Rattle.machine.specs.Calls.{World, Does, refusal, lanes_drawn, does, answers}
use Rattle.machine.specs.Calls.DrawnAll.{none}
use Rattle.law.proofs.Picks.{oldest_picks}
use Rattle.executive.specs.World.{DonesLent}
use Rattle.executive.proofs.Does.{acted}

-- a list filled from its front keeps its rest
pub rest_kept : {X : Type 0} (xs ys : List X) (i : ℕ) (x : X) → drop i xs ≡ drop i ys →
    drop (i + 1) (set xs i x) ≡ drop (i + 1) ys
rest_kept xs ys i x e = drop-set-lt (i + 1) xs i x (omega arith) ∙ sym (drop-drop 1 i xs) ∙ ap (drop 1) e
    ∙ drop-drop 1 i ys

-- what is emptied is empty, also past the end
emptied : (ms : List Message) (b : ℕ) → get_or (set ms b blank) b blank ≡ blank
emptied [] b = refl
emptied (m ∷ ms) zero = refl
emptied (m ∷ ms) (suc b) = emptied ms b

pub oldest-done : (s : Machine) (b : ℕ) → oldest s ≡ Some b → is_done (at s b).phase ≡ true
oldest-done s b h = (and_parts _ _ (oldest_picks s b h).passes).0

-- emptying a buffer leaves the other done events' buffers out
pub dones_kept : (l : Lanes) (u : Plan) (s : Machine) (b : ℕ) → DonesLent s → DonesLent (freed l u b s)
unfolding freed
dones_kept l u s b lent c h = elim (cases_eq c b) [
  | inl e ↦ absurd (gone e)
  | inr n ↦ get_or-set_other s.places b c (returned l u (at s b).event) Out n ∙ lent c
      (ap (λ (m : Message). is_done m.phase) (sym (get_or-set_other s.messages b c blank blank n)) ∙ h)
]
  where
    gone : c ≡ b → ⊥
    gone e = both_ways _ (ap (λ (m : Message). is_done m.phase)
        (ap (λ x. get_or (set s.messages b blank) x blank) e ∙ emptied s.messages b)) h

-- a collection is never refused
pub collect_goes : (W : World) (s s' : Machine) (k n : ℕ) (ls : List Line) →
    collected_to s' ls ≡ collected W.lanes W.plan k s → n ≡ remaining s' → Does W s (Collect k) (Gathered ls n) s'
unfolding refusal lanes_drawn does answers
collect_goes W s s' k n ls e r = acted [] refl none
    (ap (Gathered ls) r ∙ ap (λ (x : Collected). Gathered x.lines (remaining x.machine)) e)
    (ap (λ (x : Collected). x.machine) e)

-- the same collection, by its length and its lines
pub collect_same : {W : World} {s s' : Machine} {k k' n : ℕ} {ls ls' : List Line} → k ≡ k' → ls ≡ ls' →
    Does W s (Collect k) (Gathered ls n) s' → Does W s (Collect k') (Gathered ls' n) s'
collect_same {W} {s} {s'} {k} {k'} {n} {ls} {ls'} e f d = subst (λ x. Does W s (Collect x) (Gathered ls' n) s') e
    (subst (λ (x : List Line). Does W s (Collect k) (Gathered x n) s') f d)

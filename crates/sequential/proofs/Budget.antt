-- The sequential run's budget suffices: the number waiting and what the cap still allows fall together by one with each
-- line.
use Rattle.std.proofs.Common.{◌≡◌, ℕ, zero, suc, ◌+◌, ◌-◌, ◌*◌, ◌<◌, ◌≤◌, List, [], ◌∷◌, map, length, get_or, set, refl}
use Rattle.std.proofs.Common.{◌∙◌, inl, inr, arith}
use Rattle.std.specs.List.{range_with_len, AllByRecursion}
use Rattle.std.proofs.lemmas.Bool.{cond_both, cases_eq}
use Rattle.std.proofs.lemmas.List.{get_or-set_same, get_or-set_other, length-set}
use Rattle.model.specs.Meaning.{Meaning, listed, many}
use Rattle.model.specs.declared.state.State.{State}
use Rattle.sequential.specs.declared.event.Event.{Event}
use Rattle.sequential.specs.declared.limits.Limits.{Limits}
use Rattle.sequential.specs.declared.event.Outcome.{Outcome}
use Rattle.sequential.specs.declared.event.Process.{Process}
use Rattle.sequential.specs.Events.{earlier, nobody, process_after}
use Rattle.sequential.specs.Run.{queued, queued_all, fresh, outcome, processes_after, unwritten, budget, BudgetSuffices}
use Rattle.sequential.proofs.Sends.{Fits, Sends, applied-sends, length-listed}
use Rattle.sequential.proofs.Waits.{Among, queued_all_from}

length-queued : (e : Event) (fs : List Event) → length (queued e fs) ≡ suc (length fs)
length-queued e [] = refl
length-queued e (f ∷ fs) = let r = length-queued e fs in cond_both (earlier e f) (e ∷ f ∷ fs) (f ∷ queued e fs)
    (λ gs. length gs ≡ suc (suc (length fs))) (λ _. refl) (λ _. omega arith)

pub length-queued_all : (es fs : List Event) → length (queued_all es fs) ≡ length es + length fs
length-queued_all [] fs = omega arith
length-queued_all (e ∷ es) fs = let r = length-queued_all es (queued e fs) in let q = length-queued e fs in omega arith

-- how many messages the cap still allows
pub slack : ℕ → List Process → ℕ
slack most [] = 0
slack most (q ∷ qs) = (most - q.count) + slack most qs

pub slack_set : (most : ℕ) (ps : List Process) (p k : ℕ) (q : Process) → p < length ps →
    q.count ≡ (get_or ps p nobody).count + k → q.count ≤ most → slack most (set ps p q) + k ≡ slack most ps
unfolding slack
slack_set most [] p k q l e c = absurd (omega arith)
slack_set most (x ∷ xs) zero k q l e c = omega arith
slack_set most (x ∷ xs) (suc p) k q l e c = let r = slack_set most xs p k q (omega arith) e c in omega arith

slack_starts : (most : ℕ) (initial : ℕ → State) (xs : List ℕ) →
    slack most (map (λ (p : ℕ). let q : Process = record { state = initial p; count = 0 } in q) xs) ≡ length xs * most
unfolding slack
slack_starts most initial [] = omega arith
slack_starts most initial (x ∷ xs) = let r = slack_starts most initial xs in omega arith

pub slack_fresh : (m : Meaning) (most : ℕ) → slack most (fresh m) ≡ 32 * most
unfolding fresh
slack_fresh m most = slack_starts most m.initial (range_with_len 0 32)

starts_at_0 : (initial : ℕ → State) (xs : List ℕ) (p : ℕ) →
    (get_or (map (λ (p : ℕ). let q : Process = record { state = initial p; count = 0 } in q) xs) p nobody).count ≡ 0
starts_at_0 initial [] p = refl
starts_at_0 initial (x ∷ xs) zero = refl
starts_at_0 initial (x ∷ xs) (suc p) = starts_at_0 initial xs p

-- no process has sent anything at first
pub fresh-count : (m : Meaning) (p : ℕ) → (get_or (fresh m) p nobody).count ≡ 0
unfolding fresh
fresh-count m p = starts_at_0 m.initial (range_with_len 0 32) p

pub length-fresh : (m : Meaning) → length (fresh m) ≡ 32
unfolding fresh
length-fresh m = refl

pub all_among : (P : Event → Type 0) (es : List Event) → AllByRecursion P es → (f : Event) → Among f es → P f
all_among P [] a f i = absurd i
all_among P (e ∷ es) a f (inl k) = rw k a.0
all_among P (e ∷ es) a f (inr i) = all_among P es a.1 f i

-- what is kept from line to line: 32 processes within the cap, and what waits is for processes of the model
pub record Going (m : Meaning) (u : Limits) (ps : List Process) (ws : List Event) : Type 0 where
  pub size : m.size ≤ 32
  pub many : length ps ≡ 32
  pub capped : (p : ℕ) → (get_or ps p nobody).count ≤ u.most
  pub within : (f : Event) → Among f ws → f.process < m.size

module _ {m : Meaning} {u : Limits} {ps : List Process} {e : Event} {ws : List Event} (G : Going m u ps (e ∷ ws)) where
  o : Outcome
  o = outcome m u ps e

  sends : Sends m.size u e (get_or ps e.process nobody).count o.sends
  unfolding o
  sends = applied-sends m u e (get_or ps e.process nobody)

  inside : e.process < length ps
  inside = let i = G.within e (inl refl) in let j = G.size in let k = G.many in omega arith

  fits : (get_or ps e.process nobody).count + many o.sends ≤ u.most
  fits = sends.capped (G.capped e.process)

  processes_after-capped : (p : ℕ) → (get_or (processes_after ps e o) p nobody).count ≤ u.most
  processes_after-capped p = elim (cases_eq p e.process) [
    | inl k ↦ rw (k, get_or-set_same ps e.process (process_after o (get_or ps e.process nobody)) nobody inside) fits
    | inr n ↦ rw (get_or-set_other ps e.process p (process_after o (get_or ps e.process nobody)) nobody n) (G.capped p)
  ]

  after_within : (f : Event) → Among f (queued_all (listed o.sends) ws) → f.process < m.size
  after_within f i = elim (queued_all_from f (listed o.sends) ws i)
      [ inl j ↦ (all_among (Fits m.size u.end e) (listed o.sends) sends.fit f j).receiver | inr j ↦ G.within f (inr j) ]

  pub Going-on : Going m u (processes_after ps e (outcome m u ps e)) (queued_all (listed (outcome m u ps e).sends) ws)
  unfolding o
  Going-on =
      record {
        size = G.size;
        many = length-set ps e.process _ ∙ G.many;
        capped = processes_after-capped;
        within = after_within;
      }

  -- with one line, the number waiting and the slack fall by one
  pub slack_falls :
      suc (length (queued_all (listed (outcome m u ps e).sends) ws) + slack u.most
      (processes_after ps e (outcome m u ps e))) ≡ length (e ∷ ws) + slack u.most ps
  unfolding o
  slack_falls =
      let q = length-queued_all (listed o.sends) ws in
      let l = length-listed o.sends in
      let f = slack_set u.most ps e.process (many o.sends) (process_after o (get_or ps e.process nobody)) inside refl
      fits in
      omega arith

-- with as many lines as wait and the cap allows, none is left waiting
none_waits : (m : Meaning) (u : Limits) (k : ℕ) (ps : List Process) (ws : List Event) → Going m u ps ws →
    length ws + slack u.most ps ≤ k → unwritten m u k ps ws ≡ []
unfolding unwritten
none_waits m u zero ps [] G l = refl
none_waits m u zero ps (e ∷ ws) G l = absurd (omega arith)
none_waits m u (suc k) ps [] G l = refl
none_waits m u (suc k) ps (e ∷ ws) G l = none_waits m u k _ _ (Going-on G) (let f = slack_falls G in omega arith)

pub budget_suffices : BudgetSuffices
budget_suffices m u posts s h = none_waits m u (budget u posts) (fresh m) (queued_all posts [])
    (record {
      size = s;
      many = length-fresh m;
      capped = λ p. let c = fresh-count m p in omega arith;
      within = λ f i. elim (queued_all_from f posts [] i)
          [ inl j ↦ all_among (λ (e : Event). e.process < m.size) posts h f j | inr j ↦ absurd j ];
    })
    (let q = length-queued_all posts [] in let f = slack_fresh m u.most in omega arith)

-- One turn of the loop that writes lines, over plain values.
use Rattle.std.proofs.Common.{◌≡◌, ℕ, zero, suc, ◌+◌, ◌-◌, ◌<◌, ◌≤◌, List, [], ◌∷◌, ◌++◌, length, get_or, set, sym}
use Rattle.std.proofs.Common.{refl, ap, ◌∙◌, append_assoc, append-nil, arith}
use Rattle.std.proofs.lemmas.List.{nil_from_length}
use Rattle.model.specs.Meaning.{Meaning, listed}
use Rattle.sequential.specs.declared.event.Event.{Event}
use Rattle.sequential.specs.declared.limits.Limits.{Limits}
use Rattle.sequential.specs.declared.event.Line.{Line}
use Rattle.sequential.specs.declared.event.Outcome.{Outcome}
use Rattle.sequential.specs.declared.event.Post.{Post}
use Rattle.sequential.specs.declared.event.Process.{Process}
use Rattle.sequential.specs.Events.{applied, line_of, nobody, process_after}
use Rattle.sequential.specs.Posts.{posted}
use Rattle.sequential.specs.Run.{processes_after, lines, outcome, queued_all}

pub length-posted : (n : ℕ) (ps : List Post) → length (posted n ps) ≡ length ps
length-posted n [] = refl
length-posted n (p ∷ ps) = ap suc (length-posted (n + 1) ps)

module _ (m : Meaning) (u : Limits) where
  -- none is written when none waits, or with no budget left
  lines_idle : (k : ℕ) (ps : List Process) → lines m u k ps [] ≡ []
  unfolding lines
  lines_idle zero ps = refl
  lines_idle (suc k) ps = refl

  lines_spent : (k : ℕ) (ps : List Process) (ws : List Event) → k ≡ 0 → lines m u k ps ws ≡ []
  unfolding lines
  lines_spent k ps ws h = rw h

  lines_more : (k j : ℕ) (ps : List Process) (e : Event) (ws : List Event) → k ≡ suc j →
      lines m u k ps (e ∷ ws) ≡ line_of e (outcome m u ps e) ∷ lines m u j (processes_after ps e (outcome m u ps e))
      (queued_all (listed (outcome m u ps e).sends) ws)
  unfolding lines
  lines_more k j ps e ws h = rw h

  module _ (b i : ℕ) {all : List Line} (done : List Line) (ps : List Process) (ws : List Event)
      (now : all ≡ done ++ lines m u (b - i) ps ws) where
    pub spent : b ≤ i → done ≡ all
    spent l = let z : b - i ≡ 0 = omega arith in
        sym (now ∙ ap (λ ls. done ++ ls) (lines_spent (b - i) ps ws z) ∙ append-nil done)

    pub idled : length ws ≡ 0 → done ≡ all
    idled z = let k = nil_from_length ws z in
        sym (now ∙ ap (λ es. done ++ lines m u (b - i) ps es) k ∙ ap (λ ls. done ++ ls) (lines_idle (b - i) ps)
        ∙ append-nil done)

    pub written : {done' : List Line} {ps' : List Process} {ws₁ ws' : List Event} {e : Event} {q : Process}
        {o : Outcome} {r : Process} {x : Line} → i < b → ws ≡ e ∷ ws₁ →
        q ≡ get_or ps e.process nobody → o ≡ applied m u e q → r ≡ process_after o q → ps' ≡ set ps e.process r →
        x ≡ line_of e o → done' ≡ done ++ (x ∷ []) → ws' ≡ queued_all (listed o.sends) ws₁ →
        all ≡ done' ++ lines m u (b - (i + 1)) ps' ws'
    written {done'} {ps'} {ws₁} {ws'} {e} {q} {o} l first is_q is_o is_r is_ps is_x is_done_lem is_ws =
        now ∙ ap (λ es. done ++ lines m u (b - i) ps es) first
        ∙ ap (λ ls. done ++ ls) (lines_more (b - i) (b - (i + 1)) ps e ws₁ (omega arith) ∙ ap line_then is_outcome)
        ∙ sym (append_assoc done (line_of e o ∷ []) _)
        ∙ cc (is_done_lem, is_x, is_ps, is_r, is_ws, is_q)
      where
        is_outcome : outcome m u ps e ≡ o
        is_outcome = cc (is_q, is_o)

        line_then : Outcome → List Line
        line_then x = line_of e x ∷ lines m u (b - (i + 1)) (processes_after ps e x) (queued_all (listed x.sends) ws₁)

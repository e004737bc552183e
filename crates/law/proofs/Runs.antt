-- Every run of calls keeps the history, does not lower GVT, numbers the posts in their order, and moves as many buffers
-- as its answers tell: one call after the other.
use Rattle.std.proofs.Common.{◌≡◌, ℕ, ◌+◌, ◌≤◌, List, [], ◌∷◌, ◌++◌, length, subst, append_assoc, add-zero, arith}
use Rattle.std.proofs.lemmas.List.{append-nil, length-append}
use Rattle.pool.specs.Lanes.{lent}
use Rattle.sequential.proofs.Sends.{Numbered}
use Rattle.sequential.specs.declared.event.Event.{Event}
use Rattle.sequential.specs.declared.event.Line.{Line}
use Rattle.sequential.specs.declared.event.Process.{Process}
use Rattle.machine.specs.Calls.{World, Transcript, Run}
use Rattle.machine.specs.Calls.Run.{rests, goes}
use Rattle.machine.specs.Machine.{Machine}
use Rattle.law.specs.Law.{posts, sends, annihilations, collected_lines, post_told, lines_told, Proper, start}
use Rattle.law.proofs.Absorb.{none}
use Rattle.law.proofs.Advance.{advance}
use Rattle.law.proofs.History.{History}
use Rattle.law.proofs.Invariant.{Kept}
use Rattle.law.proofs.Start.{History-started}

-- from a machine whose history is the posts ps and the lines ls, the transcript r leads to s'
pub record Advances (W : World) (ps : List Event) (ls : List Line) (s : Machine) (r : Transcript)
    (s' : Machine) : Type 0 where
  pub history : History W (ps ++ posts r) (ls ++ collected_lines r) s'
  pub gvt : s.gvt ≤ s'.gvt
  pub numbered : Numbered s.posted (posts r)
  pub posted : s'.posted ≡ s.posted + length (posts r)
  pub capped : s.posted ≤ W.plan.limits.most → s'.posted ≤ W.plan.limits.most
  pub buffers : lent s'.places + (annihilations r + length (collected_lines r)) ≡
      lent s.places + (length (posts r) + sends r)

pub Run-append : {W : World} {s s₁ s₂ : Machine} {r r₁ : Transcript} → Run W s r s₁ → Run W s₁ r₁ s₂ →
    Run W s (r ++ r₁) s₂
Run-append rests R = R
Run-append (goes d r) R = goes d (Run-append r R)

Numbered-append : (n : ℕ) (xs ys : List Event) → Numbered n xs → Numbered (n + length xs) ys → Numbered n (xs ++ ys)
Numbered-append n [] ys h k = rw add-zero at k
Numbered-append n (x ∷ xs) ys h k = (
  h.0,
  Numbered-append (n + 1) xs ys h.1
      (let e : n + length (x ∷ xs) ≡ (n + 1) + length xs = omega arith in rw e at k),
)

module _ (W : World) (P : Proper W) where
  pub advances : {ps : List Event} {ls : List Line} {s s' : Machine} {r : Transcript} → Run W s r s' →
      History W ps ls s → Advances W ps ls s r s'
  advances {ps} {ls} rests H = record {
    history = rw (append-nil ps, append-nil ls) H;
    gvt = omega arith;
    numbered = tt;
    posted = omega arith;
    capped = λ l. l;
    buffers = omega arith;
  }
  advances {ps} {ls} (goes {s₂ = z} {c = c} {a = a} {r = r} d R) H =
      let A = advance W P d H in
      let B = advances R A.history in record {
        history =
            subst (λ (x : List Event). History W x (ls ++ (lines_told a ++ collected_lines r)) z)
            (append_assoc ps (post_told c a) (posts r))
            (subst (λ (x : List Line). History W ((ps ++ post_told c a) ++ posts r) x z)
            (append_assoc ls (lines_told a) (collected_lines r)) B.history);
        gvt = let i = A.gvt in let j = B.gvt in omega arith;
        numbered = Numbered-append _ (post_told c a) (posts r) A.numbered (rw (← A.posted) B.numbered);
        posted = let i = A.posted in let j = B.posted in let p = length-append (post_told c a) (posts r) in omega arith;
        capped = λ l. B.capped (A.capped l);
        buffers =
            let i = A.buffers in
            let j = B.buffers in
            let p = length-append (post_told c a) (posts r) in
            let q = length-append (lines_told a) (collected_lines r) in omega arith;
      }

  pub from_start : {r : Transcript} {s : Machine} → Run W (start W) r s → Advances W [] [] (start W) r s
  from_start R = advances R (History-started W P)

  -- every machine of a run keeps the invariant
  pub Kept-run : {r : Transcript} {s : Machine} → Run W (start W) r s → (base : ℕ → Process) × Kept W base none [] s
  Kept-run R = let H = (from_start R).history in (H.base, H.kept)

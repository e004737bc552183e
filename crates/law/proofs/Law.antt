-- The law of every run of calls in a proper world, read off the history and the invariant.
use Rattle.std.proofs.Common.{◌≡◌, ℕ, zero, suc, ◌+◌, ◌<◌, ◌≤◌, List, [], ◌∷◌, ◌++◌, length, get_or, refl, arith}
use Rattle.std.proofs.ByRecursion.{All-get_or}
use Rattle.sequential.proofs.Sends.{Numbered}
use Rattle.sequential.specs.declared.event.Event.{Event}
use Rattle.sequential.specs.declared.event.Line.{Line}
use Rattle.machine.specs.Calls.{World, Transcript, Run}
use Rattle.machine.specs.Machine.{Machine, at}
use Rattle.law.specs.Law.{posts, collected_lines, Holds, Unsettled, Proper, Lawful, start}
use Rattle.law.specs.Law.Unsettled.{moving, waits, ending}
use Rattle.law.proofs.Invariant.{transits, pendings, flags, Active}
use Rattle.law.proofs.Remain.{History-lines, remains}
use Rattle.law.proofs.Runs.{from_start, advances, Run-append}
use Rattle.law.proofs.Start.{none_lent, none_posted}

Numbered-at : (n : ℕ) (es : List Event) → Numbered n es → (k : ℕ) (d : Event) → k < length es →
    (get_or es k d).number ≡ n + k
Numbered-at n [] h k d l = absurd (omega arith)
Numbered-at n (e ∷ es) h zero d l = let i = h.0 in omega arith
Numbered-at n (e ∷ es) h (suc k) d l = let r = Numbered-at (n + 1) es h.1 k d (omega arith) in omega arith

module _ (W : World) (P : Proper W) where
  active : (s : Machine) (b : ℕ) → Unsettled (at s b) → Active (transits s) (pendings s) (flags s) b
  active s b (moving e) = Active.moves (rw e refl)
  active s b (waits e) = Active.waits (rw e refl)
  active s b (ending n g) = Active.ends g

  pub law : (r : Transcript) (s : Machine) → Run W (start W) r s → Holds W r s
  law r s R = let A = from_start W P R in record {
    committed = λ k d l. All-get_or (λ (x : Line). x.event.time < s.gvt) (collected_lines r) k d l A.history.early;
    sequential = (_, History-lines W P A.history);
    safe = λ b h. (A.history.kept.timed.covers b (active s b h)).low;
    numbered = λ k d l. let e = Numbered-at (start W).posted (posts r) A.numbered k d l in
        let z = none_posted W P in
        omega arith;
    buffers = let e = A.buffers in let z = none_lent W P in omega arith;
  }

  -- GVT never falls
  pub gvt_never_falls : {r r₁ : Transcript} {s s₁ : Machine} → Run W (start W) r s → Run W s r₁ s₁ → s.gvt ≤ s₁.gvt
  gvt_never_falls R R₁ = (advances W P R₁ (from_start W P R).history).gvt

pub lawful : Lawful
lawful W P =
    (λ r r₁ s s₁ R R₁. (law W P r s R, law W P (r ++ r₁) s₁ (Run-append R R₁), gvt_never_falls W P R R₁), remains W P)

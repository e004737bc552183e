-- What it gives that calls have led to a machine, and that one call more leads on from it.
use Rattle.std.proofs.Common.{◌≡◌, ◌≤◌, List, [], ◌∷◌, ◌++◌, sym, ap, subst}
use Rattle.std.proofs.Math.Bool.{Bool-set}
use Rattle.std.proofs.Math.Logic.{∥∥₁_elim, ∥∥₁_map}
use Rattle.std.proofs.lemmas.Bool.{le-leb, leb-true}
use Rattle.pool.specs.Lanes.{is_out}
use Rattle.pool.specs.Laws.{out_is}
use Rattle.sequential.specs.declared.event.Line.{Line}
use Rattle.machine.specs.declared.call.Answer.{Answer}
use Rattle.machine.specs.declared.call.Call.{Call}
use Rattle.machine.specs.Machine.{Machine}
use Rattle.machine.specs.Calls.{World, Does, Run}
use Rattle.machine.specs.Calls.Run.{rests}
use Rattle.law.specs.Law.{Proper, start}
use Rattle.law.proofs.Offered.{Run-push, posted-capped}
use Rattle.executive.specs.World.{IsReached, Lent}
use Rattle.executive.proofs.Offers.{lent_in_runs}

module _ (W : World) where
  pub reached_start : (s : Machine) → s ≡ start W → ∥ IsReached W s ∥₁
  reached_start s e = ∣ ([], subst (λ t. Run W (start W) [] t) (sym e) rests) ∣₁

  pub reached_more : {s s' : Machine} {c : Call} {a : Answer (List Line)} → ∥ IsReached W s ∥₁ → Does W s c a s' →
      ∥ IsReached W s' ∥₁
  reached_more {c = c} {a = a} h d = ∥∥₁_map h (λ x. (x.0 ++ (c, a) ∷ [], Run-push x.1 d))

  module _ (P : Proper W) (s : Machine) (h : ∥ IsReached W s ∥₁) where
    pub reached_lends : Lent s
    reached_lends = record {
      heads = λ w b e. out_is _ (∥∥₁_elim h (Bool-set _ _) (λ x. ap is_out ((lent_in_runs W P x.1).heads w b e)));
      dones = λ b e. out_is _ (∥∥₁_elim h (Bool-set _ _) (λ x. ap is_out ((lent_in_runs W P x.1).dones b e)));
    }

    pub reached_capped : s.posted ≤ W.plan.limits.most
    reached_capped = leb-true _ _ (∥∥₁_elim h (Bool-set _ _) (λ x. le-leb _ _ (posted-capped W P x.1)))

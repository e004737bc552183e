-- Calls that leave what is ready as it was, lower no GVT and accept no post, one after the other.
use Rattle.std.proofs.Common.{◌≡◌, ℕ, ◌≤◌, sym, ◌∙◌, subst, arith}
use Rattle.sequential.specs.declared.event.Process.{Process}
use Rattle.machine.specs.Machine.{Machine}
use Rattle.law.proofs.Invariant.{lives, flags, events, Ready, Steady}
use Rattle.law.proofs.Parts.{agree}

pub Steady-same : {base : ℕ → Process} {s s' : Machine} → lives s' ≡ lives s → flags s' ≡ flags s →
    events s' ≡ events s → s.gvt ≤ s'.gvt → s'.posted ≡ s.posted → Steady base s s'
Steady-same lv fl ev gvt posted = record {
  gvt = gvt;
  posted = posted;
  stays = λ b l g r. (agree lv b ∙ l, agree fl b ∙ g, agree ev b);
  comes = λ b l g r. (sym (agree lv b) ∙ l, sym (agree fl b) ∙ g, agree ev b);
}

pub Steady-more : {base : ℕ → Process} {s s' s'' : Machine} → Steady base s s' → Steady base s' s'' → Steady base s s''
Steady-more {base} X Y = record {
  gvt = let i = X.gvt in let j = Y.gvt in omega arith;
  posted = Y.posted ∙ X.posted;
  stays = λ b l g r. let x = X.stays b l g r in
      let y = Y.stays b x.0 x.1 (subst (Ready base) (sym x.2) r) in
      (y.0, y.1, y.2 ∙ x.2);
  comes = λ b l g r. let y = Y.comes b l g r in
      let x = X.comes b y.0 y.1 (subst (Ready base) y.2 r) in
      (x.0, x.1, y.2 ∙ x.2);
}

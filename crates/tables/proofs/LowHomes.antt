-- A plan's workers are among the eight.
use Rattle.std.proofs.Common.{◌≡◌, ℕ, ◌<◌, length, get_or, inl, inr, sym, subst, arith}
use Rattle.std.proofs.lemmas.Bool.{cases_lt}
use Rattle.std.proofs.lemmas.List.{get_or_past}
use Rattle.machine.specs.declared.plan.Plan.{Plan}

pub home_low : (u : Plan) (p : ℕ) → length u.home ≡ 32 → get_or u.home p 0 < 8
home_low u p n = elim (cases_lt p 32) [
  | inl h ↦ let a = u.housed p h in let b = u.staffed.1 in omega arith
  | inr h ↦ subst (λ k. k < 8) (sym (get_or_past u.home p 0 (omega arith))) (omega arith)
]

-- Making one call, from what was tested and what was done.
use Rattle.std.proofs.Common.{◌≡◌, ℕ, ◌<◌, ◌≤◌, true, false, List, [], is_some, Some, None, Option, Ok, Err, Result}
use Rattle.std.proofs.Common.{sym, refl, subst, arith}
use Rattle.std.proofs.lemmas.Bool.Decides.{nat_tests}
use Rattle.std.proofs.lemmas.Option.{MatchOption-at_none, MatchOption-at_some}
use Rattle.std.specs.Option.{MatchOption, ok_or}
use Rattle.std.specs.Result.{IsErrAnd}
use Rattle.sequential.specs.declared.event.Line.{Line}
use Rattle.machine.specs.declared.call.Answer.{Answer}
use Rattle.machine.specs.declared.call.Answer.TheVariants.{Opened, Refused, Told}
use Rattle.machine.specs.declared.call.Call.{Call}
use Rattle.machine.specs.declared.call.Call.TheVariants.{Report, Round}
use Rattle.machine.specs.declared.refusal.Refusal.{Refusal}
use Rattle.machine.specs.Machine.{Machine, missing, opened, reported, worker}
use Rattle.machine.specs.Calls.{World, DrawnAll, Does, refusal, lanes_drawn, does, answers}
use Rattle.machine.specs.Calls.Does.{refuses, acts}
use Rattle.machine.specs.Calls.DrawnAll.{none}
use Rattle.tables.specs.declared.homes.WorkerId.{WorkerId}

-- what `?` returns of a lack that `ok_or` turned into a refusal
pub refused_by : {X T : Type 0} (x : Result X Refusal) (o : Option T) {e r : Refusal} → IsErrAnd x (λ y. y ≡ e) →
    Err e ≡ ok_or o r → x ≡ Err r
refused_by (Ok x) o h k = absurd h
refused_by (Err y) None h k = cc (h, k)
refused_by (Err y) (Some t) h k = cc k

module _ {W : World} {s s' : Machine} {c : Call} where
  pub refused : {r : Refusal} → refusal W s c ≡ Some r → s' ≡ s → Does W s c (Refused r) s'
  refused {r} h e = subst (λ t. Does W s c (Refused r) t) (sym e) (refuses r h)

  pub acted : {a : Answer (List Line)} (bs : List ℕ) → refusal W s c ≡ None → DrawnAll s.places (lanes_drawn W s c) bs →
      a ≡ answers W s c → s' ≡ does W s c bs → Does W s c a s'
  acted bs h d e k =
      subst (λ b. Does W s c b s') (sym e) (subst (λ t. Does W s c (answers W s c) t) (sym k) (acts bs h d))

-- a report that no row refuses
pub report_goes : {W : World} {s s' : Machine} {w n : ℕ} → w < W.plan.workers → s.rounding ≡ true →
    is_some (worker s w).report ≡ false → n ≡ missing s'.workers W.plan.workers → s' ≡ reported W.plan w s →
    Does W s (Report w) (Told n s'.gvt) s'
unfolding refusal lanes_drawn does answers
report_goes i j h m e = acted [] (grind (arith, nat_tests)) none (cc (m, e)) e

-- a round that is not open opens
pub round_goes : {W : World} {s s' : Machine} → s.rounding ≡ false → s' ≡ opened W.plan s →
    Does W s Round (Opened W.plan.workers) s'
unfolding refusal lanes_drawn does answers
round_goes h e = acted [] (rw h) none refl e

-- ---- the worker of a call, by its number

pub no_worker : (m n : ℕ) (o : Option WorkerId) → MatchOption o (m ≤ n) (λ w. (w.index ≡ n) × (n < m)) → o ≡ None →
    m ≤ n
no_worker m n o h e = MatchOption-at_none _ _ e h

pub found : (m n : ℕ) (o : Option WorkerId) {w : WorkerId} → MatchOption o (m ≤ n) (λ w. (w.index ≡ n) × (n < m)) →
    o ≡ Some w →
    (w.index ≡ n) × (w.index < m)
found m n o {w} h e =
    let d : (w.index ≡ n) × (n < m) = MatchOption-at_some _ _ w e h in
    (d.0, omega arith)

-- the same call, by an equal number
pub at_worker : {W : World} {s s' : Machine} {a : Answer (List Line)} (call : ℕ → Call) {w n : ℕ} → w ≡ n →
    Does W s (call w) a s' → Does W s (call n) a s'
at_worker {W} {s} {s'} {a} call e d = subst (λ k. Does W s (call k) a s') e d

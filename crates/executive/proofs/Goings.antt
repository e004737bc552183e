-- What an executive has of the law, what one call makes of it, and going on: one call more, and runs in the world of
-- the setup.
use Rattle.std.proofs.Common.{◌≡◌, ℕ, ◌+◌, ◌<◌, ◌≤◌, List, [], ◌∷◌, ◌++◌, length, get_or, take, Some, Vec, sym, refl}
use Rattle.std.proofs.Common.{ap, ◌∙◌, subst}
use Rattle.std.specs.declared.alloc.Global.{Global}
use Rattle.model.specs.declared.Model.{Ghosts as OfModel}
use Rattle.pool.specs.declared.Pool.{Ghosts as OfPool}
use Rattle.sequential.specs.declared.event.Line.{Line}
use Rattle.machine.specs.declared.call.Answer.{Answer}
use Rattle.machine.specs.declared.call.Answer.TheVariants.{Refused}
use Rattle.machine.specs.declared.call.Call.{Call}
use Rattle.machine.specs.declared.refusal.Refusal.{Refusal}
use Rattle.machine.specs.Machine.{Machine}
use Rattle.machine.specs.Calls.{Does, Run, Transcript, refusal}
use Rattle.law.specs.Law.{start}
use Rattle.law.proofs.Offered.{Run-push}
use Rattle.executive.specs.declared.Executive.{Executive}
use Rattle.executive.specs.declared.Setup.{Setup}
use Rattle.executive.specs.Running.{Goes, Makes, Starts, machine, set_up, world}
use Rattle.executive.specs.Runs.{answer_of, transcript_of}
use Rattle.executive.specs.World.{IsReached, Lent, world_of}
use Rattle.executive.proofs.Does.{refused}
use Rattle.executive.proofs.Offers.{transcript_more}
use Rattle.executive.proofs.Reached.{reached_capped, reached_lends, reached_more}

module _ {M P : Type 0} {m : OfModel M} {p : OfPool P} where
  -- the buffers that calls return are out, and no more is posted than the cap
  pub lends : (x : Executive M P m p) → Lent (machine x)
  lends x = reached_lends (world x) x.proper (machine x) x.reached

  pub capped : (x : Executive M P m p) → x.tables.posted ≤ x.plan.limits.most
  capped x = reached_capped (world x) x.proper (machine x) x.reached

  -- a machine that is still this one, or that one call leads to
  pub still_reached : (x : Executive M P m p) {s : Machine} → s ≡ machine x → ∥ IsReached (world x) s ∥₁
  still_reached x e = subst (λ t. ∥ IsReached (world x) t ∥₁) (sym e) x.reached

  pub then_reached : (x : Executive M P m p) {s : Machine} {c : Call} {a : Answer (List Line)} →
      Does (world x) (machine x) c a s → ∥ IsReached (world x) s ∥₁
  then_reached x d = reached_more (world x) x.reached d

  -- a refusal changes nothing
  pub refuses : (x : Executive M P m p) {c : Call} {r : Refusal} → refusal (world x) (machine x) c ≡ Some r →
      Makes x c (Refused r) x
  refuses x h = record { model = refl; plan = refl; does = refused h refl }

  -- the same model and plan are the same world
  pub same_world : (x y : Executive M P m p) → y.model ≡ x.model → y.plan ≡ x.plan → world y ≡ world x
  same_world x y e f = ap (λ n. world_of (m.meaning n) p.lanes y.plan) e ∙ ap
      (λ u. world_of (m.meaning x.model) p.lanes u) f

  pub starts_world : (s : Setup M P m p) (x : Executive M P m p) → Starts s x → world x ≡ set_up s
  starts_world s x h = ap (λ n. world_of (m.meaning n) p.lanes x.plan) h.model ∙ ap
      (λ u. world_of (m.meaning s.model) p.lanes u) h.plan

  -- one call more
  pub goes_more : {x y z : Executive M P m p} {r : Transcript} {c : Call} {a : Answer (List Line)} → Goes x r y →
      Makes y c a z → Goes x (r ++ (c, a) ∷ []) z
  goes_more {x} {y} {z} {r} {c} {a} so_far made = record {
    model = made.model ∙ so_far.model;
    plan = made.plan ∙ so_far.plan;
    runs = Run-push so_far.runs (subst (λ V. Does V (machine y) c a (machine z))
        (same_world x y so_far.model so_far.plan) made.does);
  }

  -- the same of the next call of a list
  pub goes_call : {x y z : Executive M P m p} (cs : List Call) (xs ys : List (Answer (Vec Line Global))) (i : ℕ)
      (d : Call) (a : Answer (Vec Line Global)) → i < length cs → length xs ≡ i → ys ≡ xs ++ a ∷ [] →
      Goes x (transcript_of (take i cs) xs) y → Makes y (get_or cs i d) (answer_of a) z →
      Goes x (transcript_of (take (i + 1) cs) ys) z
  goes_call {x} {y} {z} cs xs ys i d a b n e so_far made =
      subst (λ zs. Goes x (transcript_of (take (i + 1) cs) zs) z) (sym e)
      (subst (λ t. Goes x t z) (sym (transcript_more cs xs i d a b n)) (goes_more so_far made))

  -- from an executive that has just started
  pub went_first : {s : Setup M P m p} {x y : Executive M P m p} {r : Transcript} → Starts s x → Goes x r y →
      Run (set_up s) (start (set_up s)) r (machine y)
  went_first {s} {x} {y} {r} h w = subst (λ t. Run (set_up s) t r (machine y)) h.begins
      (subst (λ W. Run W (machine x) r (machine y)) (starts_world s x h) w.runs)

  -- and from where that has come
  pub went_on : {s : Setup M P m p} {x y z : Executive M P m p} {q r : Transcript} → Starts s x → Goes x q y →
      Goes y r z → Run (set_up s) (machine y) r (machine z)
  went_on {s} {x} {y} {z} {q} {r} h w v = subst (λ W. Run W (machine y) r (machine z))
      (same_world x y w.model w.plan ∙ starts_world s x h) v.runs

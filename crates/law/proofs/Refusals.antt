-- A call that is not refused has passed every test of its refusals.
use Rattle.std.proofs.Common.{◌≡◌, ℕ, ◌<◌, ◌≤◌, Bool, true, false, cond, not, eqb, ltb, leb, is_some, Some, None}
use Rattle.std.proofs.Common.{Option, refl, arith}
use Rattle.std.proofs.lemmas.Bool.{not-false, leb-false, ltb-false, eqb-false}
use Rattle.machine.specs.Calls.{World, refusal, lanes_drawn, enough}
use Rattle.machine.specs.Machine.{Machine, next}
use Rattle.machine.specs.declared.call.Call.{Call}
use Rattle.machine.specs.declared.call.Call.TheVariants.{Post, Absorb, Step, Round, Report, Collect}
use Rattle.machine.specs.declared.refusal.Refusal.{Refusal}
use Rattle.law.proofs.Invariant.{reports}

-- the first test failed, and none of the others refuses
passed : (t : Bool) (r : Refusal) (o : Option Refusal) → cond t (Some r) o ≡ None → (t ≡ false) × (o ≡ None)
passed true r o h = absurd (grind arith)
passed false r o h = (refl, h)

is_none_lem : (o : Option ℕ) → is_some o ≡ false → o ≡ None
is_none_lem None h = refl
is_none_lem (Some t) h = absurd (grind arith)

is_some_lem : (o : Option ℕ) → is_some o ≡ true → (t : ℕ) × (o ≡ Some t)
is_some_lem None h = absurd (grind arith)
is_some_lem (Some t) h = (t, refl)

module _ (W : World) (s : Machine) where
  -- the receiver is a process, the time is neither before GVT nor past the end, and the cap is not reached
  pub post_passed : (p t x : ℕ) → refusal W s (Post p t x) ≡ None →
      (p < W.model.size) × (s.gvt ≤ t) × (t < W.plan.limits.end) × (s.posted ≡ W.plan.limits.most → ⊥)
  unfolding refusal
  post_passed p t x h =
      let a = passed (leb W.model.size p) _ _ h in
      let b = passed (ltb t s.gvt) _ _ a.1 in
      let c = passed (leb W.plan.limits.end t) _ _ b.1 in
      let d = passed (eqb s.posted W.plan.limits.most) _ _ c.1 in
      (leb-false _ _ a.0, ltb-false _ _ b.0, leb-false _ _ c.0, eqb-false _ _ d.0)

  pub absorb_passed : (w : ℕ) → refusal W s (Absorb w) ≡ None → w < W.plan.workers
  unfolding refusal
  absorb_passed w h = leb-false _ _ (passed (leb W.plan.workers w) _ _ h).0

  -- the worker has a pending event
  pub step_passed : (w : ℕ) → refusal W s (Step w) ≡ None →
      (w < W.plan.workers) × ((b : ℕ) × (next W.plan w s ≡ Some b))
  unfolding refusal
  step_passed w h =
      let a = passed (leb W.plan.workers w) _ _ h in
      let b = passed _ _ _ a.1 in
      let c = passed (not (is_some (next W.plan w s))) _ _ b.1 in
      (leb-false _ _ a.0, is_some_lem (next W.plan w s) (not-false _ c.0))

  -- a round is open, and the worker has not reported in it
  pub report_passed : (w : ℕ) → refusal W s (Report w) ≡ None →
      (w < W.plan.workers) × (s.rounding ≡ true) × (reports s w ≡ None)
  unfolding refusal
  report_passed w h =
      let a = passed (leb W.plan.workers w) _ _ h in
      let b = passed (not s.rounding) _ _ a.1 in
      let c = passed (is_some (reports s w)) _ _ b.1 in
      (leb-false _ _ a.0, not-false _ b.0, is_none_lem (reports s w) c.0)

  -- every lane that the call draws from holds as many buffers as it asks for
  pub stocked : (c : Call) → refusal W s c ≡ None → enough s.places (lanes_drawn W s c) (lanes_drawn W s c) ≡ true
  unfolding refusal lanes_drawn
  stocked (Post p t x) h =
      let a = passed (leb W.model.size p) _ _ h in
      let b = passed (ltb t s.gvt) _ _ a.1 in
      let c = passed (leb W.plan.limits.end t) _ _ b.1 in
      let d = passed (eqb s.posted W.plan.limits.most) _ _ c.1 in
      not-false _
      (passed (not (enough s.places (lanes_drawn W s (Post p t x)) (lanes_drawn W s (Post p t x)))) _ _ d.1).0
  stocked (Absorb w) h = refl
  stocked (Step w) h =
      let a = passed (leb W.plan.workers w) _ _ h in
      not-false _ (passed (not (enough s.places (lanes_drawn W s (Step w)) (lanes_drawn W s (Step w)))) _ _ a.1).0
  stocked Round h = refl
  stocked (Report w) h = refl
  stocked (Collect k) h = refl

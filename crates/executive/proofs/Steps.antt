-- A step: refused where a lane is short or nothing is pending, else the least pending event is applied.
use Rattle.std.proofs.Common.{◌≡◌, ℕ, ◌<◌, not, List, [], get_or, is_some, Some, None, Option, sym, refl, ap, ◌∙◌}
use Rattle.std.proofs.Common.{subst, arith}
use Rattle.std.proofs.lemmas.Bool.Decides.{nat_tests}
use Rattle.model.specs.Meaning.{listed, many}
use Rattle.model.specs.declared.reaction.Few.{Few}
use Rattle.model.specs.declared.reaction.Few.TheVariants.{Nothing, One, Two}
use Rattle.pool.specs.declared.place.Place.{Place}
use Rattle.sequential.specs.Events.{applied, nobody}
use Rattle.sequential.specs.declared.event.Event.{Event}
use Rattle.sequential.specs.declared.event.Outcome.{Outcome}
use Rattle.sequential.specs.declared.event.Process.{Process}
use Rattle.machine.specs.declared.call.Answer.TheVariants.{Stepped}
use Rattle.machine.specs.declared.call.Call.TheVariants.{Step}
use Rattle.machine.specs.declared.refusal.Refusal.TheVariants.{LaneShort, NothingPending}
use Rattle.machine.specs.Machine.{Machine, at, doing, few, next, outs, stepped_by}
use Rattle.machine.specs.Calls.{World, Does, DrawnAll, refusal, lanes_drawn, does, answers, enough, draw_lanes}
use Rattle.tables.specs.Meaning.{machine_of}
use Rattle.tables.specs.declared.Tables.{Tables}
use Rattle.executive.specs.Draws.{DrawsFor}
use Rattle.executive.proofs.Does.{acted}

few-listed : (bs : Few ℕ) → few (listed bs) ≡ bs
few-listed Nothing = refl
few-listed (One a) = refl
few-listed (Two a b) = refl

module _ (W : World) (s : Machine) (w : ℕ) where
  draws_none : next W.plan w s ≡ None → lanes_drawn W s (Step w) ≡ []
  unfolding lanes_drawn
  draws_none h = rw (h, lanes_drawn) refl

  draws_some : (b : ℕ) → next W.plan w s ≡ Some b → lanes_drawn W s (Step w) ≡ draw_lanes W w
      (listed (doing W.model W.plan s b).sends)
  unfolding lanes_drawn
  draws_some b h = rw (h, lanes_drawn) refl

  answers_some : (b : ℕ) → next W.plan w s ≡ Some b →
      answers W s (Step w) ≡ Stepped (at s b).event.time (at s b).event.process (many (doing W.model W.plan s b).sends)
  unfolding answers
  answers_some b h = rw (h, answers) refl

  does_some : (b : ℕ) (bs : List ℕ) → next W.plan w s ≡ Some b →
      does W s (Step w) bs ≡ stepped_by W.plan w b (doing W.model W.plan s b) (few bs) s
  unfolding does
  does_some b bs h = rw (h, does) refl

module _ (W : World) (s : Machine) (w : ℕ) (i : w < W.plan.workers) where
  pub step_waits : {n : Option ℕ} → n ≡ next W.plan w s → n ≡ None → refusal W s (Step w) ≡ Some NothingPending
  unfolding refusal
  step_waits found none =
      let h : next W.plan w s ≡ None = sym found ∙ none in
      let d = ap (λ ls. not (enough s.places ls ls)) (draws_none W s w h) in
      let e = ap is_some h in
      grind (arith, nat_tests)

  -- the event in the buffer b is the next, and o is what applying it does
  module _ {n : Option ℕ} {b : ℕ} {o : Outcome} {e : Event} {q : Process} (found : n ≡ next W.plan w s)
      (some : n ≡ Some b) (is_e : e ≡ (at s b).event) (is_q : q ≡ get_or s.processes e.process nobody)
      (applies : o ≡ applied W.model W.plan.limits e q) where
    h : next W.plan w s ≡ Some b
    h = sym found ∙ some

    k : o ≡ doing W.model W.plan s b
    k = cc (applies, is_e, is_q)

    is_draws : lanes_drawn W s (Step w) ≡ draw_lanes W w (listed o.sends)
    is_draws = draws_some W s w b h ∙ ap (λ (x : Outcome). draw_lanes W w (listed x.sends)) (sym k)

    module _ {pl : List Place} {d : Option (Few ℕ)} (drew : DrawsFor W.lanes W.plan w o.sends s.places pl d) where
      pub step_lacks : d ≡ None → (refusal W s (Step w) ≡ Some LaneShort) × (pl ≡ s.places)
      unfolding refusal
      step_lacks none =
          let z = rw none at drew in
          let lacks = ap not (ap (λ ls. enough s.places ls ls) is_draws ∙ z.0) in
          (grind (arith, nat_tests), z.1)

      pub step_goes : {m : ℕ} (t : Tables) (bs : Few ℕ) → d ≡ Some bs → m ≡ many o.sends →
          machine_of t (outs (listed bs) s.places) ≡ stepped_by W.plan w b o bs s →
          Does W s (Step w) (Stepped e.time e.process m) (machine_of t pl)
      unfolding refusal
      step_goes {m} t bs some_bs is_m made =
          let z = rw some_bs at drew in
          let lacks = ap not (ap (λ ls. enough s.places ls ls) is_draws ∙ z.0) in
          let pends = ap is_some h in
          acted (listed bs) (grind (arith, nat_tests))
          (subst (λ ls. DrawnAll s.places ls (listed bs)) (sym is_draws) z.1)
          (cc (is_m, is_e, ap (λ (x : Outcome). many x.sends) k, answers_some W s w b h))
          (rw z.2 (made ∙ cc (few-listed bs, k, does_some W s w b (listed bs) h)))

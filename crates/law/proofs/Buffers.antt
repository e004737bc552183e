-- How each call moves buffers: a message sent takes one out, an annihilation and a line collected put one back, and a
-- round none.
use Rattle.std.proofs.Common.{◌≡◌, ℕ, zero, suc, ◌+◌, List, [], ◌∷◌, length, set, Some, None, Option, refl, ap, arith}
use Rattle.model.specs.Meaning.{listed}
use Rattle.model.specs.declared.reaction.Few.{Few}
use Rattle.pool.specs.Lanes.{place_at, lent}
use Rattle.pool.specs.declared.place.Place.{Place}
use Rattle.pool.specs.declared.place.Place.TheVariants.{Out, Lane}
use Rattle.sequential.specs.declared.event.Event.{Event}
use Rattle.sequential.specs.declared.event.Process.{Process}
use Rattle.machine.specs.Calls.{World, DrawnAll}
use Rattle.machine.specs.Calls.DrawnAll.{none as no_lanes, one as from_lane}
use Rattle.machine.specs.Machine.{Machine, Collected, oldest, freed, sent, enter, lower, sent_all, stepped_by, stepped}
use Rattle.machine.specs.Machine.{doing, opened, collected, reported, with_report, missing}
use Rattle.machine.specs.declared.plan.Plan.{Plan}
use Rattle.law.specs.Law.{Proper}
use Rattle.law.proofs.Absorb.{none}
use Rattle.law.proofs.Collected.{onward, ripened, Kept-one}
use Rattle.law.proofs.Freed.{lent_out, freed_back}
use Rattle.law.proofs.History.{collected_some}
use Rattle.law.proofs.Invariant.{Kept}
use Rattle.law.proofs.Picks.{done_lives}

-- the messages of a step
pub sent_all_out : (u : Plan) (w : ℕ) {places : List Place} {ls bs : List ℕ} → DrawnAll places ls bs →
    (es : List Event) (s : Machine) → s.places ≡ places → length ls ≡ length es →
    lent (sent_all u w bs es s).places ≡ lent places + length es
unfolding sent_all sent enter lower
sent_all_out u w no_lanes [] s is n = rw is (omega arith)
sent_all_out u w no_lanes (e ∷ es) s is n = absurd (omega arith)
sent_all_out u w (from_lane h D) [] s is n = absurd (omega arith)
sent_all_out u w (from_lane {places = places} {l = l} {b = b} h D) (e ∷ es) s is n =
    let r = sent_all_out u w D es (lower w e.time (sent u b e s)) (ap (λ (xs : List Place). set xs b Out) is)
    (omega arith) in
    let q = lent_out places b l h in omega arith

module _ (W : World) (P : Proper W) where
  -- the lines of a collection
  pub collected_back : (k : ℕ) (base : ℕ → Process) (s : Machine) → Kept W base none [] s →
      lent (collected W.lanes W.plan k s).machine.places + length (collected W.lanes W.plan k s).lines ≡ lent s.places
  unfolding collected
  collected_back zero base s K = omega arith
  collected_back (suc k) base s K = go (oldest s) refl (collected_back k)
    where
      Goal : Collected → Type 0
      Goal r = lent r.machine.places + length r.lines ≡ lent s.places

      go : (o : Option ℕ) → oldest s ≡ o →
          ((base : ℕ → Process) (s : Machine) → Kept W base none [] s →
          lent (collected W.lanes W.plan k s).machine.places + length (collected W.lanes W.plan k s).lines ≡
          lent s.places) →
          Goal (collected W.lanes W.plan (suc k) s)
      go None h f = rw (h, collected) (omega arith)
      go (Some d) h f = rw (collected_some W.lanes W.plan k s d h)
          (let r = f (onward base s d) (freed W.lanes W.plan d s) (Kept-one W P base W.lanes d s K h) in
          let q = freed_back W W.lanes s d K (done_lives s d (ripened W P base W.lanes d s K h).0) in omega arith)

  pub sent_out : (u : Plan) (b l : ℕ) (e : Event) (s : Machine) → place_at s.places b ≡ Lane l →
      lent (sent u b e s).places ≡ suc (lent s.places)
  unfolding sent enter
  sent_out u b l e s h = lent_out s.places b l h

  pub stepped-places : (w b : ℕ) (bs : Few ℕ) (s : Machine) →
      lent (stepped W.model W.plan w b bs s).places ≡
      lent (sent_all W.plan w (listed bs) (listed (doing W.model W.plan s b).sends) s).places
  unfolding stepped_by
  stepped-places w b bs s = refl

  pub opened-places : (s : Machine) → lent (opened W.plan s).places ≡ lent s.places
  unfolding opened
  opened-places s = refl

  pub reported_places : (w : ℕ) (s : Machine) → (reported W.plan w s).places ≡ s.places
  unfolding reported with_report
  reported_places w s = go (missing (with_report W.plan w s).workers W.plan.workers) refl
    where
      go : (k : ℕ) → missing (with_report W.plan w s).workers W.plan.workers ≡ k →
          (reported W.plan w s).places ≡ s.places
      go zero h = rw (h, reported) refl
      go (suc k) h = rw (h, reported) refl

-- A post, once its process, its time and its number fit: refused where its draw lane is empty, else sent into the
-- buffer drawn.
use Rattle.std.proofs.Common.{◌≡◌, ℕ, ◌+◌, ◌<◌, ◌≤◌, min, true, false, not, ◌≢◌, List, [], ◌∷◌, length, set, Some, None}
use Rattle.std.proofs.Common.{Option, ap, subst, arith}
use Rattle.std.proofs.lemmas.Bool.Decides.{nat_tests}
use Rattle.pool.specs.Calls.{DrawnOne as Draw}
use Rattle.pool.specs.Lanes.{lies, place_at}
use Rattle.pool.specs.declared.grant.Grant.{Grant}
use Rattle.pool.specs.declared.place.Place.{Place}
use Rattle.pool.specs.declared.place.Place.TheVariants.{Lane, Out}
use Rattle.pool.specs.Laws.{held}
use Rattle.machine.specs.declared.call.Answer.TheVariants.{Posted}
use Rattle.machine.specs.declared.call.Call.TheVariants.{Post}
use Rattle.machine.specs.declared.refusal.Refusal.TheVariants.{LaneShort}
use Rattle.machine.specs.Machine.{Machine, home, sent, with_outside}
use Rattle.machine.specs.Calls.{World, Does, refusal, lanes_drawn, does, answers, post_of, lacks_buffers}
use Rattle.tables.specs.Meaning.{machine_of}
use Rattle.tables.specs.declared.Tables.{Tables}
use Rattle.executive.proofs.Does.{acted}
use Rattle.executive.proofs.Enough.{one_short, one_enough, one_drawn}
use Rattle.executive.proofs.Few.{pair_fits}

module _ (W : World) (s : Machine) (p t x : ℕ) {h : ℕ} (is_h : h ≡ home W.plan p) (i : p < W.model.size)
    (j : s.gvt ≤ t) (k : t < W.plan.limits.end) (n : s.posted ≢ W.plan.limits.most) where
  module _ {pl : List Place} {o : Option Grant} (drew : Draw W.lanes s.places pl 8 h o) where
    pub post_lacks : o ≡ None → h < 8 → (refusal W s (Post p t x) ≡ Some LaneShort) × (pl ≡ s.places)
    unfolding refusal lanes_drawn
    post_lacks none low =
        let d = rw none at drew in
        let z : lies (W.lanes.draw 8 (home W.plan p)) s.places ≡ 0 =
        subst (λ v. lies (W.lanes.draw 8 v) s.places ≡ 0) is_h (d.0 (pair_fits 8 h (omega arith) low)) in
        let lacks : lacks_buffers W s (Post p t x) ≡ true = ap not (one_short s.places _ z) in
        (grind (arith, nat_tests), d.1)

    pub post_goes : {m b : ℕ} (t' : Tables) (g : Grant) → o ≡ Some g → length s.places ≡ 256 → b ≡ g.buffer →
        m ≡ s.posted →
        machine_of t' (set s.places b Out) ≡ with_outside (s.posted + 1) (min s.floor t)
        (sent W.plan b (post_of W s p t x) s) →
        Does W s (Post p t x) (Posted m) (machine_of t' pl)
    unfolding refusal lanes_drawn answers does
    post_goes {m} {b} t' g some full same q e =
        let d = rw some at drew in
        let lane : place_at s.places b ≡ Lane (W.lanes.draw 8 (home W.plan p)) =
        rw same (subst (λ v. place_at s.places g.buffer ≡ Lane (W.lanes.draw 8 v)) is_h d.2) in
        let within : b < length s.places = omega (arith, d.1, full) in
        let holds : lacks_buffers W s (Post p t x) ≡ false =
        ap not (one_enough s.places _ (held _ s.places b within lane)) in
        let after : pl ≡ set s.places b Out = rw same d.3 in
        acted (b ∷ []) (grind (arith, nat_tests)) (one_drawn s.places _ b lane) (ap Posted q) (rw after e)

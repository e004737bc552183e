-- Drawing for none, one or two messages: what the grants of the pool add up to.
use Rattle.std.proofs.Common.{◌≡◌, ℕ, ◌<◌, true, List, length, set, Some, None, sym, refl, ap, ◌∙◌, subst, arith}
use Rattle.std.proofs.lemmas.Bool.Decides.{nat_tests}
use Rattle.model.specs.declared.reaction.Few.{Few}
use Rattle.model.specs.declared.reaction.Few.TheVariants.{Nothing, One, Two}
use Rattle.pool.specs.Calls.{DrawnOne as Draw, handed_in}
use Rattle.pool.specs.Lanes.{Lanes, is_pair, lies, place_at}
use Rattle.pool.specs.declared.grant.Grant.{Grant}
use Rattle.pool.specs.declared.place.Place.{Place}
use Rattle.pool.specs.declared.place.Place.TheVariants.{Out, Lane}
use Rattle.pool.specs.Laws.{held, hand_back-draw}
use Rattle.pool.proofs.Draws.{handed, set_out_at}
use Rattle.sequential.specs.declared.event.Event.{Event}
use Rattle.machine.specs.declared.plan.Plan.{Plan}
use Rattle.machine.specs.Machine.{home}
use Rattle.machine.specs.Calls.DrawnAll.{none}
use Rattle.executive.specs.Draws.{DrawsFor}
use Rattle.executive.proofs.Enough.{one_enough, one_drawn, two_short, two_enough, two_drawn}

-- sides are below 9, and workers below 8
pub pair_fits : (i j : ℕ) → i < 9 → j < 8 → is_pair i j ≡ true
pair_fits i j h k = grind (arith, nat_tests)

module _ (l : Lanes) (u : Plan) (w : ℕ) (pl : List Place) where
  pub draws_none : {es : Few Event} → es ≡ Nothing → DrawsFor l u w es pl pl (Some Nothing)
  draws_none q = rw q (refl, none, refl, refl)

  -- with 256 places, a grant from the first message's lane
  module _ (e : Event) {h : ℕ} {pl₁ : List Place} (n : length pl ≡ 256) (is_h : h ≡ home u e.process) (d : Grant)
      (drew : Draw l pl pl₁ w h (Some d)) where
    within : d.buffer < length pl
    within = omega (arith, drew.1, n)

    lane : place_at pl d.buffer ≡ Lane (l.draw w (home u e.process))
    lane = subst (λ x. place_at pl d.buffer ≡ Lane (l.draw w x)) is_h drew.2

    pub draws_one : {es : Few Event} {b : ℕ} → es ≡ One e → b ≡ d.buffer → DrawsFor l u w es pl pl₁ (Some (One b))
    draws_one q same = rw (q, same) (
      one_enough pl _ (held _ pl d.buffer within lane),
      one_drawn pl _ d.buffer lane,
      drew.3,
      refl,
    )

    module _ (f : Event) {k : ℕ} {pl₂ : List Place} (n₁ : length pl₁ ≡ 256) (is_k : k ≡ home u f.process) where
      -- and one from the second's
      pub draws_two : {es : Few Event} {b a : ℕ} (d₂ : Grant) → Draw l pl₁ pl₂ w k (Some d₂) → es ≡ Two e f →
          b ≡ d.buffer → a ≡ d₂.buffer →
          DrawsFor l u w es pl pl₂ (Some (Two b a))
      draws_two d₂ drew₂ q same same₂ =
          let after = drew.3 in
          let i : d₂.buffer < length (set pl d.buffer Out) = subst (λ x. d₂.buffer < length x) after
          (omega (arith, drew₂.1, n₁)) in
          let j : place_at (set pl d.buffer Out) d₂.buffer ≡ Lane (l.draw w (home u f.process)) = cc
          (drew₂.2, after, is_k) in
          rw (q, same, same₂) (
            two_enough pl _ _ d.buffer within lane d₂.buffer i j,
            two_drawn pl _ _ d.buffer within lane d₂.buffer j,
            drew₂.3 ∙ ap (λ x. set x d₂.buffer Out) after,
            refl,
          )

      -- or none, and the first is handed back
      pub draws_back : {es : Few Event} {pl₃ : List Place} → Draw l pl₁ pl₂ w k None →
          pl₃ ≡ handed_in (l.draw w h) w h d.buffer pl₂ → es ≡ Two e f → w < 8 → h < 8 → k < 8 →
          DrawsFor l u w es pl pl₃ None
      draws_back {pl₃ = pl₃} drew₂ back q w_low h_low k_low =
          let after = drew.3 in
          let empty = drew₂.0 (pair_fits w k (omega arith) k_low) in
          let z : lies (l.draw w (home u f.process)) (set pl d.buffer Out) ≡ 0 = subst
          (λ x. lies (l.draw w x) (set pl d.buffer Out) ≡ 0) is_k
          (subst (λ x. lies (l.draw w k) x ≡ 0) after empty) in
          let p : pl₂ ≡ set pl d.buffer Out = drew₂.1 ∙ after in
          let o : place_at pl₂ d.buffer ≡ Out = subst (λ x. place_at x d.buffer ≡ Out) (sym p)
          (set_out_at pl d.buffer) in
          let r : pl₃ ≡ pl = back ∙ (handed (l.draw w h) w h d.buffer pl₂ (pair_fits w h (omega arith) h_low) o).1 ∙ ap
          (λ x. set x d.buffer (Lane (l.draw w h))) p ∙ hand_back-draw (l.draw w h) pl d.buffer drew.2 in
          rw q (two_short pl _ _ d.buffer within lane z, r)

-- What a proper world gives: every process of the model is at home with one of the workers, and a new pool has no
-- buffer out.
use Rattle.std.proofs.Common.{◌≡◌, ℕ, zero, suc, ◌<◌, List, [], ◌∷◌, length, arith}
use Rattle.pool.specs.Lanes.{place_at, lent}
use Rattle.pool.specs.declared.place.Place.{Place}
use Rattle.pool.specs.declared.place.Place.TheVariants.{Out, Lane}
use Rattle.machine.specs.Calls.{World}
use Rattle.machine.specs.Machine.{home}
use Rattle.law.specs.Law.{Proper}

pub homes : (W : World) → Proper W → (p : ℕ) → p < W.model.size → home W.plan p < W.plan.workers
homes W P p l = W.plan.housed p (let i = P.sized.1 in omega arith)

-- where none is out, no place is
pub none_out_at : (ps : List Place) → lent ps ≡ 0 → (b : ℕ) → b < length ps → place_at ps b ≡ Out → ⊥
unfolding lent
none_out_at [] h b l e = omega arith
none_out_at (Out ∷ ps) h b l e = omega arith
none_out_at (Lane m ∷ ps) h zero l e = grind arith
none_out_at (Lane m ∷ ps) h (suc b) l e = none_out_at ps h b (omega arith) e

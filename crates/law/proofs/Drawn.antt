-- Buffers drawn from lanes: as many as lanes were asked for, and one event's messages fit a few.
use Rattle.std.proofs.Common.{◌≡◌, ℕ, ◌≤◌, List, [], ◌∷◌, length, refl, arith}
use Rattle.std.proofs.lemmas.List.{length-map}
use Rattle.model.specs.Meaning.{listed, many}
use Rattle.model.specs.declared.reaction.Few.{Few}
use Rattle.model.specs.declared.reaction.Few.TheVariants.{Nothing, One, Two}
use Rattle.pool.specs.Lanes.{place_at}
use Rattle.pool.specs.declared.place.Place.{Place}
use Rattle.pool.specs.declared.place.Place.TheVariants.{Lane}
use Rattle.sequential.proofs.Sends.{length-listed}
use Rattle.sequential.specs.declared.event.Event.{Event}
use Rattle.machine.specs.Calls.{World, DrawnAll, draw_lanes}
use Rattle.machine.specs.Calls.DrawnAll.{none as no_lanes, one as from_lane}
use Rattle.machine.specs.Machine.{few}

pub DrawnAll-first : {places : List Place} {bs : List ℕ} {l : ℕ} {ls : List ℕ} → DrawnAll places (l ∷ ls) bs →
    (b : ℕ) × (rest : List ℕ) × (bs ≡ b ∷ rest) × (place_at places b ≡ Lane l)
DrawnAll-first (from_lane {b = b} {bs = bs} h D) = (b, bs, refl, h)

pub DrawnAll-length : {places : List Place} {ls bs : List ℕ} → DrawnAll places ls bs → length bs ≡ length ls
DrawnAll-length no_lanes = refl
DrawnAll-length (from_lane h D) = let r = DrawnAll-length D in omega arith

at_most_two : {A : Type 0} (xs : Few A) → many xs ≤ 2
at_most_two Nothing = omega arith
at_most_two (One a) = omega arith
at_most_two (Two a b) = omega arith

few-listed : {A : Type 0} (xs : List A) → length xs ≤ 2 → listed (few xs) ≡ xs
few-listed [] l = refl
few-listed (a ∷ []) l = refl
few-listed (a ∷ b ∷ []) l = refl
few-listed (a ∷ b ∷ c ∷ xs) l = absurd (omega arith)

-- the buffers drawn for the messages of one event are a few
pub DrawnAll-few : (W : World) (w : ℕ) (es : Few Event) {places : List Place} {bs : List ℕ} →
    DrawnAll places (draw_lanes W w (listed es)) bs → listed (few bs) ≡ bs
DrawnAll-few W w es {places} {bs} D = few-listed bs (
    let a = DrawnAll-length D in
    let b = length-map (listed es) (λ e. W.lanes.draw w (Rattle.machine.specs.Machine.home W.plan e.process)) in
    let c = length-listed es in
    let d = at_most_two es in omega arith)

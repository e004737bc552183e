-- The cases hold by computation: each call of a case is tried, and the answers are compared.
use Rattle.std.proofs.Common.{◌≡◌, ℕ, Bool, true, false, ◌&&◌, List, [], ◌∷◌, set, Some, None, Option, sym, refl, ap}
use Rattle.std.proofs.Common.{subst}
use Rattle.std.proofs.lemmas.Bool.{and_parts, eqb-true, true≢false}
use Rattle.pool.specs.Lanes.{Lanes, place_at, is_in, lent, lies}
use Rattle.pool.specs.declared.place.Place.{Place}
use Rattle.pool.specs.declared.place.Place.TheVariants.{Out, Lane}
use Rattle.sequential.specs.Events.{applied}
use Rattle.sequential.specs.Run.{fresh}
use Rattle.machine.specs.Calls.{World, Transcript, DrawnAll, Run, refusal, lanes_drawn, does, answers}
use Rattle.machine.specs.Calls.Does.{refuses, acts}
use Rattle.machine.specs.Calls.DrawnAll.{none as no_lanes, one as from_lane}
use Rattle.machine.specs.Calls.Run.{rests, goes}
use Rattle.pool.specs.Pools.{common_lanes, receiver_lanes}
use Rattle.machine.specs.Machine
use Rattle.machine.specs.declared.call.Answer.TheVariants.{Refused}
use Rattle.machine.specs.declared.call.Call.{Call}
use Rattle.machine.specs.declared.call.Call.TheVariants.{Post, Absorb, Step, Round, Report, Collect}
use Rattle.machine.specs.declared.refusal.Refusal.{Refusal}
use Rattle.law.specs.Cases.{switching, switched, loading, loaded, ProperOver, IsRunOf, TheLawSpeaksOfRuns}
use Rattle.law.specs.Law.{start}

-- ---- trying calls

-- the buffers bs lie in the lanes ls
abbrev lie : List Place → List ℕ → List ℕ → Bool
lie places [] [] = true
lie places [] (b ∷ bs) = false
lie places (l ∷ ls) [] = false
lie places (l ∷ ls) (b ∷ bs) = is_in l (place_at places b) && lie (set places b Out) ls bs

in_lane : (l : ℕ) (p : Place) → is_in l p ≡ true → p ≡ Lane l
in_lane l Out h = absurd (true≢false (sym h))
in_lane l (Lane m) h = ap Lane (eqb-true m l h)

lie_drawn : (places : List Place) (ls bs : List ℕ) → lie places ls bs ≡ true → DrawnAll places ls bs
lie_drawn places [] [] h = no_lanes
lie_drawn places [] (b ∷ bs) h = absurd (true≢false (sym h))
lie_drawn places (l ∷ ls) [] h = absurd (true≢false (sym h))
lie_drawn places (l ∷ ls) (b ∷ bs) h =
    let x = and_parts (is_in l (place_at places b)) (lie (set places b Out) ls bs) h in
    from_lane (in_lane l _ x.0) (lie_drawn (set places b Out) ls bs x.1)

-- the calls made in order, each with the buffers that it draws: whether they can be drawn, and the transcript
abbrev tried : World → Machine.Machine → List (Call × List ℕ) → Bool × Transcript
tried W s [] = (true, [])
tried W s (c ∷ cs) = elim (refusal W s c.0) [
  | None ↦
      let r = tried W (does W s c.0 c.1) cs in
      (lie s.places (lanes_drawn W s c.0) c.1 && r.0, (c.0, answers W s c.0) ∷ r.1)
  | Some x ↦
      let r = tried W s cs in
      (r.0, (c.0, Refused x) ∷ r.1)
]

tried-runs : (W : World) (s : Machine.Machine) (cs : List (Call × List ℕ)) → (tried W s cs).0 ≡ true →
    (s' : Machine.Machine) × Run W s (tried W s cs).1 s'
tried-runs W s [] t = (s, rests)
tried-runs W s (c ∷ cs) t = go (refusal W s c.0) refl (tried-runs W (does W s c.0 c.1) cs) (tried-runs W s cs)
  where
    go : (o : Option Refusal) → refusal W s c.0 ≡ o →
        ((tried W (does W s c.0 c.1) cs).0 ≡ true →
        (s' : Machine.Machine) × Run W (does W s c.0 c.1) (tried W (does W s c.0 c.1) cs).1 s') →
        ((tried W s cs).0 ≡ true → (s' : Machine.Machine) × Run W s (tried W s cs).1 s') →
        (s' : Machine.Machine) × Run W s (tried W s (c ∷ cs)).1 s'
    go None h f g =
        let x = and_parts (lie s.places (lanes_drawn W s c.0) c.1) (tried W (does W s c.0 c.1) cs).0
        (rw (h, tried) at t) in
        let r = f x.1 in
        rw (h, tried) (r.0, goes (acts c.1 h (lie_drawn s.places (lanes_drawn W s c.0) c.1 x.0)) r.1)
    go (Some y) h f g =
        let r = g (rw (h, tried) at t) in
        rw (h, tried) (r.0, goes (refuses y h) r.1)

shown : (W : World) (cs : List (Call × List ℕ)) (r : Transcript) → tried W (start W) cs ≡ (true, r) → IsRunOf W r
shown W cs r e =
    let x = tried-runs W (start W) cs (ap (λ (y : Bool × Transcript). y.0) e) in
    (x.0, subst (λ (t : Transcript). Run W (start W) t x.0) (ap (λ (y : Bool × Transcript). y.1) e) x.1)

-- ---- the cases

-- with the buffers that are drawn for the posts, for the messages to worker 1, and for those to worker 0
abbrev switch_calls : ℕ → ℕ → ℕ → List (Call × List ℕ)
switch_calls a b c =
    (Post 0 20 1, a ∷ []) ∷ (Absorb 0, []) ∷ (Step 0, c ∷ []) ∷ (Post 0 10 0, b ∷ []) ∷ (Absorb 0, []) ∷
    (Absorb 1, []) ∷
    (Step 0, []) ∷ (Step 0, c ∷ []) ∷ (Absorb 1, []) ∷ (Step 1, []) ∷ (Round, []) ∷ (Report 0, []) ∷ (Report 1, []) ∷
    (Collect 2, []) ∷ (Collect 8, []) ∷ []

abbrev phold_calls : ℕ → ℕ → ℕ → ℕ → ℕ → List (Call × List ℕ)
phold_calls a b c d e =
    (Post 0 20 5, a ∷ []) ∷ (Absorb 0, []) ∷ (Step 0, c ∷ []) ∷ (Post 0 10 6, b ∷ []) ∷ (Absorb 0, []) ∷
    (Absorb 1, []) ∷
    (Step 0, c ∷ []) ∷ (Step 0, d ∷ []) ∷ (Absorb 1, []) ∷ (Step 1, []) ∷ (Absorb 1, []) ∷ (Step 1, []) ∷
    (Step 1, e ∷ []) ∷ (Absorb 0, []) ∷
    (Round, []) ∷ (Report 0, []) ∷ (Report 1, []) ∷ (Collect 3, []) ∷ (Collect 8, []) ∷ []

Proper-common : ProperOver common_lanes
unfolding lent
Proper-common m u s = record { sized = s; full_sized = refl; none_out = refl }

Proper-receiver : ProperOver receiver_lanes
unfolding lent
Proper-receiver m u s = record { sized = s; full_sized = refl; none_out = refl }

-- each of the four is tried: a switch and a load, over both pools
abbrev Tried : (Lanes → World) → Lanes → List (Call × List ℕ) → Transcript → Type 0
Tried over lanes cs r = tried (over lanes) (start (over lanes)) cs ≡ (true, r)

all_tried :
    Tried switching common_lanes (switch_calls 0 1 2) switched ×
    Tried switching receiver_lanes (switch_calls 0 1 32) switched ×
    Tried loading common_lanes (phold_calls 0 1 2 3 4) loaded ×
    Tried loading receiver_lanes (phold_calls 0 1 32 33 2) loaded
unfolding lies applied fresh Machine.started_with Machine.started Machine.sent Machine.freed Machine.foremost
    Machine.cancelled Machine.cancelled_all Machine.undone Machine.rolled Machine.enter Machine.lower Machine.arrived
    Machine.annihilated Machine.popped Machine.report_of Machine.with_report Machine.remaining Machine.absorbed
    Machine.sent_all
    Machine.stepped_by Machine.opened Machine.reported Machine.collected refusal lanes_drawn does answers
all_tried = (refl, refl, refl, refl)

pub speaks : TheLawSpeaksOfRuns
speaks = (
  Proper-common,
  Proper-receiver,
  shown (switching common_lanes) (switch_calls 0 1 2) switched all_tried.0,
  shown (switching receiver_lanes) (switch_calls 0 1 32) switched all_tried.1,
  shown (loading common_lanes) (phold_calls 0 1 2 3 4) loaded all_tried.2,
  shown (loading receiver_lanes) (phold_calls 0 1 32 33 2) loaded all_tried.3,
)

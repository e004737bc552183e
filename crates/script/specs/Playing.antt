-- What running a script prints.
use Rattle.std.specs.Prelude.{◌≡◌, ℕ, Bool, false, ◌&&◌, List, [], ◌∷◌, ◌++◌, replicate, Some, None, codes, decimal}
use Rattle.std.specs.Prelude.{Option, MatchBool, MatchOption, ◌==◌}
use Rattle.std.specs.List.{flat_map}
use Rattle.model.specs.Formulas.{phold, service_fits, size_fits, switch}
use Rattle.model.specs.Meaning.{Meaning}
use Rattle.pool.specs.Lanes.{Lanes}
use Rattle.pool.specs.Pools.{common_lanes, receiver_lanes}
use Rattle.sequential.specs.Text.{field_names, line_text}
use Rattle.machine.specs.declared.call.Call.{Call}
use Rattle.machine.specs.declared.plan.Plan.{Plan}
use Rattle.machine.specs.Machine.{Machine}
use Rattle.machine.specs.Calls.{Run, Transcript}
use Rattle.law.specs.Law as law
use Rattle.executive.specs.World.{PlanHolds, Reassigned, placing, setting_fits, world_of}
use Rattle.script.specs.declared.heading.Heading.{Heading}
use Rattle.script.specs.declared.item.Item.{Item}
use Rattle.script.specs.declared.item.Item.TheVariants.{Place, Make}
use Rattle.script.specs.declared.heading.ModelKind.{ModelKind}
use Rattle.script.specs.declared.heading.ModelKind.TheVariants.{Switch, Phold}
use Rattle.script.specs.declared.heading.PoolKind.{PoolKind}
use Rattle.script.specs.declared.heading.PoolKind.TheVariants.{Common, Receiver}
use Rattle.script.specs.Reading.{Reading, reading}

-- a bad line is named by its number, on a line of its own
abbrev pub bad_text : ℕ → List ℕ
bad_text n = codes "line " ++ (decimal n ++ (10 ∷ []))

-- what is printed at the end: nothing, or the bad line
abbrev pub end_text : Option ℕ → List ℕ
end_text None = []
end_text (Some n) = bad_text n

-- the calls that the items make
abbrev pub calls_among : List Item → List Call
calls_among [] = []
calls_among (Place p w ∷ is) = calls_among is
calls_among (Make c ∷ is) = c ∷ calls_among is

-- a placing moves its process, or is refused and changes nothing; a call places nothing
abbrev pub PlacedBy : Meaning → Plan → Item → Plan → Type 0
PlacedBy m u (Place p w) v = MatchOption (placing m u p w) (Reassigned u v p w) (λ _. v ≡ u)
PlacedBy m u (Make c) v = v ≡ u

-- the items' placings, one after the other, lead from a plan to a plan
abbrev pub Settles : Meaning → Plan → List Item → Plan → Type 0
Settles m u [] v = v ≡ u
Settles m u (i ∷ is) v = (t : Plan) × PlacedBy m u i t × Settles m t is v

-- a setup to the plan u, with the script's placings: its calls are a run of it; the names of the fields are printed,
-- then each line as its collection hands it out, and the bad line; the run keeps the law
pub record Session (r : Reading) (m : Meaning) (l : Lanes) (u : Plan) (text : List ℕ) : Type 0 where
  pub plan : Plan
  pub settles : Settles m u r.items plan
  pub transcript : Transcript
  pub last : Machine
  pub runs : Run (world_of m l plan) (law.start (world_of m l plan)) transcript last
  pub calls : law.calls_in transcript ≡ calls_among r.items
  pub prints : text ≡ (field_names ++ flat_map line_text (law.collected_lines transcript)) ++ end_text r.bad
  pub lawful : law.Holds (world_of m l plan) transcript last

-- whether the third line is bad
abbrev pub is_third : Option ℕ → Bool
is_third None = false
is_third (Some n) = n == 3

abbrev pub kind_lanes : PoolKind → Lanes
kind_lanes Common = common_lanes
kind_lanes Receiver = receiver_lanes

-- whether a model can be made with these values, and what it means
abbrev pub model_fits : ModelKind → ℕ → ℕ → Bool
model_fits Switch size setting = size_fits size && service_fits setting
model_fits Phold size setting = size_fits size

abbrev pub model_means : ModelKind → ℕ → ℕ → Meaning
model_means Switch size setting = switch size setting
model_means Phold size setting = phold size setting

-- what is printed of a script, by what its setup prints
module _ (prints : Reading → Meaning → Lanes → Plan → List ℕ → Type 0) where
  -- with a setup to the heading's values, with every process on worker 0
  abbrev pub Sits : Meaning → Lanes → Heading → Reading → List ℕ → Type 0
  Sits m l h r text = (u : Plan) × PlanHolds u h.end h.most h.workers (replicate 32 0) × prints r m l u text

  -- with the model made: a refused setting is a bad second line, and comes before a bad third line
  abbrev pub Plays : Meaning → Lanes → Heading → Reading → List ℕ → Type 0
  Plays m l h r text =
      MatchBool (setting_fits h.end h.most h.workers)
      (MatchBool (is_third r.bad) (text ≡ bad_text 3) (Sits m l h r text)) (text ≡ bad_text 2)

  -- with a heading: values that make no model are a bad second line
  abbrev pub Heads : Heading → Reading → List ℕ → Type 0
  Heads h r text =
      MatchBool (model_fits h.model h.size h.setting)
      (Plays (model_means h.model h.size h.setting) (kind_lanes h.pool) h r text) (text ≡ bad_text 2)

  -- by what was read: without a heading its bad line is named
  abbrev pub Reads : Reading → List ℕ → Type 0
  Reads r text = MatchOption r.heading (text ≡ end_text r.bad) (λ h. Heads h r text)

-- what the bytes of a script print
abbrev pub Prints : List ℕ → List ℕ → Type 0
Prints bytes text = Reads Session (reading bytes) text

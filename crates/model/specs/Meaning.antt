-- What a model means.
use Rattle.std.specs.Prelude.{ℕ, List, [], ◌∷◌}
use Rattle.model.specs.declared.reaction.Few.{Few}
use Rattle.model.specs.declared.reaction.Few.TheVariants.{Nothing, One, Two}
use Rattle.model.specs.declared.reaction.Reaction.{Reaction}
use Rattle.model.specs.declared.state.State.{State}

-- a model means its size and two fixed functions: each process's initial state, and its reaction to process, state,
-- time and payload
pub record Meaning : Type 0 where
  pub size : ℕ
  pub initial : ℕ → State
  pub reaction : ℕ → State → ℕ → ℕ → Reaction

-- the few as a list
abbrev pub listed : {A : Type 0} → Few A → List A
listed Nothing = []
listed (One a) = a ∷ []
listed (Two a b) = a ∷ b ∷ []

-- how many they are
abbrev pub many : {A : Type 0} → Few A → ℕ
many Nothing = 0
many (One a) = 1
many (Two a b) = 2

-- Figures written one by one.
use Rattle.std.proofs.Common.{◌≡◌, ℕ, List, [], ◌∷◌, ◌++◌, refl, sym}
use Rattle.std.proofs.lemmas.List.{append_assoc}
use Rattle.std.specs.List.{flat_map}
use Rattle.sequential.specs.Text.{behind, spaced}

-- figures, each behind one space, and a line feed
pub spaced-figures : (ns : List ℕ) → spaced ns ≡ flat_map behind ns ++ 10 ∷ []
spaced-figures [] = refl
spaced-figures (n ∷ ns) = rw (spaced-figures ns) (sym (append_assoc (behind n) (flat_map behind ns) (10 ∷ [])))

-- An inbox is seen as a list of buffers, oldest first.
use Rattle.std.specs.Prelude.{ℕ, if◌then◌else◌, List, [], ◌∷◌, ◌++◌, length, Some, None, Option, nat_lt}

-- a buffer comes in last, while fewer than 256 are in, which is all there are
abbrev pub entered : ℕ → List ℕ → List ℕ
entered b bs = if nat_lt (length bs) 256 then bs ++ (b ∷ []) else bs

-- the oldest of a list, and the others
abbrev pub first : List ℕ → Option ℕ
first [] = None
first (b ∷ bs) = Some b

abbrev pub rest : List ℕ → List ℕ
rest [] = []
rest (b ∷ bs) = bs

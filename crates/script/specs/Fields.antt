-- The parts of a line: words and figures. Each definition gives what stands in front, and what follows it.
use Rattle.std.specs.Prelude.{ℕ, ◌+◌, ◌-◌, ◌*◌, ◌^◌, Bool, false, if◌then◌else◌, ◌&&◌, List, [], ◌∷◌, Some, None}
use Rattle.std.specs.Prelude.{Option, ◌==◌, nat_le, nat_lt, option_and_then, option_map}
use Rattle.std.specs.Option.{option_map_or, option_or}
use denote.Ref.{Bor}

infixl 10 ◌>>=◌
infixl 20 ◌<|>◌
-- one thing, and then another; none, where either is missing
abbrev pub ◌>>=◌ : {A B : Type 0} → Option A → (A → Option B) → Option B
o >>= f = option_and_then f o

-- the first of two things that is there
abbrev pub ◌<|>◌ : {A : Type 0} → Option A → Option A → Option A
o <|> p = option_or o p

-- where the test holds
abbrev pub provided : {A : Type 0} → Bool → A → Option A
provided ok x = if ok then Some x else None

-- what a function read off the front, with the bytes that follow it
abbrev pub parsed : {A : Type 0} → Option (A × Bor (List ℕ)) → Option (A × List ℕ)
parsed read = option_map (λ p. (p.0, p.1.now)) read

-- what follows the word
abbrev pub rest_after : List ℕ → List ℕ → Option (List ℕ)
rest_after [] bs = Some bs
rest_after (w ∷ ws) [] = None
rest_after (w ∷ ws) (b ∷ bs) = if b == w then rest_after ws bs else None

-- a meaning for the word, and what follows it
abbrev pub named : {A : Type 0} → List ℕ → A → List ℕ → Option (A × List ℕ)
named word meaning bs = option_map (λ rest. (meaning, rest)) (rest_after word bs)

-- the value of a digit, 0 (48) to 9 (57)
abbrev pub digit_of : ℕ → Option ℕ
digit_of b = provided (nat_le 48 b && nat_le b 57) (b - 48)

-- a figure so far, the digits behind it, and what follows them: at most 2^64 - 1
abbrev pub figure_on : ℕ → List ℕ → Option (ℕ × List ℕ)
figure_on n [] = Some (n, [])
figure_on n (b ∷ bs) =
    option_map_or (λ d. if nat_lt (n * 10 + d) (2 ^ 64) then figure_on (n * 10 + d) bs else None)
    (digit_of b) (Some (n, b ∷ bs))

-- a figure in base ten without leading zeros
abbrev pub figure_of : List ℕ → Option (ℕ × List ℕ)
figure_of [] = None
figure_of (b ∷ bs) = digit_of b >>= (λ d. if d == 0 then Some (0, bs) else figure_on d bs)

-- a figure behind one space (32)
abbrev pub spaced_of : List ℕ → Option (ℕ × List ℕ)
spaced_of [] = None
spaced_of (b ∷ bs) = if b == 32 then figure_of bs else None

-- whether a line feed (10) alone is left
abbrev pub ended : List ℕ → Bool
ended [] = false
ended (b ∷ []) = b == 10
ended (b ∷ c ∷ bs) = false

-- three figures, each behind one space, at the end of a line
abbrev pub three_of : List ℕ → Option (ℕ × ℕ × ℕ)
three_of bs = do
  a ← spaced_of bs
  b ← spaced_of a.1
  c ← spaced_of b.1
  provided (ended c.1) (a.0, b.0, c.0)

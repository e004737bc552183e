-- The slots in which an inbox keeps its buffers, and that the buffers say all of them.
use Rattle.std.proofs.Common.{◌≡◌, ℕ, ◌-◌, ◌≤◌, List, ◌++◌, length, take, drop, replicate, arith}
use Rattle.std.proofs.lemmas.List.{length-take-le, take-append-drop}

-- n of 256 slots hold a buffer, the others are 0
abbrev pub IsFilled : List ℕ → ℕ → Type 0
IsFilled slots n = (length slots ≡ 256) × (n ≤ 256) × (drop n slots ≡ replicate (256 - n) 0)

-- the 256 slots in which the buffers lie
abbrev pub slots_of : List ℕ → List ℕ
slots_of bs = bs ++ replicate (256 - length bs) 0

pub length-filled : (slots : List ℕ) (n : ℕ) → IsFilled slots n → length (take n slots) ≡ n
length-filled slots n f = length-take-le n slots (omega (arith, f.0, f.1))

pub filled : (slots : List ℕ) (n : ℕ) → IsFilled slots n → slots_of (take n slots) ≡ slots
filled slots n f =
    let l = length-filled slots n f in
    let a = take-append-drop n slots in
    let z = f.2 in
    cc

-- What a push does to the slots.
use Rattle.std.proofs.Common.{◌≡◌, ◌∙◌, ℕ, ◌+◌, ◌-◌, ◌<◌, List, length, set, arith}
use Rattle.std.proofs.lemmas.List.{length-set, drop-drop, drop-set-lt, drop-replicate}
use Rattle.inbox.specs.Slots.{IsFilled}

pub filled_by : (slots : List ℕ) (n b : ℕ) → IsFilled slots n → n < 256 → IsFilled (set slots n b) (n + 1)
filled_by slots n b f room =
    let size : length (set slots n b) ≡ 256 = length-set slots n b ∙ f.0 in
    let others = drop-set-lt (n + 1) slots n b (omega arith) in
    let behind = drop-drop 1 n slots in
    let zeros = drop-replicate {X = ℕ} 1 (256 - n) 0 in
    let fewer : 256 - n - 1 ≡ 256 - (n + 1) = omega arith in
    let z = f.2 in
    (size, omega (arith, room), cc)

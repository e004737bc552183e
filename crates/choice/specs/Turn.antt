-- The choice of a message, turn by turn over the records.
use Rattle.std.specs.Prelude.{◌≡◌, ℕ, ◌<◌, ◌≤◌, Bool, if◌then◌else◌, List, slice_index, slice_index_or, drop, Some}
use Rattle.std.specs.Prelude.{None, Option}
use Rattle.sequential.specs.declared.event.Event.{Event}
use Rattle.machine.specs.declared.message.Message.{Message}
use Rattle.machine.specs.declared.message.Phase.{Phase}
use Rattle.machine.specs.declared.message.Phase.TheVariants.{Free, Done}
use Rattle.machine.specs.Machine.{blank, chosen, no_event}

-- every message is for one of the 32 processes
abbrev pub HasLowProcesses : List Message → Type 0
HasLowProcesses xs = (k : ℕ) → k < 256 → (slice_index_or xs k blank).event.process < 32

-- the phases stand beside the records, each as its record has it
abbrev pub Mirrored : List Phase → List Message → Type 0
Mirrored ps xs = (k : ℕ) → k < 256 → slice_index_or ps k Free ≡ (slice_index_or xs k blank).phase

-- each process has a time that none of its done events is later than
abbrev pub Until : List ℕ → List Message → Type 0
Until ts xs =
    (k : ℕ) →
    k < 256 →
    (slice_index_or xs k blank).phase ≡ Done →
    (slice_index_or xs k blank).event.time ≤ slice_index ts (slice_index_or xs k blank).event.process

-- a test of phase and event, as a test of messages
abbrev pub passes : (Phase → Event → Bool) → Message → Bool
passes ok m = ok m.phase m.event

-- one turn of the choice, at the index i
abbrev pub bettered : (Message → Bool) → (Event → Event → Bool) → List Message → ℕ → Option ℕ → Option ℕ
bettered ok before xs i None = if ok (slice_index_or xs i blank) then Some i else None
bettered ok before xs i (Some b) =
    if ok (slice_index_or xs i blank)
    then (if before (slice_index_or xs i blank).event (slice_index_or xs b blank).event then Some i else Some b)
    else Some b

-- the event of the best so far
abbrev pub best_event : List Message → Option ℕ → Event
best_event xs None = no_event
best_event xs (Some b) = (slice_index_or xs b blank).event

-- what choosing from the messages from i on gives, where o is the best so far
abbrev pub chosen_from : (Message → Bool) → (Event → Event → Bool) → List Message → ℕ → Option ℕ → Option ℕ
chosen_from ok before xs i o = chosen ok before (drop i xs) i o (best_event xs o)

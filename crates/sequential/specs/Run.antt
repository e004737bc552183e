-- The sequential run: events wait in key order; the least is applied, written, and its messages wait; until none waits.
use Rattle.std.specs.Prelude.{◌≡◌, ℕ, zero, suc, ◌+◌, ◌*◌, ◌<◌, ◌≤◌, if◌then◌else◌, List, [], ◌∷◌, map, length}
use Rattle.std.specs.Prelude.{slice_index_or, slice_set}
use Rattle.std.specs.List.{range_with_len, AllByRecursion}
use Rattle.model.specs.Meaning.{Meaning, listed}
use Rattle.sequential.specs.declared.event.Event.{Event}
use Rattle.sequential.specs.declared.limits.Limits.{Limits}
use Rattle.sequential.specs.declared.event.Line.{Line}
use Rattle.sequential.specs.declared.event.Outcome.{Outcome}
use Rattle.sequential.specs.declared.event.Process.{Process}
use Rattle.sequential.specs.Events.{earlier, applied, process_after, line_of, nobody}

-- an event joins the waiting ones, least key first
abbrev pub queued : Event → List Event → List Event
queued e [] = e ∷ []
queued e (f ∷ fs) = if earlier e f then e ∷ f ∷ fs else f ∷ queued e fs

-- so do several, one after the other
abbrev pub queued_all : List Event → List Event → List Event
queued_all [] fs = fs
queued_all (e ∷ es) fs = queued_all es (queued e fs)

-- every process in its initial state, with nothing sent
unfoldable pub fresh : Meaning → List Process
fresh m = map (λ p. record { state = m.initial p; count = 0 }) (range_with_len 0 32)

-- what an event does where the processes stand so
abbrev pub outcome : Meaning → Limits → List Process → Event → Outcome
outcome m u ps e = applied m u e (slice_index_or ps e.process nobody)

-- and where they stand after it
abbrev pub processes_after : List Process → Event → Outcome → List Process
processes_after ps e o = slice_set ps e.process (process_after o (slice_index_or ps e.process nobody))

-- at most k lines from here
unfoldable pub lines : Meaning → Limits → ℕ → List Process → List Event → List Line
lines m u zero ps ws = []
lines m u (suc k) ps [] = []
lines m u (suc k) ps (e ∷ ws) =
    let o = outcome m u ps e in
    line_of e o ∷ lines m u k (processes_after ps e o) (queued_all (listed o.sends) ws)

-- what still waits after k lines
unfoldable pub unwritten : Meaning → Limits → ℕ → List Process → List Event → List Event
unwritten m u zero ps ws = ws
unwritten m u (suc k) ps [] = []
unwritten m u (suc k) ps (e ∷ ws) =
    let o = outcome m u ps e in
    unwritten m u k (processes_after ps e o) (queued_all (listed o.sends) ws)

-- no run is longer: a line is a post, or one of the messages that the cap allows each process
abbrev pub budget : Limits → List Event → ℕ
budget u posts = length posts + 32 * u.most

-- the lines of the sequential run of the posts
abbrev pub run : Meaning → Limits → List Event → List Line
run m u posts = lines m u (budget u posts) (fresh m) (queued_all posts [])

-- of posts for processes of the model, none waits when the run has ended: the budget never cuts it short
abbrev pub BudgetSuffices : Type 0
BudgetSuffices =
    (m : Meaning) (u : Limits) (posts : List Event) →
    m.size ≤ 32 → AllByRecursion (λ e. e.process < m.size) posts →
    unwritten m u (budget u posts) (fresh m) (queued_all posts []) ≡ []

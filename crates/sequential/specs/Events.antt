-- Events, their keys, and what applying one event does.
use Rattle.std.specs.Prelude.{ℕ, ◌+◌, ◌^◌, Bool, true, false, if◌then◌else◌, ◌&&◌, ◌||◌, List, [], ◌∷◌, ◌==◌, nat_le}
use Rattle.std.specs.Prelude.{nat_lt, Result, Ok, Err}
use Rattle.model.specs.Meaning.{Meaning, listed, many}
use Rattle.model.specs.Formulas.{zeros}
use Rattle.model.specs.declared.reaction.Few.{Few}
use Rattle.model.specs.declared.reaction.Few.TheVariants.{Nothing, One, Two}
use Rattle.model.specs.declared.reaction.Reaction.{Reaction}
use Rattle.model.specs.declared.reaction.Reaction.TheVariants.{Fault, Next}
use Rattle.model.specs.declared.state.State.{State}
use Rattle.model.specs.declared.reaction.Want.{Want}
use Rattle.sequential.specs.declared.event.Event.{Event}
use Rattle.sequential.specs.declared.limits.Limits.{Limits}
use Rattle.sequential.specs.declared.event.Line.{Line}
use Rattle.sequential.specs.declared.event.Outcome.{Outcome}
use Rattle.sequential.specs.declared.event.Process.{Process}
use Rattle.sequential.specs.declared.event.Verdict.{Verdict}
use Rattle.sequential.specs.declared.event.Verdict.TheVariants.{Fine, ModelFault, NoReceiver, BadDelay, OverCap}

-- an end is 1 to 2^40
abbrev pub end_fits : ℕ → Bool
end_fits end = nat_le 1 end && nat_le end (2 ^ 40)

-- a cap is 1 to 2^32 - 1
abbrev pub cap_fits : ℕ → Bool
cap_fits most = nat_le 1 most && nat_lt most (2 ^ 32)

-- the sender of what is posted from outside
abbrev pub outside : ℕ
outside = 255

-- keys are compared by time, then process, then sender, then number
abbrev pub earlier : Event → Event → Bool
earlier e f =
    nat_lt e.time f.time ||
    (e.time == f.time &&
    (nat_lt e.process f.process ||
    (e.process == f.process &&
    (nat_lt e.sender f.sender ||
    (e.sender == f.sender &&
    nat_lt e.number f.number)))))

-- the layer of a fault: 0, none; 1, the model's; 2, the executive's
abbrev pub layer_of : Verdict → ℕ
layer_of Fine = 0
layer_of (ModelFault c) = 1
layer_of NoReceiver = 2
layer_of BadDelay = 2
layer_of OverCap = 2

-- its code in that layer
abbrev pub code_of : Verdict → ℕ
code_of Fine = 0
code_of (ModelFault c) = c
code_of NoReceiver = 1
code_of BadDelay = 2
code_of OverCap = 3

-- whether it is no fault
abbrev pub is_fine : Verdict → Bool
is_fine Fine = true
is_fine (ModelFault c) = false
is_fine NoReceiver = false
is_fine BadDelay = false
is_fine OverCap = false

-- a delay is 1 to 2^40
abbrev pub delay_fits : ℕ → Bool
delay_fits delay = nat_le 1 delay && nat_le delay (2 ^ 40)

-- the first thing wrong with the wanted sends, in their order; of one send its receiver is looked at before its delay
abbrev pub flaw : ℕ → List Want → Verdict
flaw size [] = Fine
flaw size (w ∷ ws) =
    if nat_le size w.receiver then NoReceiver
    else if delay_fits w.delay then flaw size ws else BadDelay

-- a verdict as a check answers it: nothing is wrong, or this
abbrev pub passed : Verdict → Result (Unit {0}) Verdict
passed v = if is_fine v then Ok tt else Err v

-- one more in front of a few
abbrev pub more : {A : Type 0} → A → Few A → Few A
more a Nothing = One a
more a (One b) = Two a b
more a (Two b c) = Two a b

-- the message that the event e sends for a want, with its number
abbrev pub message_of : Event → ℕ → Want → Event
message_of e n w =
    record { time = e.time + w.delay; process = w.receiver; sender = e.process; number = n; payload = w.payload }

-- the messages of the event e, numbered from n on; those due at or past the end are struck out
abbrev pub messages_of : ℕ → Event → ℕ → List Want → Few Event
messages_of end e n [] = Nothing
messages_of end e n (w ∷ ws) =
    if nat_lt (e.time + w.delay) end
    then more (message_of e n w) (messages_of end e (n + 1) ws)
    else messages_of end e n ws

-- a faulted event leaves the state and sends nothing
abbrev pub faulted : Verdict → State → Outcome
faulted v s = record { verdict = v; state = s; sends = Nothing }

-- the executive's own checks, in order: the wants, then the cap over what is left of them
abbrev pub reacted : ℕ → Limits → Event → Process → Reaction → Outcome
reacted size u e q (Fault c) = faulted (ModelFault c) q.state
reacted size u e q (Next s ws) =
    let wrong = flaw size (listed ws) in
    let out = messages_of u.end e q.count (listed ws) in
    if is_fine wrong
    then (if nat_le (q.count + many out) u.most
    then record { verdict = Fine; state = s; sends = out }
    else faulted OverCap q.state)
    else faulted wrong q.state

-- the event e applied to its process as it stands: the reaction is asked once
unfoldable pub applied : Meaning → Limits → Event → Process → Outcome
applied m u e q = reacted m.size u e q (m.reaction e.process q.state e.time e.payload)

-- the process after the event
abbrev pub process_after : Outcome → Process → Process
process_after o q = record { state = o.state; count = q.count + many o.sends }

-- the line of an event and its outcome
abbrev pub line_of : Event → Outcome → Line
line_of e o = record { event = e; verdict = o.verdict; state = o.state }

-- a process of zero words that has sent nothing
abbrev pub nobody : Process
nobody = record { state = zeros; count = 0 }

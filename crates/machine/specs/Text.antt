-- How calls, answers and refusals are told as text.
use Rattle.std.specs.Prelude.{ℕ, List, [], ◌∷◌, ◌++◌, codes, decimal, length, vec_items, Vec}
use Rattle.std.specs.declared.alloc.Global.{Global}
use Rattle.std.specs.List.{flat_map}
use Rattle.sequential.specs.Text.{behind, spaced}
use Rattle.sequential.specs.declared.event.Line.{Line}
use Rattle.machine.specs.declared.call.Answer.{Answer}
use Rattle.machine.specs.declared.call.Answer.TheVariants.{Refused, Posted, Absorbed, Stepped, Opened, Told, Collected}
use Rattle.machine.specs.Calls.{code}
use Rattle.machine.specs.declared.call.Call.{Call}
use Rattle.machine.specs.declared.call.Call.TheVariants.{Post, Absorb, Step, Round, Report, Collect}
use Rattle.machine.specs.declared.refusal.Refusal.{Refusal}
use Rattle.machine.specs.declared.refusal.Refusal.TheVariants.{OutsideLimits, NoProcess, NoWorker, BeforeGvt, PastEnd}
use Rattle.machine.specs.declared.refusal.Refusal.TheVariants.{CapReached, LaneShort, InboxEmpty, NothingPending}
use Rattle.machine.specs.declared.refusal.Refusal.TheVariants.{RoundOpen, NoRound, Reported}

-- a call's name
abbrev pub call_name : Call → List ℕ
call_name (Post p t x) = codes "post"
call_name (Absorb w) = codes "absorb"
call_name (Step w) = codes "step"
call_name Round = codes "round"
call_name (Report w) = codes "report"
call_name (Collect k) = codes "collect"

-- its three numbers; where it has fewer, the others are 0
abbrev pub call_numbers : Call → List ℕ
call_numbers (Post p t x) = p ∷ t ∷ x ∷ []
call_numbers (Absorb w) = w ∷ 0 ∷ 0 ∷ []
call_numbers (Step w) = w ∷ 0 ∷ 0 ∷ []
call_numbers Round = 0 ∷ 0 ∷ 0 ∷ []
call_numbers (Report w) = w ∷ 0 ∷ 0 ∷ []
call_numbers (Collect k) = k ∷ 0 ∷ 0 ∷ []

-- a call: its name and its numbers
abbrev pub call_words : Call → List ℕ
call_words c = call_name c ++ flat_map behind (call_numbers c)

-- a call as a line, with its line feed
abbrev pub call_text : Call → List ℕ
call_text c = call_name c ++ spaced (call_numbers c)

-- an answer: its numbers, with one space between them; of a collection how many lines it hands out, and how many remain
abbrev pub answer_words : Answer (Vec Line Global) → List ℕ
answer_words (Refused r) = codes "refused " ++ decimal (code r)
answer_words (Posted n) = decimal n
answer_words (Absorbed a m n) = decimal a ++ flat_map behind (m ∷ n ∷ [])
answer_words (Stepped t p k) = decimal t ++ flat_map behind (p ∷ k ∷ [])
answer_words (Opened n) = decimal n
answer_words (Told n g) = decimal n ++ flat_map behind (g ∷ [])
answer_words (Collected ls n) = decimal (length (vec_items ls)) ++ flat_map behind (n ∷ [])

-- why a call is refused, in words
abbrev pub refusal_text : Refusal → List ℕ
refusal_text OutsideLimits = codes "a value outside its limits"
refusal_text NoProcess = codes "no such process"
refusal_text NoWorker = codes "no such worker"
refusal_text BeforeGvt = codes "a time before GVT"
refusal_text PastEnd = codes "a time at or past the end"
refusal_text CapReached = codes "as many posts as the cap allows"
refusal_text LaneShort = codes "too few buffers in a draw lane"
refusal_text InboxEmpty = codes "an empty inbox"
refusal_text NothingPending = codes "nothing pending"
refusal_text RoundOpen = codes "a round is open"
refusal_text NoRound = codes "no round is open"
refusal_text Reported = codes "the worker has reported"

-- The two models, by their formulas.
use Rattle.std.specs.Prelude.{ℕ, ◌+◌, ◌-◌, ◌*◌, ◌/◌, ◌%◌, ◌^◌, max, Bool, if◌then◌else◌, ◌&&◌, ◌==◌, nat_le, nat_lt}
use Rattle.model.specs.declared.reaction.Few.{Few}
use Rattle.model.specs.declared.reaction.Few.TheVariants.{Nothing, One}
use Rattle.model.specs.declared.reaction.Reaction.{Reaction}
use Rattle.model.specs.declared.reaction.Reaction.TheVariants.{Fault, Next}
use Rattle.model.specs.declared.state.State.{State}
use Rattle.model.specs.declared.reaction.Want.{Want}
use Rattle.model.specs.Meaning.{Meaning}

-- what a refusal for a value outside its limits is numbered
abbrev pub outside_limits : ℕ
outside_limits = 1

-- a model has 1 to 32 processes
abbrev pub size_fits : ℕ → Bool
size_fits size = nat_le 1 size && nat_le size 32

-- a service time is 1 to 1,000
abbrev pub service_fits : ℕ → Bool
service_fits service = nat_le 1 service && nat_le service 1000

-- four zero words
abbrev pub zeros : State
zeros = record { w0 = 0; w1 = 0; w2 = 0; w3 = 0 }

-- a cell with hops left goes to the next process, cyclically, one hop fewer
abbrev pub forwarded : ℕ → ℕ → ℕ → ℕ → Few Want
forwarded size p delay hops =
    if hops == 0 then Nothing
    else One (record { receiver = (p % size + 1) % size; delay = delay; payload = hops - 1 })

-- a cell starts when it has come and the port is free, and departs a service time later; over 255 hops is fault 2,
-- a departure past 2^40 fault 1
abbrev pub switch_reaction : ℕ → ℕ → ℕ → State → ℕ → ℕ → Reaction
switch_reaction size service p s time hops =
    let start = max time s.w0 in
    let departure = start + service in
    if nat_lt 255 hops then Fault 2
    else if nat_lt (2 ^ 40) departure then Fault 1
    else Next (record { w0 = departure; w1 = (s.w1 + 1) % 2 ^ 64; w2 = (s.w2 + (start - time)) % 2 ^ 64; w3 = s.w3 })
    (forwarded size p (departure - time) hops)

-- a switch of so many ports, each serving a cell in the service time
abbrev pub switch : ℕ → ℕ → Meaning
switch size service = record { size = size; initial = λ p. zeros; reaction = switch_reaction size service }

-- the generator: multiply and add, modulo 2^64
abbrev pub generated : ℕ → ℕ
generated w = (w * 6364136223846793005 + 1442695040888963407) % 2 ^ 64

-- the payload is sent on to a process and after a delay that the new word gives
abbrev pub phold_reaction : ℕ → ℕ → State → ℕ → ℕ → Reaction
phold_reaction size p s time payload =
    let w = generated s.w0 in
    Next (record { w0 = w; w1 = (s.w1 + 1) % 2 ^ 64; w2 = s.w2; w3 = s.w3 })
    (One (record { receiver = w / 2 ^ 33 % size; delay = 1 + w / 2 ^ 20 % 1000; payload = payload }))

-- each process starts from the seed and its own number
abbrev pub phold_initial : ℕ → ℕ → ℕ → State
phold_initial size seed p = record { w0 = (seed + p % size) % 2 ^ 64; w1 = 0; w2 = 0; w3 = 0 }

-- the synthetic load of so many processes
abbrev pub phold : ℕ → ℕ → Meaning
phold size seed = record { size = size; initial = phold_initial size seed; reaction = phold_reaction size }

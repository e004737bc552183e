-- What is posted from outside, as the events of a run.
use Rattle.std.specs.Prelude.{◌≡◌, ℕ, ◌+◌, Bool, if◌then◌else◌, ◌&&◌, List, [], ◌∷◌, Some, None, Option, nat_lt, ◌++◌}
use Rattle.std.specs.Prelude.{codes, decimal}
use Rattle.model.specs.Meaning.{Meaning}
use Rattle.sequential.specs.declared.event.Event.{Event}
use Rattle.sequential.specs.declared.limits.Limits.{Limits}
use Rattle.sequential.specs.declared.event.Post.{Post}
use Rattle.sequential.specs.declared.run.RunError.{RunError}
use Rattle.sequential.specs.declared.run.RunError.TheVariants.{Unfit, NoMemory}
use Rattle.sequential.specs.Events.{outside}

-- a post is an event from outside, with its number
abbrev pub posted_event : ℕ → Post → Event
posted_event n p = record { time = p.time; process = p.process; sender = outside; number = n; payload = p.payload }

-- the posts in their order, numbered from n on
abbrev pub posted : ℕ → List Post → List Event
posted n [] = []
posted n (p ∷ ps) = posted_event n p ∷ posted (n + 1) ps

-- after n others, a post can be accepted for a process of the model, before the end, and below the cap
abbrev pub post_fits : Meaning → Limits → ℕ → Post → Bool
post_fits m u n p = nat_lt p.process m.size && (nat_lt p.time u.end && nat_lt n u.most)

-- the place of the first post that cannot be accepted, counted from n on
abbrev pub first_unfit : Meaning → Limits → ℕ → List Post → Option ℕ
first_unfit m u n [] = None
first_unfit m u n (p ∷ ps) = if post_fits m u n p then first_unfit m u (n + 1) ps else Some n

-- a run without lines names the first post that cannot be accepted, or lacked memory
abbrev pub Fails : Meaning → Limits → List Post → RunError → Type 0
Fails m u ps (Unfit k) = first_unfit m u 0 ps ≡ Some k
Fails m u ps NoMemory = Unit {0}

-- what is said of a run without lines
abbrev pub error_text : RunError → List ℕ
error_text (Unfit k) = codes "the post " ++ decimal k ++ codes " cannot be accepted"
error_text NoMemory = codes "no memory is left"

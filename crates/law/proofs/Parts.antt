-- One message of a machine replaced: each part of it is new, and each part of the others is as it was.
use Rattle.std.proofs.Common.{◌≡◌, ℕ, ◌<◌, true, length, set, refl, ap, inl, inr}
use mathlib.Core.Path.{fun_ext}
use Rattle.std.proofs.lemmas.List.{get_or_past, get_or-set_same, get_or-set_other}
use Rattle.std.proofs.lemmas.Bool.{cases_lt, both_ways}
use Rattle.machine.specs.Machine.{Machine, blank, at}
use Rattle.machine.specs.declared.message.Message.{Message}
use Rattle.law.proofs.Invariant.{lives, parts}
use Rattle.law.proofs.Members.{get_or-set_keeps}

pub live_within : (s : Machine) (b : ℕ) → lives s b ≡ true → b < length s.messages
live_within s b h = elim (cases_lt b (length s.messages)) [
  | inl l ↦ l
  | inr g ↦ absurd (both_ways _ refl (rw (get_or_past s.messages b blank g) at h))
]

-- the new message's parts
pub part_here : {B : Type 0} (f : Message → B) (s s' : Machine) (b : ℕ) (m : Message) →
    s'.messages ≡ set s.messages b m → b < length s.messages → parts f s' b ≡ f m
part_here f s s' b m e l = rw e (ap f (get_or-set_same s.messages b m blank l))

-- the parts of the others
pub part_others : {B : Type 0} (f : Message → B) (s s' : Machine) (b : ℕ) (m : Message) →
    s'.messages ≡ set s.messages b m → (c : ℕ) → (c ≡ b → ⊥) → parts f s' c ≡ parts f s c
part_others f s s' b m e c n = rw e (ap f (get_or-set_other s.messages b c m blank n))

-- a part of a message that is the same in its new value is the same in all messages
pub same_part : {B : Type 0} (f : Message → B) (s s' : Machine) (b : ℕ) (m : Message) →
    s'.messages ≡ set s.messages b m → f m ≡ f (at s b) → parts f s' ≡ parts f s
same_part f s s' b m e h = fun_ext (λ c. rw e (get_or-set_keeps f s.messages b m blank h c))

pub agree : {A : Type 0} {f g : ℕ → A} → f ≡ g → (b : ℕ) → f b ≡ g b
agree {A} e b = ap (λ (f : ℕ → A). f b) e

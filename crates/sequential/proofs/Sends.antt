-- What an event that is applied sends: each message comes from its process, is later than it, due before the end, and
-- for a process of the model; the messages are numbered from the count on, and the count stays within the cap.
use Rattle.std.proofs.Common.{◌≡◌, ℕ, ◌+◌, ◌<◌, ◌≤◌, true, ltb, leb, List, [], ◌∷◌, length, refl, arith}
use Rattle.std.specs.List.{AllByRecursion}
use Rattle.std.proofs.lemmas.Bool.{cond_both, ltb-true, leb-true}
use Rattle.std.proofs.lemmas.Bool.Decides.{nat_tests}
use Rattle.model.specs.Meaning.{Meaning, listed, many}
use Rattle.model.specs.declared.reaction.Few.{Few}
use Rattle.model.specs.declared.reaction.Few.TheVariants.{Nothing, One, Two}
use Rattle.model.specs.declared.reaction.Reaction.{Reaction}
use Rattle.model.specs.declared.reaction.Reaction.TheVariants.{Fault, Next}
use Rattle.model.specs.declared.reaction.Want.{Want}
use Rattle.sequential.specs.declared.event.Event.{Event}
use Rattle.sequential.specs.declared.limits.Limits.{Limits}
use Rattle.sequential.specs.declared.event.Outcome.{Outcome}
use Rattle.sequential.specs.declared.event.Process.{Process}
use Rattle.sequential.specs.Events.{flaw, is_fine, more, message_of, messages_of, reacted, applied}

pub length-listed : {A : Type 0} (xs : Few A) → length (listed xs) ≡ many xs
length-listed Nothing = refl
length-listed (One a) = refl
length-listed (Two a b) = refl

-- f may be a message of e
pub record Fits (size end : ℕ) (e f : Event) : Type 0 where
  pub sender : f.sender ≡ e.process
  pub later : e.time < f.time
  pub within : f.time < end
  pub receiver : f.process < size

all_more : (P : Event → Type 0) (f : Event) (fs : Few Event) → P f → AllByRecursion P (listed fs) →
    AllByRecursion P (listed (more f fs))
all_more P f Nothing h hs = (h, hs)
all_more P f (One a) h hs = (h, hs)
all_more P f (Two a b) h hs = (h, (hs.0, tt))

flaw_none : (size : ℕ) (w : Want) (ws : List Want) → is_fine (flaw size (w ∷ ws)) ≡ true →
    (w.receiver < size) × (0 < w.delay) × (is_fine (flaw size ws) ≡ true)
flaw_none size w ws h = (grind (arith, nat_tests), grind (arith, nat_tests), grind (arith, nat_tests))

messages_fit : (size end : ℕ) (e : Event) (n : ℕ) (ws : List Want) → is_fine (flaw size ws) ≡ true →
    AllByRecursion (Fits size end e) (listed (messages_of end e n ws))
messages_fit size end e n [] h = tt
messages_fit size end e n (w ∷ ws) h =
    let f = flaw_none size w ws h in
    cond_both (ltb (e.time + w.delay) end) _ _ (λ fs. AllByRecursion (Fits size end e) (listed fs))
    (λ t. all_more (Fits size end e) (message_of e n w) (messages_of end e (n + 1) ws)
    (record { sender = refl; later = omega arith; within = ltb-true _ _ t; receiver = f.0 })
    (messages_fit size end e (n + 1) ws f.2))
    (λ _. messages_fit size end e n ws f.2)

-- the messages are numbered from n on
abbrev pub Numbered : ℕ → List Event → Type 0
Numbered n [] = Unit {0}
Numbered n (e ∷ es) = (e.number ≡ n) × Numbered (n + 1) es

Numbered-more : (n : ℕ) (f : Event) (fs : Few Event) → f.number ≡ n → Numbered (n + 1) (listed fs) →
    Numbered n (listed (more f fs))
Numbered-more n f Nothing h hs = (h, hs)
Numbered-more n f (One a) h hs = (h, hs)
Numbered-more n f (Two a b) h hs = (h, (hs.0, tt))

messages_numbered : (end : ℕ) (e : Event) (n : ℕ) (ws : List Want) → Numbered n (listed (messages_of end e n ws))
messages_numbered end e n [] = tt
messages_numbered end e n (w ∷ ws) =
    cond_both (ltb (e.time + w.delay) end) _ _ (λ fs. Numbered n (listed fs))
    (λ _. Numbered-more n (message_of e n w) (messages_of end e (n + 1) ws) refl (messages_numbered end e (n + 1) ws))
    (λ _. messages_numbered end e n ws)

-- what an event e of a process that has sent n messages may send
pub record Sends (size : ℕ) (u : Limits) (e : Event) (n : ℕ) (fs : Few Event) : Type 0 where
  pub fit : AllByRecursion (Fits size u.end e) (listed fs)
  pub numbered : Numbered n (listed fs)
  pub capped : n ≤ u.most → n + many fs ≤ u.most

none_sent : (size : ℕ) (u : Limits) (e : Event) (n : ℕ) → Sends size u e n Nothing
none_sent size u e n = record { fit = tt; numbered = tt; capped = λ l. omega arith }

pub applied-sends : (m : Meaning) (u : Limits) (e : Event) (q : Process) →
    Sends m.size u e q.count (applied m u e q).sends
unfolding applied
applied-sends m u e q = go (m.reaction e.process q.state e.time e.payload)
  where
    go : (r : Reaction) → Sends m.size u e q.count (reacted m.size u e q r).sends
    go (Fault c) = none_sent m.size u e q.count
    go (Next s ws) =
        cond_both (is_fine (flaw m.size (listed ws))) _ _ (λ (o : Outcome). Sends m.size u e q.count o.sends)
        (λ f. cond_both (leb (q.count + many (messages_of u.end e q.count (listed ws))) u.most) _ _
        (λ (o : Outcome). Sends m.size u e q.count o.sends)
        (λ c. record {
          fit = messages_fit m.size u.end e q.count (listed ws) f;
          numbered = messages_numbered u.end e q.count (listed ws);
          capped = λ _. leb-true _ _ c;
        })
        (λ _. none_sent m.size u e q.count))
        (λ _. none_sent m.size u e q.count)

-- `earlier` is a strict total order on keys.
use Rattle.std.proofs.Common.{◌≡◌, ◌<◌, ◌≤◌, true, false, sym, inl, inr, arith}
use Rattle.std.proofs.lemmas.Bool.{cases_Bool, both_ways}
use Rattle.std.proofs.lemmas.Bool.Decides.{nat_tests}
use Rattle.std.specs.Cmp.{IsStrictWeakOrder}
use Rattle.sequential.specs.declared.event.Event.{Event}
use Rattle.sequential.specs.Events.{earlier}

-- two events with one key
pub record SameKey (e f : Event) : Type 0 where
  pub time : e.time ≡ f.time
  pub process : e.process ≡ f.process
  pub sender : e.sender ≡ f.sender
  pub number : e.number ≡ f.number

pub SameKey-sym : {e f : Event} → SameKey e f → SameKey f e
SameKey-sym k = record { time = sym k.time; process = sym k.process; sender = sym k.sender; number = sym k.number }

pub earlier_irreflexive : (e f : Event) → SameKey e f → earlier e f ≡ false
earlier_irreflexive e f k = grind (arith, nat_tests)

pub earlier_one_way : (e f : Event) → earlier e f ≡ true → earlier f e ≡ false
earlier_one_way e f h = grind (arith, nat_tests)

pub earlier_time : (e f : Event) → earlier e f ≡ true → e.time ≤ f.time
earlier_time e f h = grind (arith, nat_tests)

pub time_earlier : (e f : Event) → e.time < f.time → earlier e f ≡ true
time_earlier e f h = grind (arith, nat_tests)

pub not_earlier_time : (e f : Event) → earlier e f ≡ false → f.time ≤ e.time
not_earlier_time e f h = grind (arith, nat_tests)

pub earlier-total : (e f : Event) → earlier e f ≡ false → earlier f e ≡ false → SameKey e f
earlier-total e f h k =
    record {
      time = grind (arith, nat_tests);
      process = grind (arith, nat_tests);
      sender = grind (arith, nat_tests);
      number = grind (arith, nat_tests);
    }

-- the negation of `earlier` is transitive too
pub earlier_chain : (e f g : Event) → earlier e f ≡ false → earlier f g ≡ false → earlier e g ≡ false
earlier_chain e f g h k = grind (arith, nat_tests)

SameKey-earlier : (e f g : Event) → SameKey e g → earlier e f ≡ true → earlier g f ≡ true
SameKey-earlier e f g k h = grind (arith, nat_tests)

pub earlier_trans : (e f g : Event) → earlier e f ≡ true → earlier f g ≡ true → earlier e g ≡ true
earlier_trans e f g h k = elim (cases_Bool (earlier e g)) [ inl t ↦ t | inr n ↦ absurd (refuted n) ]
  where
    refuted : earlier e g ≡ false → ⊥
    refuted n = both_ways _ (earlier_one_way f g k)
        (SameKey-earlier e f g
        (earlier-total e g n (earlier_chain g f e (earlier_one_way f g k) (earlier_one_way e f h))) h)

pub IsStrictWeakOrder-earlier : IsStrictWeakOrder earlier
IsStrictWeakOrder-earlier = record { one_way = earlier_one_way; chain = earlier_chain }

-- A process with no done event as late as the mark has none past it.
use Rattle.std.proofs.Common.{◌≡◌, ℕ, ◌<◌, Bool, true, false, ◌&&◌, eqb, ltb, List, get_or, refl, inl, inr}
use Rattle.std.proofs.Common.{arith}
use Rattle.std.proofs.lemmas.Bool.{cases_eq}
use Rattle.std.proofs.lemmas.Bool.Decides.{nat_tests}
use Rattle.sequential.specs.declared.event.Event.{Event}
use Rattle.machine.specs.declared.message.Message.{Message}
use Rattle.machine.specs.declared.message.Phase.{Phase}
use Rattle.machine.specs.declared.message.Phase.TheVariants.{Free, Transit, Pending, Done}
use Rattle.machine.specs.Machine.{blank, is_done, past}
use Rattle.choice.specs.Turn.{Until}

not_past : (through : Bool) (mark e : Event) → e.time < mark.time → past through mark e ≡ false
not_past true mark e h = let a : ltb e.time mark.time ≡ true = grind (arith, nat_tests) in rw a
not_past false mark e h =
    let a : ltb mark.time e.time ≡ false = grind (arith, nat_tests) in
    let b : eqb mark.time e.time ≡ false = grind (arith, nat_tests) in
    rw (a, b)

and_false : (a : Bool) → (a && false) ≡ false
and_false true = refl
and_false false = refl

refused : (phase : Phase) (p q : ℕ) (b : Bool) → (phase ≡ Done → p ≡ q → b ≡ false) →
    (is_done phase && (eqb p q && b)) ≡ false
refused Free p q b h = refl
refused Transit p q b h = refl
refused Pending p q b h = refl
refused Done p q b h = elim (cases_eq p q) [
  | inl e ↦ rw (h refl e) (and_false (eqb p q))
  | inr ne ↦ let f : eqb p q ≡ false = grind (arith, nat_tests) in rw f
]

pub none_past : (ts : List ℕ) (ms : List Message) (p : ℕ) (through : Bool) (mark : Event) → Until ts ms →
    get_or ts p 0 < mark.time → (k : ℕ) → k < 256 →
    (is_done (get_or ms k blank).phase &&
    (eqb (get_or ms k blank).event.process p && past through mark (get_or ms k blank).event)) ≡ false
none_past ts ms p through mark until h k lt =
    refused (get_or ms k blank).phase (get_or ms k blank).event.process p (past through mark (get_or ms k blank).event)
    (λ d e. let u = until k lt d in let v : get_or ts (get_or ms k blank).event.process 0 < mark.time = rw e h in
    not_past through mark (get_or ms k blank).event (omega arith))

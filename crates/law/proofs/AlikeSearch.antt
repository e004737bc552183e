-- Two machines that differ in the names of their buffers pick the same messages: of those that a search looks at, none
-- is in transit, so no two have one key, and the first by the order is one message.
use Rattle.std.proofs.Common.{◌≡◌, ℕ, Bool, true, false, Some, None, Option, sym, refl, ap, ◌∙◌, subst}
use Rattle.std.proofs.lemmas.Bool.{both_ways}
use Rattle.std.specs.Cmp.{IsStrictWeakOrder}
use Rattle.sequential.proofs.Keys.{SameKey}
use Rattle.sequential.specs.declared.event.Event.{Event}
use Rattle.machine.specs.Machine.{Machine, blank, at, is_transit, foremost}
use Rattle.machine.specs.declared.message.Message.{Message}
use Rattle.law.proofs.Alike.{carried, renamed, Alike}
use Rattle.law.proofs.Invariant.{is_live, lives, transits, events}
use Rattle.law.proofs.Search.{Foremost, foremost_some, foremost_none}

-- two live messages, neither in transit, never have one key
abbrev pub Separate : Machine → Type 0
Separate s = (b c : ℕ) → lives s b ≡ true → transits s b ≡ false → lives s c ≡ true → transits s c ≡ false →
    SameKey (events s b) (events s c) → b ≡ c

module _ {f g : ℕ → ℕ} {s s' : Machine} (A : Alike f g s s') (apart : Separate s) (ok : Message → Bool)
    (before : Event → Event → Bool) (o : IsStrictWeakOrder before)
    (total : (e e' : Event) → before e e' ≡ false → before e' e ≡ false → SameKey e e')
    (blind : (m : Message) → ok (renamed f m) ≡ ok m) (off : ok blank ≡ false)
    (stands : (m : Message) → ok m ≡ true → (is_live m.phase ≡ true) × (is_transit m.phase ≡ false)) where
  there : (b : ℕ) → ok (at s b) ≡ true → ok (at s' (f b)) ≡ true
  there b h = rw (A.named.is b (stands _ h).0, blind) h

  here : (b : ℕ) → ok (at s' b) ≡ true → (ok (at s (g b)) ≡ true) × (f (g b) ≡ b) × (events s (g b) ≡ events s' b)
  here b h =
      let x = A.named.back b (stands _ h).0 in
      let e : at s' b ≡ renamed f (at s (g b)) = subst (λ (c : ℕ). at s' c ≡ renamed f (at s (g b))) x.1
      (A.named.is (g b) x.0) in
      (sym (blind (at s (g b))) ∙ (sym (ap ok e) ∙ h), x.1, sym (ap (λ (m : Message). m.event) e))

  pub foremost-Alike : foremost ok before s' ≡ carried f (foremost ok before s)
  foremost-Alike = go (foremost ok before s) (foremost ok before s') refl refl
    where
      go : (x y : Option ℕ) → foremost ok before s ≡ x → foremost ok before s' ≡ y → y ≡ carried f x
      go None None h h' = refl
      go None (Some b') h h' =
          absurd (both_ways _ (foremost_none ok before o s off h (g b'))
          (here b' (foremost_some ok before o s' off b' h').passes).0)
      go (Some b) None h h' =
          absurd (both_ways _ (foremost_none ok before o s' off h' (f b))
          (there b (foremost_some ok before o s off b h).passes))
      go (Some b) (Some b') h h' = rw same refl
        where
          F : Foremost ok before o s b
          F = foremost_some ok before o s off b h

          F' : Foremost ok before o s' b'
          F' = foremost_some ok before o s' off b' h'

          x : (ok (at s (g b')) ≡ true) × (f (g b') ≡ b') × (events s (g b') ≡ events s' b')
          x = here b' F'.passes

          key : SameKey (events s b) (events s (g b'))
          key =
              total _ _ (rw (x.2, ← ap (λ (m : Message). m.event) (A.named.is b (stands _ F.passes).0))
              (F'.least (f b) (there b F.passes))) (F.least (g b') x.0)

          same : b' ≡ f b
          same =
              sym x.1 ∙
              ap f (sym (apart b (g b') (stands _ F.passes).0 (stands _ F.passes).1 (stands _ x.0).0
              (stands _ x.0).1 key))

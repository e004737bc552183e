-- What speaks of a list of buffers depends on those buffers only; and a test that changes at one buffer only.
use Rattle.std.proofs.Common.{◌≡◌, ℕ, Bool, true, false, List, [], ◌∷◌, sym, refl, ◌∙◌, inl, inr}
use Rattle.std.proofs.lemmas.Bool.{both_ways}
use Rattle.sequential.proofs.Keys.{SameKey}
use Rattle.sequential.specs.declared.event.Event.{Event}
use Rattle.sequential.specs.declared.event.Outcome.{Outcome}
use Rattle.sequential.specs.declared.event.Process.{Process}
use Rattle.law.proofs.Invariant.{Queue, Latest, Chain}
use Rattle.law.proofs.Members.{In}

pub queue_same : (gone gone' : ℕ → Bool) (event event' : ℕ → Event) (xs : List ℕ) →
    ((c : ℕ) → In c xs → (gone' c ≡ gone c) × (event' c ≡ event c)) → Queue gone event xs → Queue gone' event' xs
queue_same gone gone' event event' [] h q = tt
queue_same gone gone' event event' (x ∷ xs) h q =
    (behind, queue_same gone gone' event event' xs (λ c i. h c (inr i)) q.1)
  where
    behind : gone' x ≡ false → (c : ℕ) → In c xs → SameKey (event' x) (event' c) → ⊥
    behind f c i k = q.0 (sym (h x (inl refl)).0 ∙ f) c i (rw ((h x (inl refl)).1, (h c (inr i)).1) at k)

pub latest_same : (event event' : ℕ → Event) (xs : List ℕ) → ((c : ℕ) → In c xs → event' c ≡ event c) →
    Latest event xs → Latest event' xs
latest_same event event' [] h l = tt
latest_same event event' (x ∷ xs) h l =
    (λ c i. rw (h x (inl refl), h c (inr i)) (l.0 c i), latest_same event event' xs (λ c i. h c (inr i)) l.1)

pub Chain-same : (apply : Event → Process → Outcome) (event event' : ℕ → Event) (snapshot snapshot' : ℕ → Process)
    (outcome outcome' : ℕ → Outcome) (q₀ : Process) (xs : List ℕ) (q : Process) →
    ((c : ℕ) → In c xs → (event' c ≡ event c) × (snapshot' c ≡ snapshot c) × (outcome' c ≡ outcome c)) →
    Chain apply event snapshot outcome q₀ xs q → Chain apply event' snapshot' outcome' q₀ xs q
Chain-same apply event event' snapshot snapshot' outcome outcome' q₀ [] q h c = c
Chain-same apply event event' snapshot snapshot' outcome outcome' q₀ (x ∷ xs) q h c =
    let e = h x (inl refl) in (
      rw (e.0, e.1, e.2) c.0,
      rw (e.1, e.2) c.1,
      rw e.1 (Chain-same apply event event' snapshot snapshot' outcome outcome' q₀ xs (snapshot x)
          (λ y i. h y (inr i)) c.2),
    )

-- a test that fails at b and is elsewhere as it was
pub before : (f f' : ℕ → Bool) (b : ℕ) → f' b ≡ false → ((c : ℕ) → (c ≡ b → ⊥) → f' c ≡ f c) → (c : ℕ) → f' c ≡ true →
    (c ≡ b → ⊥) × (f c ≡ true)
before f f' b off others c h = let n : c ≡ b → ⊥ = λ e. both_ways _ off (rw e at h) in (n, sym (others c n) ∙ h)

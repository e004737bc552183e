-- The waiting events of the sequential run, least key first.
use Rattle.std.proofs.Common.{◌≡◌, ℕ, ◌+◌, ◌<◌, ◌≤◌, suc, Bool, true, false, not, ◌⊎◌, List, [], ◌∷◌, length, sym, refl}
use Rattle.std.proofs.Common.{ap, ◌∙◌, inl, inr, arith}
use Rattle.std.specs.List.{insert, position, position_or_len}
use Rattle.std.specs.Option.{unwrap_or}
use Rattle.std.proofs.lemmas.Bool.Decides.{nat_tests}
use Rattle.std.proofs.lemmas.List.Sums.{prefix_len-le-length}
use Rattle.std.proofs.lemmas.Bool.{cases_Bool, both_ways, cond_both}
use Rattle.sequential.specs.declared.event.Event.{Event}
use Rattle.sequential.specs.Events.{earlier}
use Rattle.sequential.specs.Run.{queued, queued_all}
use Rattle.sequential.proofs.Keys.{SameKey, SameKey-sym, earlier_trans, earlier-total, earlier_one_way, time_earlier}
use Rattle.sequential.proofs.Sends.{Numbered}

-- the event stands in the list
abbrev pub Among : Event → List Event → Type 0
Among e [] = ⊥
Among e (f ∷ fs) = (e ≡ f) ⊎ Among e fs

-- strictly least first
abbrev pub Ascending : List Event → Type 0
Ascending [] = Unit {0}
Ascending (e ∷ es) = ((f : Event) → Among f es → earlier e f ≡ true) × Ascending es

-- no two have one key
abbrev pub Distinct : List Event → Type 0
Distinct [] = Unit {0}
Distinct (e ∷ es) = ((f : Event) → Among f es → SameKey e f → ⊥) × Distinct es

Numbered-above : (n : ℕ) (es : List Event) → Numbered n es → (f : Event) → Among f es → n ≤ f.number
Numbered-above n [] h f i = absurd i
Numbered-above n (e ∷ es) h f (inl k) = let q = ap (λ (x : Event). x.number) k in let r = h.0 in omega arith
Numbered-above n (e ∷ es) h f (inr i) = let q = Numbered-above (n + 1) es h.1 f i in omega arith

pub Numbered-distinct : (n : ℕ) (es : List Event) → Numbered n es → Distinct es
Numbered-distinct n [] h = tt
Numbered-distinct n (e ∷ es) h = (
  λ f i k. let q = Numbered-above (n + 1) es h.1 f i in let r = h.0 in let v = k.number in
      omega arith,
  Numbered-distinct (n + 1) es h.1,
)

pub queued_from : (x e : Event) (fs : List Event) → Among x (queued e fs) → (x ≡ e) ⊎ Among x fs
queued_from x e [] (inl k) = inl k
queued_from x e [] (inr i) = absurd i
queued_from x e (f ∷ fs) i = cond_both (earlier e f) (e ∷ f ∷ fs) (f ∷ queued e fs)
    (λ gs. Among x gs → (x ≡ e) ⊎ Among x (f ∷ fs))
    (λ _ j. j)
    (λ _. elim [
      | inl k ↦ inr (inl k)
      | inr j ↦ elim (queued_from x e fs j) [ inl k ↦ inl k | inr k ↦ inr (inr k) ]
    ]) i

pub queued_in : (x e : Event) (fs : List Event) → (x ≡ e) ⊎ Among x fs → Among x (queued e fs)
queued_in x e [] i = i
queued_in x e (f ∷ fs) i = cond_both (earlier e f) (e ∷ f ∷ fs) (f ∷ queued e fs) (λ gs. Among x gs) (λ _. i)
    (λ _. go i (queued_in x e fs))
  where
    go : (x ≡ e) ⊎ Among x (f ∷ fs) → ((x ≡ e) ⊎ Among x fs → Among x (queued e fs)) → Among x (f ∷ queued e fs)
    go (inl k) h = inr (h (inl k))
    go (inr (inl k)) h = inl k
    go (inr (inr j)) h = inr (h (inr j))

pub queued_ascending : (e : Event) (fs : List Event) → ((f : Event) → Among f fs → SameKey e f → ⊥) → Ascending fs →
    Ascending (queued e fs)
queued_ascending e [] n a = (λ f i. absurd i, tt)
queued_ascending e (f ∷ fs) n a = cond_both (earlier e f) (e ∷ f ∷ fs) (f ∷ queued e fs) Ascending
    (λ t. (λ g. elim [ inl k ↦ rw k t | inr i ↦ earlier_trans e f g t (a.0 g i) ], a))
    (λ h. (
      λ g i. elim (queued_from g e fs i) [
        | inl k ↦
            rw k (elim (cases_Bool (earlier f e))
            [ inl t ↦ t | inr h' ↦ absurd (n f (inl refl) (earlier-total e f h h')) ])
        | inr j ↦ a.0 g j
      ],
      queued_ascending e fs (λ g i. n g (inr i)) a.1,
    ))

pub queued_all_from : (x : Event) (es fs : List Event) → Among x (queued_all es fs) → Among x es ⊎ Among x fs
queued_all_from x [] fs i = inr i
queued_all_from x (e ∷ es) fs i = elim (queued_all_from x es (queued e fs) i) [
  | inl j ↦ inl (inr j)
  | inr j ↦ elim (queued_from x e fs j) [ inl k ↦ inl (inl k) | inr k ↦ inr k ]
]

pub queued_all_in : (x : Event) (es fs : List Event) → Among x es ⊎ Among x fs → Among x (queued_all es fs)
queued_all_in x [] fs (inl i) = absurd i
queued_all_in x [] fs (inr i) = i
queued_all_in x (e ∷ es) fs (inl (inl k)) = queued_all_in x es (queued e fs) (inr (queued_in x e fs (inl k)))
queued_all_in x (e ∷ es) fs (inl (inr i)) = queued_all_in x es (queued e fs) (inl i)
queued_all_in x (e ∷ es) fs (inr i) = queued_all_in x es (queued e fs) (inr (queued_in x e fs (inr i)))

pub queued_all_ascending : (es fs : List Event) → Distinct es →
    ((e f : Event) → Among e es → Among f fs → SameKey e f → ⊥) → Ascending fs → Ascending (queued_all es fs)
queued_all_ascending [] fs d n a = a
queued_all_ascending (e ∷ es) fs d n a = queued_all_ascending es (queued e fs) d.1
    (λ g f i j k. elim (queued_from f e fs j) [ inl q ↦ d.0 g i (SameKey-sym (rw q at k)) | inr q ↦ n g f (inr i) q k ])
    (queued_ascending e fs (λ f i. n e f (inl refl) i) a)

-- the least stands first
pub Ascending-head : (e : Event) (ws : List Event) → Ascending ws → Among e ws →
    ((f : Event) → Among f ws → earlier f e ≡ false) → (rest : List Event) × (ws ≡ e ∷ rest)
Ascending-head e [] a i n = absurd i
Ascending-head e (w ∷ ws) a (inl k) n = (ws, rw k)
Ascending-head e (w ∷ ws) a (inr i) n = absurd (both_ways _ (n w (inl refl)) (a.0 e i))

-- the order in which two events with different keys begin to wait does not matter
pub queued_comm : (e f : Event) → (SameKey e f → ⊥) → (gs : List Event) →
    queued e (queued f gs) ≡ queued f (queued e gs)
queued_comm e f n [] = go (earlier e f) refl (earlier f e) refl
  where
    go : (a : Bool) → earlier e f ≡ a → (b : Bool) → earlier f e ≡ b → queued e (f ∷ []) ≡ queued f (e ∷ [])
    go true h true k = absurd (both_ways _ (earlier_one_way e f h) k)
    go true h false k = rw (h, k) refl
    go false h true k = rw (h, k) refl
    go false h false k = absurd (n (earlier-total e f h k))
queued_comm e f n (g ∷ gs) = go (earlier e g) refl (earlier f g) refl (earlier e f) refl (earlier f e) refl
    (queued_comm e f n gs)
  where
    go : (a : Bool) → earlier e g ≡ a → (b : Bool) → earlier f g ≡ b → (c : Bool) → earlier e f ≡ c → (d : Bool) →
        earlier f e ≡ d → queued e (queued f gs) ≡ queued f (queued e gs) →
        queued e (queued f (g ∷ gs)) ≡ queued f (queued e (g ∷ gs))
    go a x b y true z true u r = absurd (both_ways _ (earlier_one_way e f z) u)
    go a x b y false z false u r = absurd (n (earlier-total e f z u))
    go true x true y true z false u r = simp (x, y, z, u)
    go true x true y false z true u r = simp (x, y, z, u)
    go true x false y true z false u r = simp (x, y, u)
    go true x false y false z true u r = absurd (both_ways _ y (earlier_trans f e g u x))
    go false x true y true z false u r = absurd (both_ways _ x (earlier_trans e f g z y))
    go false x true y false z true u r = simp (x, y, z)
    go false x false y true z false u r = simp (x, y) (ap (λ (hs : List Event). g ∷ hs) r)
    go false x false y false z true u r = simp (x, y) (ap (λ (hs : List Event). g ∷ hs) r)

pub queued_all_comm : (e : Event) (fs : List Event) → ((f : Event) → Among f fs → SameKey e f → ⊥) → (gs : List Event) →
    queued_all fs (queued e gs) ≡ queued e (queued_all fs gs)
queued_all_comm e [] n gs = refl
queued_all_comm e (f ∷ fs) n gs = ap (queued_all fs) (sym (queued_comm e f (n f (inl refl)) gs))
    ∙ queued_all_comm e fs (λ g i. n g (inr i)) (queued f gs)

pub queued-behind : (e f : Event) (fs : List Event) → f.time < e.time → queued e (f ∷ fs) ≡ f ∷ queued e fs
queued-behind e f fs l = let h = earlier_one_way f e (time_earlier f e l) in simp h

-- behind the first it is one place further
insert_behind : (e x : Event) (xs : List Event) (k j : ℕ) → j ≡ suc k → insert (x ∷ xs) j e ≡ x ∷ insert xs k e
insert_behind e x xs k j h = rw h

queued-insert : (e : Event) (xs : List Event) → insert xs (position_or_len (earlier e) xs) e ≡ queued e xs
queued-insert e [] = refl
queued-insert e (x ∷ xs) = elim (cases_Bool (earlier e x)) [
  | inl t ↦ simp t
  | inr n ↦
      simp n (insert_behind e x xs (position_or_len (earlier e) xs) _ (omega arith)
      ∙ ap (λ ys. x ∷ ys) (queued-insert e xs))
]

-- an event begins to wait in front of the first later one, or behind all
pub queued-placed : (e : Event) (xs : List Event) (k : ℕ) →
    k ≡ unwrap_or (position (earlier e) xs) (length xs) → insert xs k e ≡ queued e xs
queued-placed e xs k h = rw (h, place) (queued-insert e xs)
  where
    place : unwrap_or (position (earlier e) xs) (length xs) ≡ position_or_len (earlier e) xs
    place = grind (arith, nat_tests, prefix_len-le-length (λ x. not (earlier e x)) xs)

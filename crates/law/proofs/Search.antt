-- What a search through the messages finds: how many pass a test, and which of them comes first by an order.
use Rattle.std.proofs.Common.{◌≡◌, ℕ, zero, suc, ◌+◌, ◌<◌, ◌≤◌, Bool, true, false, ◌&&◌, ◌⊎◌, List, [], ◌∷◌, length}
use Rattle.std.proofs.Common.{get_or, set, Some, None, sym, refl, ◌∙◌, inl, inr, arith}
use Rattle.std.proofs.lemmas.List.{get_or_past}
use Rattle.std.proofs.lemmas.Option.{none-some}
use Rattle.std.proofs.lemmas.Bool.{cases_Bool, both_ways, cases_lt, and_parts, and_cases}
use Rattle.std.specs.Cmp.{IsStrictWeakOrder}
use Rattle.sequential.proofs.Keys.{earlier_one_way, earlier_chain}
use Rattle.sequential.specs.declared.event.Event.{Event}
use Rattle.machine.specs.Machine.{Machine, blank, chosen, foremost, at, counted, later}
use Rattle.machine.specs.declared.message.Message.{Message}

pub IsStrictWeakOrder-later : IsStrictWeakOrder later
IsStrictWeakOrder-later = record { one_way = λ e f. earlier_one_way f e; chain = λ e f g h k. earlier_chain g f e k h }

-- ---- counting

pub counted-length : (ok : Message → Bool) (ms : List Message) → counted ok ms ≤ length ms
counted-length ok [] = omega arith
counted-length ok (m ∷ ms) = let r = counted-length ok ms in grind arith

pub counted-set_same : (ok : Message → Bool) (ms : List Message) (b : ℕ) (m d : Message) → ok m ≡ ok (get_or ms b d) →
    counted ok (set ms b m) ≡ counted ok ms
counted-set_same ok [] b m d h = refl
counted-set_same ok (x ∷ xs) zero m d h = rw h
counted-set_same ok (x ∷ xs) (suc b) m d h = rw (counted-set_same ok xs b m d h)

pub counted-set_less : (ok : Message → Bool) (ms : List Message) (b : ℕ) (m d : Message) → b < length ms →
    ok (get_or ms b d) ≡ true → ok m ≡ false → suc (counted ok (set ms b m)) ≡ counted ok ms
counted-set_less ok [] b m d l h k = absurd (omega arith)
counted-set_less ok (x ∷ xs) zero m d l h k = rw (h, k)
counted-set_less ok (x ∷ xs) (suc b) m d l h k = let r = counted-set_less ok xs b m d (omega arith) h k in grind arith

pub counted_none : (ok : Message → Bool) (ms : List Message) (d : Message) → counted ok ms ≡ 0 → (b : ℕ) →
    b < length ms → ok (get_or ms b d) ≡ false
counted_none ok [] d h b l = absurd (omega arith)
counted_none ok (x ∷ xs) d h zero l = grind arith
counted_none ok (x ∷ xs) d h (suc b) l = counted_none ok xs d (grind arith) b (omega arith)

pub counted_zero : (ok : Message → Bool) (ms : List Message) →
    ((b : ℕ) → b < length ms → ok (get_or ms b blank) ≡ false) → counted ok ms ≡ 0
counted_zero ok [] h = refl
counted_zero ok (m ∷ ms) h = rw (h 0 (omega arith)) (counted_zero ok ms (λ b l. h (suc b) (omega arith)))

-- ---- `foremost`

module _ (ok : Message → Bool) (before : Event → Event → Bool) (o : IsStrictWeakOrder before) where
  -- r with event f is what the search through ms, at i and on, makes of the best so far, b with event e
  pub record Picked (ms : List Message) (i b : ℕ) (e : Event) (r : ℕ) (f : Event) : Type 0 where
    pub is : chosen ok before ms i (Some b) e ≡ Some r
    pub where' : ((r ≡ b) × (f ≡ e)) ⊎
        ((k : ℕ) × (r ≡ i + k) × (k < length ms) × (ok (get_or ms k blank) ≡ true) × (f ≡ (get_or ms k blank).event))
    pub first : before e f ≡ false
    pub least : (k : ℕ) → k < length ms → ok (get_or ms k blank) ≡ true → before (get_or ms k blank).event f ≡ false

  irreflexive : (e : Event) → before e e ≡ false
  irreflexive e = elim (cases_Bool (before e e)) [ inl t ↦ o.one_way e e t | inr n ↦ n ]

  picks : (ms : List Message) (i b : ℕ) (e : Event) → (r : ℕ) × (f : Event) × Picked ms i b e r f
  picks [] i b e = (
    b,
    e,
    record {
      is = refl;
      where' = inl (refl, refl);
      first = irreflexive e;
      least = λ k l. absurd (omega arith);
    },
  )
  picks (m ∷ ms) i b e = go (ok m && before m.event e) refl (picks ms (suc i) i m.event) (picks ms (suc i) b e)
    where
      shifted : (r n : ℕ) (f e' : Event) → Picked ms (suc i) n e' r f →
          ((r ≡ n) × (f ≡ e')) ⊎ ((k : ℕ) × (r ≡ i + suc k) × (k < length ms) × (ok (get_or ms k blank) ≡ true) ×
          (f ≡ (get_or ms k blank).event))
      shifted r n f e' p = elim p.where' [ inl x ↦ inl x | inr x ↦ inr (x.0, omega arith, x.2, x.3, x.4) ]

      go : (t : Bool) → (ok m && before m.event e) ≡ t → (r : ℕ) × (f : Event) × Picked ms (suc i) i m.event r f →
          (r : ℕ) × (f : Event) × Picked ms (suc i) b e r f → (r : ℕ) × (f : Event) × Picked (m ∷ ms) i b e r f
      go true h (r, f, p) _ = (
        r,
        f,
        record {
          is = rw (h, chosen) p.is;
          where' =
              elim (shifted r i f m.event p) [
                | inl x ↦ inr (0, omega arith, omega arith, (and_parts _ _ h).0, x.1)
                | inr x ↦
                    inr (suc x.0, x.1, omega arith, x.3, x.4)
              ];
          first = o.chain _ _ _ (o.one_way _ _ (and_parts _ _ h).1) p.first;
          least = elim [ zero ↦ λ l k. p.first | suc k ↦ λ l. p.least k (omega arith) ];
        },
      )
      go false h _ (r, f, p) = (
        r,
        f,
        record {
          is = rw (h, chosen) p.is;
          where' = elim (shifted r b f e p) [ inl x ↦ inl x | inr x ↦ inr (suc x.0, x.1, omega arith, x.3, x.4) ];
          first = p.first;
          least =
              elim [
                | zero ↦ λ l k. o.chain _ _ _
                    (elim (and_cases _ _ h) [ inl n ↦ absurd (both_ways _ n k) | inr n ↦ n ]) p.first
                | suc k ↦
                    λ l. p.least k (omega arith)
              ];
        },
      )

  -- what a search from no best at all answers
  pub record Least (ms : List Message) (i r : ℕ) : Type 0 where
    pub place : ℕ
    pub is : r ≡ i + place
    pub within : place < length ms
    pub passes : ok (get_or ms place blank) ≡ true
    pub least : (k : ℕ) → k < length ms → ok (get_or ms k blank) ≡ true →
        before (get_or ms k blank).event (get_or ms place blank).event ≡ false

  pub chosen_some : (ms : List Message) (i : ℕ) (e : Event) (r : ℕ) → chosen ok before ms i None e ≡ Some r →
      Least ms i r
  chosen_some [] i e r h = absurd (none-some r h)
  chosen_some (m ∷ ms) i e r h = go (ok m) refl (picks ms (suc i) i m.event) (chosen_some ms (suc i) e r)
    where
      go : (t : Bool) → ok m ≡ t → (r : ℕ) × (f : Event) × Picked ms (suc i) i m.event r f →
          (chosen ok before ms (suc i) None e ≡ Some r → Least ms (suc i) r) → Least (m ∷ ms) i r
      go true t (r', f, p) _ = elim p.where' [
        | inl x ↦ record {
          place = 0;
          is = omega (arith, same);
          within = omega arith;
          passes = t;
          least = elim [ zero ↦ λ _ _. irreflexive m.event | suc k ↦ λ l y. rw x.1 at (p.least k (omega arith) y) ];
        }
        | inr x ↦ record {
          place = suc x.0;
          is = omega (arith, same);
          within = omega arith;
          passes = x.3;
          least = elim [ zero ↦ λ _ _. rw x.4 at p.first | suc k ↦ λ l y. rw x.4 at (p.least k (omega arith) y) ];
        }
      ]
        where
          taken : chosen ok before ms (suc i) (Some i) m.event ≡ Some r
          taken = rw (t, chosen) at h

          same : r ≡ r'
          same = let q = p.is in cc taken
      go false t _ f = let l : Least ms (suc i) r = f (rw (t, chosen) at h) in record {
        place = suc l.place;
        is = omega arith;
        within = omega arith;
        passes = l.passes;
        least = elim [ zero ↦ λ _ k. absurd (both_ways _ t k) | suc k ↦ λ x. l.least k (omega arith) ];
      }

  pub chosen_none : (ms : List Message) (i : ℕ) (e : Event) → chosen ok before ms i None e ≡ None → (k : ℕ) →
      k < length ms → ok (get_or ms k blank) ≡ false
  chosen_none [] i e h k l = absurd (omega arith)
  chosen_none (m ∷ ms) i e h k l = go (ok m) refl (picks ms (suc i) i m.event) (chosen_none ms (suc i) e) k l
    where
      go : (t : Bool) → ok m ≡ t → (r : ℕ) × (f : Event) × Picked ms (suc i) i m.event r f →
          (chosen ok before ms (suc i) None e ≡ None → (k : ℕ) → k < length ms → ok (get_or ms k blank) ≡ false) →
          (k : ℕ) → k < suc (length ms) → ok (get_or (m ∷ ms) k blank) ≡ false
      go true t (r, _, p) _ k l =
          absurd (let g : chosen ok before ms (suc i) (Some i) m.event ≡ None = rw (t, chosen) at h in
          none-some r (sym g ∙ p.is))
      go false t _ f zero l = t
      go false t _ f (suc k) l = f (rw (t, chosen) at h) k (omega arith)

  -- what `foremost` answers of a machine, where an empty buffer does not pass
  pub record Foremost (s : Machine) (b : ℕ) : Type 0 where
    pub passes : ok (at s b) ≡ true
    pub least : (c : ℕ) → ok (at s c) ≡ true → before (at s c).event (at s b).event ≡ false

  passing_within : (s : Machine) → ok blank ≡ false → (c : ℕ) → ok (at s c) ≡ true → c < length s.messages
  passing_within s n c h = elim (cases_lt c (length s.messages)) [
    | inl l ↦ l
    | inr g ↦ absurd (both_ways _ n (rw (get_or_past s.messages c blank g) at h))
  ]

  pub foremost_none : (s : Machine) → ok blank ≡ false → foremost ok before s ≡ None → (c : ℕ) → ok (at s c) ≡ false
  unfolding foremost
  foremost_none s n h c = elim (cases_Bool (ok (at s c))) [
    | inl t ↦ chosen_none s.messages 0 _ h c (passing_within s n c t)
    | inr f ↦ f
  ]

  pub foremost_some : (s : Machine) → ok blank ≡ false → (b : ℕ) → foremost ok before s ≡ Some b → Foremost s b
  unfolding foremost
  foremost_some s n b h = let l = chosen_some s.messages 0 _ b h in let e : b ≡ l.place = omega arith in record {
    passes = rw e l.passes;
    least = λ c k. rw e (l.least c (passing_within s n c k) k);
  }

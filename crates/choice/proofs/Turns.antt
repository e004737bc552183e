-- One turn of each pass over the records.
-- `chosen`, `counted` and `least_time` are the machine's own, so that the library has nothing of the kind.
use Rattle.std.proofs.Common.{◌≡◌, ℕ, zero, suc, ◌+◌, ◌<◌, ◌≤◌, min, Bool, true, false, cond, List, ◌∷◌, length, get_or}
use Rattle.std.proofs.Common.{drop, Some, None, Option, sym, ◌∙◌, inl, inr, add-one, arith}
use Rattle.std.proofs.lemmas.List.{drop_more, drop_all}
use Rattle.std.proofs.lemmas.Bool.{cases_Bool}
use Rattle.machine.specs.declared.message.Message.{Message}
use Rattle.sequential.specs.declared.event.Event.{Event}
use Rattle.machine.specs.Machine.{blank, no_event, chosen, counted, least_time}
use Rattle.choice.specs.Turn.{bettered, best_event, chosen_from}

module _ (ok : Message → Bool) (before : Event → Event → Bool) (xs : List Message) where
  -- what is left to choose from gives the same, one turn on
  turn : (i : ℕ) (ms : List Message) (o : Option ℕ) → chosen ok before (get_or xs i blank ∷ ms) i o (best_event xs o)
      ≡ chosen ok before ms (suc i) (bettered ok before xs i o) (best_event xs (bettered ok before xs i o))
  turn i ms None =
      elim (cases_Bool (ok (get_or xs i blank)))
      as (λ _. chosen ok before (get_or xs i blank ∷ ms) i None (best_event xs None)
      ≡ chosen ok before ms (suc i) (bettered ok before xs i None)
      (best_event xs (bettered ok before xs i None))) [
        | inl e ↦ rw (e, chosen)
        | inr e ↦ rw (e, chosen)
      ]
  turn i ms (Some b) =
      elim (cases_Bool (ok (get_or xs i blank)))
      as (λ _. chosen ok before (get_or xs i blank ∷ ms) i (Some b) (best_event xs (Some b))
      ≡ chosen ok before ms (suc i) (bettered ok before xs i (Some b))
      (best_event xs (bettered ok before xs i (Some b)))) [
        | inr e ↦ rw (e, chosen)
        | inl e ↦ elim (cases_Bool (before (get_or xs i blank).event (get_or xs b blank).event))
            as (λ _. chosen ok before (get_or xs i blank ∷ ms) i (Some b) (best_event xs (Some b))
            ≡ chosen ok before ms (suc i) (bettered ok before xs i (Some b))
            (best_event xs (bettered ok before xs i (Some b)))) [
              | inl f ↦ rw (e, f, chosen)
              | inr f ↦ rw (e, f, chosen)
            ]
      ]

  pub left_more : (i : ℕ) (o r x : Option ℕ) → i < length xs → r ≡ bettered ok before xs i o →
      chosen_from ok before xs i o ≡ x → chosen_from ok before xs (i + 1) r ≡ x
  left_more i o r x h e k =
      let t : chosen_from ok before xs i o ≡ chosen_from ok before xs (i + 1) (bettered ok before xs i o) =
      rw (drop_more xs i blank h, add-one) (turn i (drop (suc i) xs) o) in
      rw (e, ← t, k)

  pub left_all : (i : ℕ) (o : Option ℕ) → length xs ≤ i → chosen_from ok before xs i o ≡ o
  left_all i o h = rw (drop_all i xs h)

  -- a message that may not be chosen is no better
  bettered_no : (i : ℕ) (o : Option ℕ) → ok (get_or xs i blank) ≡ false → o ≡ bettered ok before xs i o
  bettered_no i None e = rw e
  bettered_no i (Some b) e = rw e

  pub left_skip : (i n : ℕ) (o : Option ℕ) → i + n ≤ length xs →
      ((k : ℕ) → k < n → ok (get_or xs (i + k) blank) ≡ false) →
      chosen_from ok before xs (i + n) o ≡ chosen_from ok before xs i o
  left_skip i zero o h out = let e : i + 0 ≡ i = omega arith in rw e
  left_skip i (suc n) o h out =
      let e : i + suc n ≡ (i + n) + 1 = omega arith in
      let r = left_skip i n o (omega arith) (λ k l. out k (omega arith)) in
      rw e (left_more (i + n) o o _ (omega arith) (bettered_no (i + n) o (out n (omega arith))) r)

  -- where no message may be chosen, none is
  pub none_chosen : ((k : ℕ) → k < length xs → ok (get_or xs k blank) ≡ false) →
      None ≡ chosen ok before xs 0 None no_event
  none_chosen out = sym (left_all (0 + length xs) None (omega arith))
      ∙ left_skip 0 (length xs) None (omega arith) (λ k h. let e : 0 + k ≡ k = omega arith in rw e (out k h))

module _ (ok : Message → Bool) (xs : List Message) (i : ℕ) (h : i < length xs) where
  pub count_yes : ok (get_or xs i blank) ≡ true → counted ok (drop i xs) ≡ suc (counted ok (drop (i + 1) xs))
  count_yes e = rw (drop_more xs i blank h, e)

  pub count_no : ok (get_or xs i blank) ≡ false → counted ok (drop i xs) ≡ counted ok (drop (i + 1) xs)
  count_no e = rw (drop_more xs i blank h, e)

  at_first : (t : ℕ) → least_time ok (drop i xs) t ≡ least_time ok (drop (i + 1) xs)
      (cond (ok (get_or xs i blank)) (min t (get_or xs i blank).event.time) t)
  at_first t = rw (drop_more xs i blank h)

  pub least_yes : (t : ℕ) → ok (get_or xs i blank) ≡ true → least_time ok (drop i xs) t
      ≡ least_time ok (drop (i + 1) xs) (min t (get_or xs i blank).event.time)
  least_yes t e = rw e at (at_first t)

  pub least_no : (t : ℕ) → ok (get_or xs i blank) ≡ false → least_time ok (drop i xs) t
      ≡ least_time ok (drop (i + 1) xs) t
  least_no t e = rw e at (at_first t)

-- messages that may not be chosen count for nothing, and lower no time
module _ (ok : Message → Bool) (xs : List Message) where
  pub count_skip : (i n : ℕ) → i + n ≤ length xs → ((k : ℕ) → k < n → ok (get_or xs (i + k) blank) ≡ false) →
      counted ok (drop (i + n) xs) ≡ counted ok (drop i xs)
  count_skip i zero h out = let e : i + 0 ≡ i = omega arith in rw e
  count_skip i (suc n) h out =
      let e : i + suc n ≡ (i + n) + 1 = omega arith in
      let one = count_no ok xs (i + n) (omega arith) (out n (omega arith)) in
      rw e (sym one ∙ count_skip i n (omega arith) (λ k l. out k (omega arith)))

  pub least_skip : (i n t : ℕ) → i + n ≤ length xs → ((k : ℕ) → k < n → ok (get_or xs (i + k) blank) ≡ false) →
      least_time ok (drop (i + n) xs) t ≡ least_time ok (drop i xs) t
  least_skip i zero t h out = let e : i + 0 ≡ i = omega arith in rw e
  least_skip i (suc n) t h out =
      let e : i + suc n ≡ (i + n) + 1 = omega arith in
      let one = least_no ok xs (i + n) (omega arith) t (out n (omega arith)) in
      rw e (sym one ∙ least_skip i n t (omega arith) (λ k l. out k (omega arith)))

pub count_all : (ok : Message → Bool) (xs : List Message) (i : ℕ) → length xs ≤ i → counted ok (drop i xs) ≡ 0
count_all ok xs i h = rw (drop_all i xs h)

pub least_all : (ok : Message → Bool) (xs : List Message) (i t : ℕ) → length xs ≤ i → least_time ok (drop i xs) t ≡ t
least_all ok xs i t h = rw (drop_all i xs h)

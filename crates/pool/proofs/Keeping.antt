-- A buffer that goes onto a lane's stack or off it, with its place, keeps what a shelf says of its stacks.
use Rattle.std.proofs.Common.{◌≡◌, ℕ, ◌+◌, ◌<◌, ◌≤◌, Bool, true, false, ◌==◌, ◌≢◌, List, [], ◌∷◌, ◌++◌, length, get_or}
use Rattle.std.proofs.Common.{set, refl, sym, ap, ◌∙◌, subst, inl, inr, arith, get_or-set_other, get_or-set_same}
use Rattle.std.proofs.Common.{length-append}
use Rattle.std.proofs.lemmas.Bool.{cases_eq, eq-eqb, ne_eqb}
use Rattle.std.proofs.lemmas.List.{get_or_default}
use Rattle.std.proofs.lemmas.List.Sums.{sum_by_push}
use Rattle.pool.specs.declared.place.Place.{Place}
use Rattle.pool.specs.declared.place.Place.TheVariants.{Out, Lane}
use Rattle.pool.specs.Lanes.{place_at, is_in, lies}
use Rattle.pool.specs.Stacks.{Tally, times, Once}
use Rattle.pool.specs.Laws.{one, in_is, in_own, in_other, lies-set, room, held_out}

times_push : (b x : ℕ) (xs : List ℕ) → times b (xs ++ x ∷ []) ≡ times b xs + one (x == b)
times_push b x xs = sum_by_push (λ y. one (y == b)) xs x

times_push_same : (b : ℕ) (xs : List ℕ) → times b (xs ++ b ∷ []) ≡ times b xs + 1
times_push_same b xs = times_push b b xs ∙ ap (λ t. times b xs + one t) (eq-eqb b b refl)

times_push_other : (b x : ℕ) (xs : List ℕ) → b ≢ x → times b (xs ++ x ∷ []) ≡ times b xs
times_push_other b x xs ne =
    times_push b x xs ∙ ap (λ t. times b xs + one t) (ne_eqb x b (λ e. ne (sym e))) ∙ omega arith

at_most_one : (t : Bool) → one t ≤ 1
at_most_one true = omega arith
at_most_one false = omega arith

holds_one : (t : Bool) → 0 < one t → t ≡ true
holds_one true h = refl
holds_one false h = let z : ⊥ = omega arith in absurd z

-- one buffer's place and one lane's stack change, and no other lane gains or loses it
module _ (ps : List Place) (stacks : List (List ℕ)) (l b : ℕ) (p : Place) (xs : List ℕ)
    (lane : l < length stacks) (known : b < length ps)
    (others : (m : ℕ) → m ≢ l → is_in m (place_at ps b) ≡ is_in m p) where
  Tally-moved : Tally ps stacks
      → length xs + one (is_in l (place_at ps b)) ≡ length (get_or stacks l []) + one (is_in l p)
      → Tally (set ps b p) (set stacks l xs)
  Tally-moved tally high m =
      let s = lies-set m ps b p known in
      let t = tally m in
      elim (cases_eq m l) [
        | inl e ↦ subst (λ i. length (get_or (set stacks l xs) i []) ≡ lies i (set ps b p)) (sym e)
            (let g = ap (λ (ys : List ℕ). length ys) (get_or-set_same stacks l xs [] lane) in
            let s = lies-set l ps b p known in
            let t = tally l in
            omega arith)
        | inr ne ↦
            (let g = ap (λ (ys : List ℕ). length ys) (get_or-set_other stacks l m xs [] ne) in
            let o = ap one (others m ne) in
            omega arith)
      ]

  Once-moved : Once ps stacks → times b xs ≡ one (is_in l p)
      → ((c : ℕ) → c ≢ b → times c xs ≡ times c (get_or stacks l [])) → Once (set ps b p) (set stacks l xs)
  Once-moved once own rest m c =
      elim (cases_eq m l) [
        | inl e ↦ subst (λ i. times c (get_or (set stacks l xs) i []) ≡ one (is_in i (place_at (set ps b p) c))) (sym e)
            (ap (times c) (get_or-set_same stacks l xs [] lane) ∙ elim (cases_eq c b) [
              | inl q ↦ subst (λ i. times i xs ≡ one (is_in l (place_at (set ps b p) i))) (sym q)
                  (own ∙ sym (ap (λ r. one (is_in l r)) (get_or-set_same ps b p Out known)))
              | inr ne ↦ rest c ne ∙ once l c ∙ sym (ap (λ r. one (is_in l r)) (get_or-set_other ps b c p Out ne))
            ])
        | inr ne ↦ ap (times c) (get_or-set_other stacks l m xs [] ne) ∙ once m c ∙ elim (cases_eq c b) [
          | inl q ↦ subst (λ i. one (is_in m (place_at ps i)) ≡ one (is_in m (place_at (set ps b p) i))) (sym q)
              (ap one (others m ne) ∙ sym (ap (λ r. one (is_in m r)) (get_or-set_same ps b p Out known)))
          | inr other ↦ sym (ap (λ r. one (is_in m r)) (get_or-set_other ps b c p Out other))
        ]
      ]

-- d is the stack itself, as the code that reads it says
module _ (ps : List Place) (stacks : List (List ℕ)) (l b : ℕ) (d xs : List ℕ)
    (tally : Tally ps stacks) (once : Once ps stacks) (lane : l < length stacks) (known : b < length ps) where
  read : get_or stacks l d ≡ get_or stacks l []
  read = get_or_default stacks l d [] lane

  module _ (top : get_or stacks l d ≡ xs ++ b ∷ []) where
    times_top : times b xs + 1 ≡ one (is_in l (place_at ps b))
    times_top = sym (times_push_same b xs) ∙ ap (times b) (sym top ∙ read) ∙ once l b

    in_lane : is_in l (place_at ps b) ≡ true
    in_lane = holds_one _ (omega (arith, times_top))

    -- the buffer on top of a lane's stack lies in the lane
    pub on_top : place_at ps b ≡ Lane l
    on_top = in_is l _ in_lane

    elsewhere : (m : ℕ) → m ≢ l → is_in m (place_at ps b) ≡ is_in m Out
    elsewhere m ne = ap (is_in m) on_top ∙ in_other l m ne

    pub Tally-pop : Tally (set ps b Out) (set stacks l xs)
    Tally-pop =
        Tally-moved ps stacks l b Out xs lane known elsewhere tally
        (let i = ap one in_lane in
        let t = ap (λ (ys : List ℕ). length ys) (sym read ∙ top) in
        let n = length-append xs (b ∷ []) in
        omega arith)

    pub Once-pop : Once (set ps b Out) (set stacks l xs)
    Once-pop =
        Once-moved ps stacks l b Out xs lane known elsewhere once
        (let o = at_most_one (is_in l (place_at ps b)) in omega (arith, times_top))
        (λ c ne. sym (times_push_other c b xs ne) ∙ ap (times c) (sym top ∙ read))

  module _ (out : place_at ps b ≡ Out) where
    -- a stack has room while some buffer is out
    pub height_room : length (get_or stacks l d) < length ps
    height_room =
        let e = ap (λ (ys : List ℕ). length ys) read in
        let t = tally l in
        let r = room l ps in
        let o = held_out ps b known out in
        omega arith

    nowhere : (m : ℕ) → m ≢ l → is_in m (place_at ps b) ≡ is_in m (Lane l)
    nowhere m ne = ap (is_in m) out ∙ sym (in_other l m ne)

    module _ (top : xs ≡ get_or stacks l d ++ b ∷ []) where
      pushed : xs ≡ get_or stacks l [] ++ b ∷ []
      pushed = top ∙ ap (λ ys. ys ++ b ∷ []) read

      pub Tally-push : Tally (set ps b (Lane l)) (set stacks l xs)
      Tally-push =
          Tally-moved ps stacks l b (Lane l) xs lane known nowhere tally
          (let i = ap one (in_own l) in
          let o = ap (λ p. one (is_in l p)) out in
          let t = ap (λ (ys : List ℕ). length ys) pushed in
          let n = length-append (get_or stacks l []) (b ∷ []) in
          omega arith)

      pub Once-push : Once (set ps b (Lane l)) (set stacks l xs)
      Once-push =
          Once-moved ps stacks l b (Lane l) xs lane known nowhere once
          (let e = ap (times b) pushed in
          let t = times_push_same b (get_or stacks l []) in
          let o = once l b ∙ ap (λ p. one (is_in l p)) out in
          let i = ap one (in_own l) in
          omega arith)
          (λ c ne. ap (times c) pushed ∙ times_push_other c b (get_or stacks l []) ne)

-- What is read of a line is what is written there.
use Rattle.std.proofs.Common.{option_map, ◌≡◌, ℕ, ◌+◌, ◌-◌, ◌*◌, ◌^◌, ◌<◌, ◌≤◌, true, false, cond, ◌&&◌, eqb, ltb, leb}
use Rattle.std.proofs.Common.{◌⊎◌, List, [], ◌∷◌, ◌++◌, Some, None, decimal, Option, sym, refl, ap, ◌∙◌, subst, inl}
use Rattle.std.proofs.Common.{inr, arith, lit<}
use Rattle.std.specs.Option.{option_map_or}
use Rattle.std.specs.Str.Parse.{AllDigits, digits_value_after, digits_value}
use Rattle.std.specs.Int.{IsInRange}
use Rattle.std.specs.Char.{digit_value}
use Rattle.std.proofs.lemmas.Fmt.{decimal_digit, decimal-digits_value}
use Rattle.std.proofs.lemmas.Str.{digit_value_digit}
use Rattle.std.proofs.lemmas.Option.{none-some, same_Some, cond_some, option_and_then_some}
use Rattle.std.proofs.lemmas.Bool.{cases_Bool, eqb-true, eqb-false, leb-true, ltb-true, and_parts, cond-true}
use Rattle.std.proofs.lemmas.Bool.{cond-false}
use Rattle.sequential.specs.Text.{spaced}
use Rattle.script.specs.Fields.{◌>>=◌, ◌<|>◌, rest_after, named, digit_of, figure_on, figure_of, spaced_of, ended}
use Rattle.script.specs.Fields.{three_of}
use Rattle.script.specs.Lines.{is_text}
use Rattle.script.specs.Writing.{behind}
use Rattle.script.proofs.Figures.{own}

-- the first of two steps, and what the second makes of it: `option_and_then_some` in the order that its users have
pub then_some : {A B : Type 0} (o : Option A) (f : A → Option B) (y : B) → (o >>= f) ≡ Some y → (x : A)
    × (o ≡ Some x) × (f x ≡ Some y)
then_some o f y e = option_and_then_some f o y e (λ x p q. (x, p, q))

-- one of two things; `std` has no lemma for `<|>`
pub else_some : {A : Type 0} (o p : Option A) (y : A) → (o <|> p) ≡ Some y → (o ≡ Some y) ⊎ (p ≡ Some y)
else_some None p y e = inr e
else_some (Some x) p y e = inl e

pub after_some : (ws bs r : List ℕ) → rest_after ws bs ≡ Some r → bs ≡ ws ++ r
after_some [] bs r e = same_Some bs r e
after_some (w ∷ ws) [] r e = absurd (none-some r e)
after_some (w ∷ ws) (b ∷ bs) r e =
    elim (cases_Bool (eqb b w)) [
      | inl t ↦ (let i = after_some ws bs r (sym (cond-true _ _ _ t) ∙ e) in let h = eqb-true b w t in cc)
      | inr f ↦ absurd (none-some r (sym (cond-false _ _ _ f) ∙ e))
    ]

pub Named-some : {A : Type 0} (w : List ℕ) (m : A) (bs : List ℕ) (p : A × List ℕ) → named w m bs ≡ Some p → (m ≡ p.0)
    × (bs ≡ w ++ p.1)
Named-some w m bs p e =
    elim (rest_after w bs) as
    (λ o. rest_after w bs ≡ o → option_map (λ rest. (m, rest)) o ≡ Some p → (m ≡ p.0) × (bs ≡ w ++ p.1)) [
      | None ↦ λ _ f. absurd (none-some p f)
      | Some rest ↦ λ a f. (let q = same_Some (m, rest) p f in (
        ap (λ y. y.0) q,
        after_some w bs rest a
            ∙ ap (λ y. w ++ y.1) q,
      ))
    ]
    refl e

pub Ended-some : (bs : List ℕ) → ended bs ≡ true → bs ≡ 10 ∷ []
Ended-some [] e = let z : ⊥ = grind arith in absurd z
Ended-some (b ∷ []) e = ap (λ c. c ∷ []) (eqb-true b 10 e)
Ended-some (b ∷ c ∷ bs) e = let z : ⊥ = grind arith in absurd z

digit_some : (b d : ℕ) → digit_of b ≡ Some d → (IsInRange 48 57 b) × (d + 48 ≡ b)
digit_some b d e =
    let q = cond_some (leb 48 b && leb b 57) (b - 48) d e in
    let both = and_parts (leb 48 b) (leb b 57) q.0 in
    let l = leb-true 48 b both.0 in
    ((l, leb-true b 57 both.1), omega (arith, l, q.1))

value_of : (b d : ℕ) → IsInRange 48 57 b → d + 48 ≡ b → digit_value b ≡ d
value_of b d i e = let v = digit_value_digit b i in let w : digit_value b + 48 ≡ d + 48 = v ∙ sym e in omega (arith, w)

small : (b v : ℕ) → b ≤ 57 → v + 48 ≡ b → v < 10
small b v l e = omega arith

-- the digits of a figure
abbrev Spelt : ℕ → List ℕ → ℕ → List ℕ → Type 0
Spelt m bs n r = (ds : List ℕ) × (bs ≡ ds ++ r) × AllDigits 10 ds × (digits_value_after 10 m ds ≡ n) × (n < 2 ^ 64)

figure_on_some : (m : ℕ) (bs : List ℕ) (n : ℕ) (r : List ℕ) → m < 2 ^ 64 → figure_on m bs ≡ Some (n, r) → Spelt m bs n r
figure_on_some m [] n r l e =
    let q = same_Some (m, []) (n, r) e in
    ([], ap (λ y. y.1) q, tt, ap (λ y. y.0) q, subst (λ k. k < 2 ^ 64) (ap (λ y. y.0) q) l)
figure_on_some m (b ∷ bs) n r l e =
    elim (digit_of b) as
    (λ o. digit_of b ≡ o → option_map_or (λ d. cond (ltb (m * 10 + d) (2 ^ 64)) (figure_on (m * 10 + d) bs) None) o
    (Some (m, b ∷ bs)) ≡ Some (n, r) → Spelt m (b ∷ bs) n r) [
      | None ↦ λ _ f. (let q = same_Some (m, b ∷ bs) (n, r) f in
          ([], ap (λ y. y.1) q, tt, ap (λ y. y.0) q, subst (λ k. k < 2 ^ 64) (ap (λ y. y.0) q) l))
      | Some d ↦ λ eo f.
          elim (cases_Bool (ltb (m * 10 + d) (2 ^ 64))) [
            | inl t ↦ (let i = figure_on_some (m * 10 + d) bs n r (ltb-true (m * 10 + d) (2 ^ 64) t)
                (sym (cond-true _ _ _ t) ∙ f) in
                let g = digit_some b d eo in
                let v = value_of b d g.0 g.1 in (
                  b ∷ i.0,
                  ap (λ y. b ∷ y) i.1,
                  (
                    small b (digit_value b) g.0.1 (ap (λ k. k + 48) v
                        ∙ g.1),
                    i.2,
                  ),
                  ap (λ k. digits_value_after 10 (m * 10 + k) i.0) v ∙ i.3,
                  i.4,
                ))
            | inr t ↦ absurd (none-some (n, r) (sym (cond-false _ _ _ t) ∙ f))
          ]
    ]
    refl e

-- a figure that is read is the one written there
pub figure_some : (bs : List ℕ) (n : ℕ) (r : List ℕ) → figure_of bs ≡ Some (n, r) → (bs ≡ decimal n ++ r) × (n < 2 ^ 64)
figure_some [] n r e = absurd (none-some (n, r) e)
figure_some (b ∷ bs) n r e =
    elim (digit_of b) as
    (λ o. digit_of b ≡ o → (o >>= (λ d. cond (eqb d 0) (Some (0, bs)) (figure_on d bs))) ≡ Some (n, r) →
    (b ∷ bs ≡ decimal n ++ r) × (n < 2 ^ 64)) [
      | None ↦ λ _ f. absurd (none-some (n, r) f)
      | Some d ↦ λ eo f.
          let g = digit_some b d eo in
          elim (cases_Bool (eqb d 0)) [
            | inl t ↦ (let q = same_Some (0, bs) (n, r) (sym (cond-true _ _ _ t) ∙ f) in
                let z = eqb-true d 0 t in
                let h : b ≡ 48 = omega arith in
                let k : decimal n ≡ 48 ∷ [] = ap decimal (sym (ap (λ y. y.0) q)) ∙ decimal_digit 0 (omega arith) in (
                  ap (λ c. c ∷ bs) h ∙ ap (λ y. 48 ∷ y.1) q
                      ∙ ap (λ ds. ds ++ r) (sym k),
                  subst (λ k. k < 2 ^ 64) (ap (λ y. y.0) q) (lit< tt),
                ))
            | inr t ↦ (let i = figure_on_some d bs n r (omega arith) (sym (cond-false _ _ _ t) ∙ f) in
                let ds = b ∷ i.0 in
                let v = value_of b d g.0 g.1 in
                let w : digits_value 10 ds ≡ n = ap (λ k. digits_value_after 10 k i.0) (omega (arith, v)) ∙ i.3 in
                let written : decimal n ≡ ds =
                ap decimal (sym w)
                ∙ decimal-digits_value own ds (
                  small b (digit_value b) g.0.1 (ap (λ k. k + 48) v
                      ∙ g.1),
                  i.2,
                ) (omega arith) (λ x. absurd (eqb-false d 0 t (omega arith)))
                (subst (λ k. k < 2 ^ 64) (sym w) i.4) in
                (ap (λ y. b ∷ y) i.1 ∙ ap (λ y. y ++ r) (sym written), i.4))
          ]
    ]
    refl e

pub spaced_some : (bs : List ℕ) (p : ℕ × List ℕ) → spaced_of bs ≡ Some p → (bs ≡ behind p.0 ++ p.1) × (p.0 < 2 ^ 64)
spaced_some [] p e = absurd (none-some p e)
spaced_some (b ∷ bs) p e =
    elim (cases_Bool (eqb b 32)) [
      | inl t ↦ (let f = figure_some bs p.0 p.1 (sym (cond-true _ _ _ t) ∙ e) in (
        ap (λ c. c ∷ bs) (eqb-true b 32 t)
            ∙ ap (λ y. 32 ∷ y) f.0,
        f.1,
      ))
      | inr t ↦ absurd (none-some p (sym (cond-false _ _ _ t) ∙ e))
    ]

pub three_some : (bs : List ℕ) (t : ℕ × ℕ × ℕ) → three_of bs ≡ Some t → (bs ≡ spaced (t.0 ∷ t.1 ∷ t.2 ∷ []))
    × (t.0 < 2 ^ 64) × (t.1 < 2 ^ 64) × (t.2 < 2 ^ 64)
three_some bs t e =
    let one = then_some (spaced_of bs) _ t e in
    let two = then_some (spaced_of one.0.1) _ t one.2 in
    let three = then_some (spaced_of two.0.1) _ t two.2 in
    let end = cond_some (ended three.0.1) (one.0.0, two.0.0, three.0.0) t three.2 in
    let f1 = spaced_some bs one.0 one.1 in
    let f2 = spaced_some one.0.1 two.0 two.1 in
    let f3 = spaced_some two.0.1 three.0 three.1 in (
      f1.0
          ∙ ap (λ r. behind one.0.0 ++ r) f2.0
          ∙ ap (λ r. behind one.0.0 ++ (behind two.0.0 ++ r)) f3.0
          ∙ ap (λ r. behind one.0.0 ++ (behind two.0.0 ++ (behind three.0.0 ++ r))) (Ended-some three.0.1 end.0)
          ∙ ap (λ t. spaced (t.0 ∷ t.1 ∷ t.2 ∷ [])) end.1,
      subst (λ k. k < 2 ^ 64) (ap (λ t. t.0) end.1) f1.1,
      subst (λ k. k < 2 ^ 64) (ap (λ t. t.1) end.1) f2.1,
      subst (λ k. k < 2 ^ 64) (ap (λ t. t.2) end.1) f3.1,
    )

pub text_some : (text line : List ℕ) → is_text text line ≡ true → line ≡ text ++ 10 ∷ []
text_some text line e =
    elim (rest_after text line)
    as (λ o. rest_after text line ≡ o → option_map_or ended o false ≡ true → line ≡ text ++ 10 ∷ []) [
      | None ↦ λ _ f. (let z : ⊥ = grind arith in absurd z)
      | Some r ↦ λ a f. after_some text line r a ∙ ap (λ y. text ++ y) (Ended-some r f)
    ]
    refl e

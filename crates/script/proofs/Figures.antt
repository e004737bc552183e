-- A figure that is written reads back as the same number.
use Rattle.std.proofs.Common.{option_and_then, ◌≡◌, ℕ, ◌+◌, ◌-◌, ◌*◌, ◌^◌, ◌<◌, ◌≤◌, cond, eqb, ltb, List, [], ◌∷◌}
use Rattle.std.proofs.Common.{◌++◌, length, get_or, Some, None, decimal, sym, refl, ap, ◌∙◌, subst, inl, inr, arith}
use Rattle.std.proofs.Common.{length-append}
use Rattle.std.specs.Option.{option_map_or}
use Rattle.std.specs.Str.Parse.{AllDigits, digits_value_after, digits_value}
use Rattle.std.specs.Int.{IsInRange}
use Rattle.std.specs.Char.{digit_value}
use Rattle.std.proofs.lemmas.Fmt.{decimal_is_IsNumeral, decimal_digit, decimal_nonempty, first_decimal}
use Rattle.std.proofs.lemmas.Fmt.{length-decimal-le, digits_decimal}
use Rattle.std.proofs.lemmas.Str.Parse.{IsNumeralModel, digit_from_value, numerals_by_value, tells_digits}
use Rattle.std.proofs.lemmas.Str.{digit_value_digit}
use Rattle.std.proofs.lemmas.Bool.{cases_eq, le-leb, lt-ltb, ne_eqb, and_from, cond-true, cond-false}
use Rattle.sequential.specs.Text.{spaced}
use Rattle.script.specs.Fields.{digit_of, figure_on, figure_of, three_of}

pub own : IsNumeralModel (AllDigits 10) (digits_value 10)
own = numerals_by_value (AllDigits 10) tells_digits

-- a digit is read as its value
digit_is : (c v : ℕ) → IsInRange 48 57 c → v + 48 ≡ c → digit_of c ≡ Some v
digit_is c v i e =
    let w : c - 48 ≡ v = omega arith in
    cond-true _ _ _ (and_from _ _ (le-leb 48 c i.0) (le-leb c 57 i.1)) ∙ ap Some w

value_ge : (m : ℕ) (ds : List ℕ) → m ≤ digits_value_after 10 m ds
value_ge m [] = omega arith
value_ge m (c ∷ cs) = omega (arith, value_ge (m * 10 + digit_value c) cs)

-- digits, and then another byte
figure_on_lem : (m : ℕ) (ds : List ℕ) (b : ℕ) (bs : List ℕ) → AllDigits 10 ds → digits_value_after 10 m ds < 2 ^ 64 →
    digit_of b ≡ None → figure_on m (ds ++ b ∷ bs) ≡ Some (digits_value_after 10 m ds, b ∷ bs)
figure_on_lem m [] b bs d l e =
    ap (λ o. option_map_or (λ d. cond (ltb (m * 10 + d) (2 ^ 64)) (figure_on (m * 10 + d) bs) None) o
    (Some (m, b ∷ bs))) e
figure_on_lem m (c ∷ cs) b bs d l e =
    let v = digit_value c in
    let i : IsInRange 48 57 c = digit_from_value c d.0 in
    let more = cs ++ b ∷ bs in
    let fits : m * 10 + v < 2 ^ 64 = omega (arith, value_ge (m * 10 + v) cs) in
    ap (λ o. option_map_or (λ d. cond (ltb (m * 10 + d) (2 ^ 64)) (figure_on (m * 10 + d) more) None) o
    (Some (m, c ∷ more)))
    (digit_is c v i (digit_value_digit c i))
    ∙ cond-true _ _ _ (lt-ltb (m * 10 + v) (2 ^ 64) fits)
    ∙ figure_on_lem (m * 10 + v) cs b bs d.1 l e

figure_digits : (ds : List ℕ) (n b : ℕ) (bs : List ℕ) → AllDigits 10 ds → 0 < length ds → 48 < get_or ds 0 0 →
    digits_value 10 ds ≡ n → n < 2 ^ 64 → digit_of b ≡ None → figure_of (ds ++ b ∷ bs) ≡ Some (n, b ∷ bs)
figure_digits [] n b bs d some first e l f = let z : ⊥ = omega arith in absurd z
figure_digits (c ∷ cs) n b bs d some first e l f =
    let v = digit_value c in
    let i : IsInRange 48 57 c = digit_from_value c d.0 in
    let is : v + 48 ≡ c = digit_value_digit c i in
    let more = cs ++ b ∷ bs in
    let z : v ≡ 0 * 10 + v = omega arith in
    let e2 : digits_value_after 10 v cs ≡ n = ap (λ m. digits_value_after 10 m cs) z ∙ e in
    ap (option_and_then (λ d. cond (eqb d 0) (Some (0, more)) (figure_on d more))) (digit_is c v i is)
    ∙ cond-false _ _ _ (ne_eqb v 0 (λ x. omega arith))
    ∙ figure_on_lem v cs b bs d.1 (subst (λ m. m < 2 ^ 64) (sym e2) l) f
    ∙ ap (λ m. Some (m, b ∷ bs)) e2

pub figure_decimal : (n b : ℕ) (bs : List ℕ) → n < 2 ^ 64 → digit_of b ≡ None →
    figure_of (decimal n ++ b ∷ bs) ≡ Some (n, b ∷ bs)
figure_decimal n b bs l f =
    elim (cases_eq n 0) [
      | inl z ↦ subst (λ m. figure_of (decimal m ++ b ∷ bs) ≡ Some (m, b ∷ bs)) (sym z)
          (ap (λ ds. figure_of (ds ++ b ∷ bs)) (decimal_digit 0 (omega arith)))
      | inr nz ↦ figure_digits (decimal n) n b bs (digits_decimal own n l) (decimal_nonempty n l)
          (first_decimal n (omega arith) l) (decimal_is_IsNumeral n l).1 l f
    ]

pub three_back : (a b c : ℕ) → a < 2 ^ 64 → b < 2 ^ 64 → c < 2 ^ 64 →
    three_of (spaced (a ∷ b ∷ c ∷ [])) ≡ Some (a, b, c)
three_back a b c la lb lc =
    rw (
      figure_decimal a 32 (decimal b ++ spaced (c ∷ [])) la refl,
      figure_decimal b 32 (decimal c ++ spaced []) lb refl,
      figure_decimal c 10 [] lc refl,
    )

pub length_three : (a b c : ℕ) → a < 2 ^ 64 → b < 2 ^ 64 → c < 2 ^ 64 → length (spaced (a ∷ b ∷ c ∷ [])) ≤ 64
length_three a b c la lb lc =
    simp length-append
    (omega (
      arith,
      length-decimal-le 20 a (omega arith) (omega arith) la,
      length-decimal-le 20 b (omega arith) (omega arith) lb,
      length-decimal-le 20 c (omega arith) (omega arith) lc,
    ))

pub digits_written : (n : ℕ) → n < 2 ^ 64 → AllDigits 10 (decimal n)
digits_written n l = digits_decimal own n l

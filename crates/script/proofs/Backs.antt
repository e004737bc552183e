-- What is written of a proper script reads back as the same.
use Rattle.std.proofs.Common.{◌≡◌, ℕ, ◌+◌, ◌^◌, ◌<◌, ◌≤◌, Bool, true, false, not, ◌&&◌, ◌||◌, eqb, ltb, leb, ◌⊎◌, List}
use Rattle.std.proofs.Common.{[], ◌∷◌, ◌++◌, length, Some, None, codes, decimal, sym, refl, ap, ◌∙◌, inl, inr, arith}
use Rattle.std.proofs.Common.{length-append}
use Rattle.std.specs.List.{flat_map}
use Rattle.std.specs.Option.{option_map_or}
use Rattle.std.specs.Str.Parse.{AllDigits}
use Rattle.std.specs.Int.{IsInRange}
use Rattle.std.proofs.lemmas.List.{append_assoc, append-nil}
use Rattle.std.proofs.lemmas.Str.Parse.{digit_from_value}
use Rattle.std.proofs.lemmas.Bool.{eq-eqb, ne_eqb, eqb-false, and_parts, not-true, ltb-true, leb-true, le-leb}
use Rattle.machine.specs.declared.call.Call.TheVariants as call
use Rattle.sequential.specs.Text.{spaced}
use Rattle.script.specs.declared.heading.Heading.{Heading}
use Rattle.script.specs.declared.item.Item.{Item}
use Rattle.script.specs.declared.item.Item.TheVariants as item
use Rattle.script.specs.declared.heading.ModelKind.{ModelKind}
use Rattle.script.specs.declared.heading.ModelKind.TheVariants.{Switch, Phold}
use Rattle.script.specs.declared.heading.PoolKind.{PoolKind}
use Rattle.script.specs.declared.heading.PoolKind.TheVariants.{Common, Receiver}
use Rattle.script.specs.declared.item.Word.{Word}
use Rattle.script.specs.declared.item.Word.TheVariants.{Place, Post, Absorb, Step, Round, Report, Collect}
use Rattle.script.specs.Fields.{◌>>=◌, provided}
use Rattle.script.specs.Lines.{lines_of, word_of, asked_for, item_of, heading_of, heading_names, call_names}
use Rattle.script.specs.Reading.{Reading, stops_at, is_call, items_from, reading_from_third, script_of}
use Rattle.script.specs.Writing.{model_text, pool_text, behind, heading_text, item_text, item_fits, ordered}
use Rattle.script.specs.Writing.{script_text, ReadsBack}
use Rattle.script.proofs.Figures.{figure_decimal, three_back, length_three, digits_written}

-- the text is one line: its only line feed ends it
abbrev Ends : List ℕ → Type 0
Ends [] = ⊥
Ends (b ∷ bs) = ((b ≡ 10) × (bs ≡ [])) ⊎ ((b ≡ 10 → ⊥) × Ends bs)

-- no line feed
abbrev plain : List ℕ → Bool
plain [] = true
plain (b ∷ bs) = not (eqb b 10) && plain bs

-- a line in front of others
lines-ends : (t : List ℕ) → Ends t → (rest : List ℕ) → lines_of (t ++ rest) ≡ t ∷ lines_of rest
lines-ends [] e rest = absurd e
lines-ends (b ∷ bs) (inl p) rest = rw (eq-eqb b 10 p.0, p.1)
lines-ends (b ∷ bs) (inr p) rest = rw (ne_eqb b 10 p.0, lines-ends bs p.1 rest)

ends-behind : (xs ys : List ℕ) → plain xs ≡ true → Ends ys → Ends (xs ++ ys)
ends-behind [] ys p e = e
ends-behind (x ∷ xs) ys p e =
    let both = and_parts (not (eqb x 10)) (plain xs) p in
    inr (eqb-false x 10 (not-true (eqb x 10) both.0), ends-behind xs ys both.1 e)

ends_digits : (ds ys : List ℕ) → AllDigits 10 ds → Ends ys → Ends (ds ++ ys)
ends_digits [] ys d e = e
ends_digits (c ∷ cs) ys d e =
    let i : IsInRange 48 57 c = digit_from_value c d.0 in inr ((λ x. omega arith), ends_digits cs ys d.1 e)

ends-figure : (n : ℕ) (ys : List ℕ) → n < 2 ^ 64 → Ends ys → Ends (behind n ++ ys)
ends-figure n ys l e = inr ((λ x. omega arith), ends_digits (decimal n) ys (digits_written n l) e)

ends_three : (a b c : ℕ) → a < 2 ^ 64 → b < 2 ^ 64 → c < 2 ^ 64 → Ends (spaced (a ∷ b ∷ c ∷ []))
ends_three a b c la lb lc = ends-figure a _ la (ends-figure b _ lb (ends-figure c (10 ∷ []) lc (inl (refl, refl))))

-- a word and three numbers
row_item : (w : List ℕ) (word : Word) (a b c : ℕ) → length w ≤ 16 →
    word_of (w ++ spaced (a ∷ b ∷ c ∷ [])) ≡ Some (word, spaced (a ∷ b ∷ c ∷ [])) → a < 2 ^ 64 → b < 2 ^ 64 →
    c < 2 ^ 64 → item_of (w ++ spaced (a ∷ b ∷ c ∷ [])) ≡ asked_for word a b c
row_item w word a b c l e la lb lc =
    let row = w ++ spaced (a ∷ b ∷ c ∷ []) in
    let short : length row ≤ 81 = rw length-append (omega (arith, length_three a b c la lb lc)) in
    rw (le-leb (length row) 81 short, e, three_back a b c la lb lc)

-- what a line must do to read back
abbrev Back : Item → Type 0
Back i = (item_of (item_text i) ≡ Some i) × Ends (item_text i)

-- a word with one number, and two that are unused
alone_back : (w : List ℕ) (word : Word) (a : ℕ) (i : Item) → length w ≤ 16 →
    word_of (w ++ spaced (a ∷ 0 ∷ 0 ∷ [])) ≡ Some (word, spaced (a ∷ 0 ∷ 0 ∷ [])) → plain w ≡ true → a < 2 ^ 64 →
    asked_for word a 0 0 ≡ Some i → item_text i ≡ w ++ spaced (a ∷ 0 ∷ 0 ∷ []) → Back i
alone_back w word a i short reads p l asks e =
    let back = row_item w word a 0 0 short reads l (omega arith) (omega arith) in
    rw e (back ∙ asks, ends-behind w _ p (ends_three a 0 0 l (omega arith) (omega arith)))

item_back : (i : Item) → item_fits i ≡ true → Back i
item_back (item.Place p w) f =
    let both = and_parts (ltb p (2 ^ 64)) (ltb w (2 ^ 64)) f in
    let lp = ltb-true p (2 ^ 64) both.0 in
    let lw = ltb-true w (2 ^ 64) both.1 in (
      row_item (codes "place") Place p w 0 (omega arith) refl lp lw (omega arith),
      ends-behind (codes "place") _ refl (ends_three p w 0 lp lw (omega arith)),
    )
item_back (item.Make (call.Post p t x)) f =
    let both = and_parts (ltb p (2 ^ 64)) _ f in
    let two = and_parts (ltb t (2 ^ 64)) (ltb x (2 ^ 64)) both.1 in
    let lp = ltb-true p (2 ^ 64) both.0 in
    let lt = ltb-true t (2 ^ 64) two.0 in
    let lx = ltb-true x (2 ^ 64) two.1 in (
      row_item (codes "post") Post p t x (omega arith) refl lp lt lx,
      ends-behind (codes "post") _ refl (ends_three p t x lp lt lx),
    )
item_back (item.Make (call.Absorb w)) f =
    alone_back (codes "absorb") Absorb w _ (omega arith) refl refl (ltb-true w (2 ^ 64) f) refl refl
item_back (item.Make (call.Step w)) f =
    alone_back (codes "step") Step w _ (omega arith) refl refl (ltb-true w (2 ^ 64) f) refl refl
item_back (item.Make call.Round) f =
    alone_back (codes "round") Round 0 _ (omega arith) refl refl (omega arith) refl refl
item_back (item.Make (call.Report w)) f =
    alone_back (codes "report") Report w _ (omega arith) refl refl (ltb-true w (2 ^ 64) f) refl refl
item_back (item.Make (call.Collect n)) f =
    let small : n ≤ 64 = leb-true n 64 f in
    let asks = ap (λ t. provided (t && true) (item.Make (call.Collect n))) f in
    alone_back (codes "collect") Collect n _ (omega arith) refl refl (omega arith) asks refl

-- all lines behind the heading
items_back : (h : Heading) (is xs : List Item) (begun : Bool) (n : ℕ) → ordered begun is ≡ true →
    items_from h xs begun n (lines_of (flat_map item_text is))
    ≡ record { heading = Some h; items = xs ++ is; bad = None }
items_back h [] xs begun n o = ap (λ ys. record { heading = Some h; items = ys; bad = None }) (sym (append-nil xs))
items_back h (i ∷ is) xs begun n o =
    let both = and_parts (item_fits i) _ o in
    let two = and_parts (is_call i || not begun) (ordered (is_call i) is) both.1 in
    let back = item_back i both.0 in
    let stop = stops_at n (Some h) xs in
    let on : Item → Reading = λ j. items_from h (xs ++ j ∷ []) (is_call j) (n + 1) (lines_of (flat_map item_text is)) in
    ap (items_from h xs begun n) (lines-ends (item_text i) back.1 (flat_map item_text is))
    ∙ ap (λ o. option_map_or on (o >>= (λ j. provided (is_call j || not begun) j)) stop) back.0
    ∙ ap (λ t. option_map_or on (provided t i) stop) two.0
    ∙ items_back h is (xs ++ i ∷ []) (is_call i) (n + 1) two.1
    ∙ ap (λ ys. record { heading = Some h; items = ys; bad = None }) (append_assoc xs (i ∷ []) is)

-- the heading, by its parts
abbrev parts_text : ModelKind → ℕ → ℕ → PoolKind → ℕ → ℕ → ℕ → List ℕ
parts_text m s x p e c w = model_text m ++ (behind s ++ (behind x ++ (pool_text p ++ spaced (e ∷ c ∷ w ∷ []))))

parts_back : (m : ModelKind) (s x : ℕ) (p : PoolKind) (e c w : ℕ) → s < 2 ^ 64 → x < 2 ^ 64 → e < 2 ^ 64 → c < 2 ^ 64 →
    w < 2 ^ 64 → length (parts_text m s x p e c w) ≤ 81 →
    heading_of (parts_text m s x p e c w)
    ≡ Some record { model = m; size = s; setting = x; pool = p; end = e; most = c; workers = w }
parts_back Switch s x Common e c w ls lx le lc lw l =
    rw (
      le-leb _ 81 l,
      figure_decimal s 32 (decimal x ++ (codes " common" ++ spaced (e ∷ c ∷ w ∷ []))) ls refl,
      figure_decimal x 32 (codes "common" ++ spaced (e ∷ c ∷ w ∷ [])) lx refl,
      three_back e c w le lc lw,
    )
parts_back Switch s x Receiver e c w ls lx le lc lw l =
    rw (
      le-leb _ 81 l,
      figure_decimal s 32 (decimal x ++ (codes " receiver" ++ spaced (e ∷ c ∷ w ∷ []))) ls refl,
      figure_decimal x 32 (codes "receiver" ++ spaced (e ∷ c ∷ w ∷ [])) lx refl,
      three_back e c w le lc lw,
    )
parts_back Phold s x Common e c w ls lx le lc lw l =
    rw (
      le-leb _ 81 l,
      figure_decimal s 32 (decimal x ++ (codes " common" ++ spaced (e ∷ c ∷ w ∷ []))) ls refl,
      figure_decimal x 32 (codes "common" ++ spaced (e ∷ c ∷ w ∷ [])) lx refl,
      three_back e c w le lc lw,
    )
parts_back Phold s x Receiver e c w ls lx le lc lw l =
    rw (
      le-leb _ 81 l,
      figure_decimal s 32 (decimal x ++ (codes " receiver" ++ spaced (e ∷ c ∷ w ∷ []))) ls refl,
      figure_decimal x 32 (codes "receiver" ++ spaced (e ∷ c ∷ w ∷ [])) lx refl,
      three_back e c w le lc lw,
    )

plain-model : (m : ModelKind) → plain (model_text m) ≡ true
plain-model Switch = refl
plain-model Phold = refl

plain-pool : (p : PoolKind) → plain (pool_text p) ≡ true
plain-pool Common = refl
plain-pool Receiver = refl

-- the whole script
pub reads_back : (h : Heading) (items : List Item) → ReadsBack h items
reads_back h items f o =
    let f1 = and_parts (ltb h.size (2 ^ 64)) _ f in
    let f2 = and_parts (ltb h.setting (2 ^ 64)) _ f1.1 in
    let f3 = and_parts (ltb h.end (2 ^ 64)) _ f2.1 in
    let f4 = and_parts (ltb h.most (2 ^ 64)) _ f3.1 in
    let f5 = and_parts (ltb h.workers (2 ^ 64)) (leb (length (heading_text h)) 81) f4.1 in
    let ls = ltb-true h.size (2 ^ 64) f1.0 in
    let lx = ltb-true h.setting (2 ^ 64) f2.0 in
    let le = ltb-true h.end (2 ^ 64) f3.0 in
    let lc = ltb-true h.most (2 ^ 64) f4.0 in
    let lw = ltb-true h.workers (2 ^ 64) f5.0 in
    let short = leb-true (length (heading_text h)) 81 f5.1 in
    let a = heading_names ++ 10 ∷ [] in
    let c = call_names ++ 10 ∷ [] in
    let j = flat_map item_text items in
    let ea : Ends a = ends-behind heading_names (10 ∷ []) refl (inl (refl, refl)) in
    let ec : Ends c = ends-behind call_names (10 ∷ []) refl (inl (refl, refl)) in
    let eh : Ends (heading_text h) = ends-behind (model_text h.model) _ (plain-model h.model)
    (ends-figure h.size _ ls
    (ends-figure h.setting _ lx
    (ends-behind (pool_text h.pool) _ (plain-pool h.pool) (ends_three h.end h.most h.workers le lc lw)))) in
    let all : lines_of (script_text h items) ≡ a ∷ heading_text h ∷ c ∷ lines_of j =
    lines-ends a ea (heading_text h ++ (c ++ j))
    ∙ ap (λ l. a ∷ l) (lines-ends (heading_text h) eh (c ++ j) ∙ ap (λ l. heading_text h ∷ l) (lines-ends c ec j)) in
    let parts : heading_of (heading_text h) ≡ Some h =
    parts_back h.model h.size h.setting h.pool h.end h.most h.workers ls lx le lc lw short in
    ap script_of all
    ∙ ap (λ o. option_map_or (λ h. reading_from_third h (c ∷ lines_of j)) o (stops_at 2 None [])) parts
    ∙ items_back h items [] false 4 o

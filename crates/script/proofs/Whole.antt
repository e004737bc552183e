-- A script with no wrong line is what is written of its heading and its items.
use Rattle.std.proofs.Common.{◌≡◌, ℕ, ◌+◌, ◌^◌, ◌<◌, Bool, true, false, cond, not, ◌&&◌, ◌||◌, eqb, ltb, leb, Option}
use Rattle.std.proofs.Common.{List, [], ◌∷◌, ◌++◌, length, Some, None, codes, sym, refl, ap, ◌∙◌, subst, inl, inr}
use Rattle.std.specs.List.{flat_map, onto_first}
use Rattle.std.proofs.lemmas.List.{append_assoc, append-nil}
use Rattle.std.specs.Option.{option_map_or}
use Rattle.std.proofs.lemmas.Option.{none-some, same_Some, cond_some}
use Rattle.std.proofs.lemmas.Bool.{cases_Bool, eqb-true, and_parts, and_from, lt-ltb, cond-true, cond-false}
use Rattle.machine.specs.declared.call.Call.TheVariants as call
use Rattle.sequential.specs.Text.{spaced}
use Rattle.script.specs.declared.heading.Heading.{Heading}
use Rattle.script.specs.declared.item.Item.{Item}
use Rattle.script.specs.declared.item.Item.TheVariants as item
use Rattle.script.specs.declared.heading.ModelKind.TheVariants.{Switch, Phold}
use Rattle.script.specs.declared.heading.PoolKind.TheVariants.{Common, Receiver}
use Rattle.script.specs.declared.item.Word.{Word}
use Rattle.script.specs.declared.item.Word.TheVariants.{Place, Post, Absorb, Step, Round, Report, Collect}
use Rattle.script.specs.Fields.{◌<|>◌, provided, rest_after, named, spaced_of, three_of}
use Rattle.script.specs.Lines.{lines_of, fits_line, is_text, model_of, pool_of, word_of, asked_for, item_of, heading_of}
use Rattle.script.specs.Lines.{heading_names, call_names}
use Rattle.script.specs.Reading.{Reading, stops_at, is_call, next_of, items_from, reading_from_third, values_of}
use Rattle.script.specs.Reading.{script_of}
use Rattle.script.specs.Writing.{model_text, pool_text, pool_word, behind, heading_text, item_text, item_fits, ordered}
use Rattle.script.specs.Writing.{heading_fits, script_text, WrittenSo}
use Rattle.script.proofs.Exact.{then_some, after_some, else_some, Named-some, spaced_some, three_some, text_some}

abbrev word_text : Word → List ℕ
word_text Place = codes "place"
word_text Post = codes "post"
word_text Absorb = codes "absorb"
word_text Step = codes "step"
word_text Round = codes "round"
word_text Report = codes "report"
word_text Collect = codes "collect"

-- what is read off the front is what is written there
record IsReadOff {A : Type 0} (text : A → List ℕ) (bs : List ℕ) (o : Option (A × List ℕ)) : Type 0 where
  written : (p : A × List ℕ) → o ≡ Some p → bs ≡ text p.0 ++ p.1

read_named : {A : Type 0} (text : A → List ℕ) (bs : List ℕ) (m : A) → IsReadOff text bs (named (text m) m bs)
read_named text bs m = record {
  written = λ p e. let q = Named-some (text m) m bs p e in q.1 ∙ ap (λ k. text k ++ p.1) q.0;
}

read_or : {A : Type 0} {text : A → List ℕ} {bs : List ℕ} {o q : Option (A × List ℕ)} → IsReadOff text bs o →
    IsReadOff text bs q → IsReadOff text bs (o <|> q)
read_or {o = o} {q = q} one other = record {
  written = λ p e. elim (else_some o q p e) [ inl x ↦ one.written p x | inr x ↦ other.written p x ];
}

word_read : (bs : List ℕ) → IsReadOff word_text bs (word_of bs)
word_read bs =
    read_or (read_or (read_or (read_or (read_or (read_or (one Place) (one Post)) (one Absorb)) (one Step)) (one Round))
    (one Report)) (one Collect)
  where
    one : (w : Word) → IsReadOff word_text bs (named (word_text w) w bs)
    one w = read_named word_text bs w

model_read : (bs : List ℕ) → IsReadOff model_text bs (model_of bs)
model_read bs = read_or (read_named model_text bs Switch) (read_named model_text bs Phold)

pool_read : (bs : List ℕ) → IsReadOff pool_text bs (pool_of bs)
pool_read bs = record {
  written = λ p e.
      let rest = then_some (rest_after (codes " ") bs) _ p e in
      let word = read_or (read_named pool_word rest.0 Common) (read_named pool_word rest.0 Receiver) in
      after_some (codes " ") bs rest.0 rest.1 ∙ ap (λ y. 32 ∷ y) (word.written p rest.2);
}

-- two unused numbers
zeros : (w : List ℕ) (a b c : ℕ) → (eqb b 0 && eqb c 0) ≡ true →
    w ++ spaced (a ∷ b ∷ c ∷ []) ≡ w ++ spaced (a ∷ 0 ∷ 0 ∷ [])
zeros w a b c e =
    let both = and_parts (eqb b 0) (eqb c 0) e in
    ap (λ z. w ++ spaced (a ∷ z ∷ c ∷ [])) (eqb-true b 0 both.0)
    ∙ ap (λ z. w ++ spaced (a ∷ 0 ∷ z ∷ [])) (eqb-true c 0 both.1)

-- a word with one number
alone-text : (w : List ℕ) (a b c : ℕ) (x i : Item) → w ++ spaced (a ∷ 0 ∷ 0 ∷ []) ≡ item_text x →
    provided (eqb b 0 && eqb c 0) x ≡ Some i → w ++ spaced (a ∷ b ∷ c ∷ []) ≡ item_text i
alone-text w a b c x i t e =
    let q = cond_some (eqb b 0 && eqb c 0) x i e in zeros w a b c q.0 ∙ t ∙ ap item_text q.1

asked-text : (w : Word) (a b c : ℕ) (i : Item) → asked_for w a b c ≡ Some i →
    word_text w ++ spaced (a ∷ b ∷ c ∷ []) ≡ item_text i
asked-text Place a b c i e =
    let q = cond_some (eqb c 0) (item.Place a b) i e in
    ap (λ z. codes "place" ++ spaced (a ∷ b ∷ z ∷ [])) (eqb-true c 0 q.0) ∙ ap item_text q.1
asked-text Post a b c i e = ap item_text (same_Some (item.Make (call.Post a b c)) i e)
asked-text Absorb a b c i e = alone-text (codes "absorb") a b c (item.Make (call.Absorb a)) i refl e
asked-text Step a b c i e = alone-text (codes "step") a b c (item.Make (call.Step a)) i refl e
asked-text Round a b c i e =
    let q = cond_some (eqb a 0 && (eqb b 0 && eqb c 0)) (item.Make call.Round) i e in
    let both = and_parts (eqb a 0) (eqb b 0 && eqb c 0) q.0 in
    zeros (codes "round") a b c both.1
    ∙ ap (λ z. codes "round" ++ spaced (z ∷ 0 ∷ 0 ∷ [])) (eqb-true a 0 both.0)
    ∙ ap item_text q.1
asked-text Report a b c i e = alone-text (codes "report") a b c (item.Make (call.Report a)) i refl e
asked-text Collect a b c i e =
    let q = cond_some (leb a 64 && (eqb b 0 && eqb c 0)) (item.Make (call.Collect a)) i e in
    zeros (codes "collect") a b c (and_parts (leb a 64) (eqb b 0 && eqb c 0) q.0).1 ∙ ap item_text q.1

-- its numbers fit
alone-fits : (b c : ℕ) (x i : Item) → item_fits x ≡ true → provided (eqb b 0 && eqb c 0) x ≡ Some i → item_fits i ≡ true
alone-fits b c x i f e = sym (ap item_fits (cond_some (eqb b 0 && eqb c 0) x i e).1) ∙ f

asked-fits : (w : Word) (a b c : ℕ) (i : Item) → a < 2 ^ 64 → b < 2 ^ 64 → c < 2 ^ 64 → asked_for w a b c ≡ Some i →
    item_fits i ≡ true
asked-fits Place a b c i la lb lc e =
    let q = cond_some (eqb c 0) (item.Place a b) i e in
    sym (ap item_fits q.1) ∙ and_from _ _ (lt-ltb a (2 ^ 64) la) (lt-ltb b (2 ^ 64) lb)
asked-fits Post a b c i la lb lc e =
    sym (ap item_fits (same_Some (item.Make (call.Post a b c)) i e))
    ∙ and_from _ _ (lt-ltb a (2 ^ 64) la) (and_from _ _ (lt-ltb b (2 ^ 64) lb) (lt-ltb c (2 ^ 64) lc))
asked-fits Absorb a b c i la lb lc e = alone-fits b c (item.Make (call.Absorb a)) i (lt-ltb a (2 ^ 64) la) e
asked-fits Step a b c i la lb lc e = alone-fits b c (item.Make (call.Step a)) i (lt-ltb a (2 ^ 64) la) e
asked-fits Round a b c i la lb lc e =
    sym (ap item_fits (cond_some (eqb a 0 && (eqb b 0 && eqb c 0)) (item.Make call.Round) i e).1)
asked-fits Report a b c i la lb lc e = alone-fits b c (item.Make (call.Report a)) i (lt-ltb a (2 ^ 64) la) e
asked-fits Collect a b c i la lb lc e =
    let q = cond_some (leb a 64 && (eqb b 0 && eqb c 0)) (item.Make (call.Collect a)) i e in
    sym (ap item_fits q.1) ∙ (and_parts (leb a 64) (eqb b 0 && eqb c 0) q.0).0

item_some : (l : List ℕ) (i : Item) → item_of l ≡ Some i → (l ≡ item_text i) × (item_fits i ≡ true)
item_some l i e =
    let line = then_some (provided (fits_line l) l) _ i e in
    let w = then_some (word_of line.0) _ i line.2 in
    let n = then_some (three_of w.0.1) _ i w.2 in
    let f = three_some w.0.1 n.0 n.1 in (
      (cond_some (fits_line l) l line.0 line.1).1 ∙ (word_read line.0).written w.0 w.1
          ∙ ap (λ r. word_text w.0.0 ++ r) f.0
          ∙ asked-text w.0.0 n.0.0 n.0.1 n.0.2 i n.2,
      asked-fits w.0.0 n.0.0 n.0.1 n.0.2 i f.1 f.2 f.3 n.2,
    )

heading_some : (l : List ℕ) (h : Heading) → heading_of l ≡ Some h → (l ≡ heading_text h) × (heading_fits h ≡ true)
heading_some l h e =
    let line = then_some (provided (fits_line l) l) _ h e in
    let is_short = cond_some (fits_line l) l line.0 line.1 in
    let m = then_some (model_of line.0) _ h line.2 in
    let s = then_some (spaced_of m.0.1) _ h m.2 in
    let x = then_some (spaced_of s.0.1) _ h s.2 in
    let p = then_some (pool_of x.0.1) _ h x.2 in
    let t = then_some (three_of p.0.1) _ h p.2 in
    let fs = spaced_some m.0.1 s.0 s.1 in
    let fx = spaced_some s.0.1 x.0 x.1 in
    let ft = three_some p.0.1 t.0 t.1 in
    let read : Heading =
    record { model = m.0.0; size = s.0.0; setting = x.0.0; pool = p.0.0; end = t.0.0; most = t.0.1; workers = t.0.2 } in
    let same : read ≡ h = same_Some read h t.2 in
    let written : l ≡ heading_text h =
    is_short.1
    ∙ (model_read line.0).written m.0 m.1
    ∙ ap (λ r. model_text m.0.0 ++ r) (fs.0
    ∙ ap (λ r. behind s.0.0 ++ r) (fx.0
    ∙ ap (λ r. behind x.0.0 ++ r) ((pool_read x.0.1).written p.0 p.1
    ∙ ap (λ r. pool_text p.0.0 ++ r) ft.0)))
    ∙ ap heading_text same in
    let below : ℕ → Type 0 = λ k. ltb k (2 ^ 64) ≡ true in (
      written,
      and_from _ _ (subst below (ap (λ h. h.size) same) (lt-ltb s.0.0 (2 ^ 64) fs.1))
          (and_from _ _ (subst below (ap (λ h. h.setting) same) (lt-ltb x.0.0 (2 ^ 64) fx.1))
          (and_from _ _ (subst below (ap (λ h. h.end) same) (lt-ltb t.0.0 (2 ^ 64) ft.1))
          (and_from _ _ (subst below (ap (λ h. h.most) same) (lt-ltb t.0.1 (2 ^ 64) ft.2))
          (and_from _ _ (subst below (ap (λ h. h.workers) same) (lt-ltb t.0.2 (2 ^ 64) ft.3))
          (subst (λ k. leb (length k) 81 ≡ true) written is_short.0))))),
    )

next_some : (begun : Bool) (l : List ℕ) (i : Item) → next_of begun l ≡ Some i → (l ≡ item_text i)
    × (item_fits i ≡ true) × ((is_call i || not begun) ≡ true)
next_some begun l i e =
    let x = then_some (item_of l) _ i e in
    let q = cond_some (is_call x.0 || not begun) x.0 i x.2 in
    let f = item_some l x.0 x.1 in
    (f.0 ∙ ap item_text q.1, sym (ap item_fits q.1) ∙ f.1, sym (ap (λ j. is_call j || not begun) q.1) ∙ q.0)

-- the lines one behind another are the text
abbrev text : List (List ℕ) → List ℕ
text ls = flat_map (λ l. l) ls

onto_first-text : (b : ℕ) (ls : List (List ℕ)) → text (onto_first b ls) ≡ b ∷ text ls
onto_first-text b [] = refl
onto_first-text b (l ∷ ls) = refl

lines_text : (bs : List ℕ) → text (lines_of bs) ≡ bs
lines_text [] = refl
lines_text (b ∷ bs) =
    elim (cases_Bool (eqb b 10)) [
      | inl t ↦ ap text (cond-true _ _ _ t) ∙ ap (λ y. b ∷ y) (lines_text bs)
      | inr t ↦ ap text (cond-false _ _ _ t) ∙ onto_first-text b (lines_of bs) ∙ ap (λ y. b ∷ y) (lines_text bs)
    ]

-- all lines are right
abbrev Right : Heading → List Item → Bool → Reading → List (List ℕ) → Type 0
Right h xs begun r ls = (is : List Item) × (r ≡ record { heading = Some h; items = xs ++ is; bad = None })
    × (text ls ≡ flat_map item_text is) × (ordered begun is ≡ true)

items_some : (h : Heading) (xs : List Item) (begun : Bool) (n : ℕ) (ls : List (List ℕ)) →
    (items_from h xs begun n ls).bad ≡ None → Right h xs begun (items_from h xs begun n ls) ls
items_some h xs begun n [] e =
    ([], ap (λ ys. record { heading = Some h; items = ys; bad = None }) (sym (append-nil xs)), refl, refl)
items_some h xs begun n (l ∷ ls) e =
    elim (next_of begun l) as (λ o. next_of begun l ≡ o → (by o).bad ≡ None → Right h xs begun (by o) (l ∷ ls)) [
      | None ↦ λ _ f. absurd (none-some n (sym f))
      | Some i ↦ λ a f.
          let g = next_some begun l i a in
          let r = items_some h (xs ++ i ∷ []) (is_call i) (n + 1) ls f in (
            i ∷ r.0,
            r.1 ∙ ap (λ ys. record { heading = Some h; items = ys; bad = None }) (append_assoc xs (i ∷ []) r.0),
            ap (λ y. y ++ text ls) g.0 ∙ ap (λ y. item_text i ++ y) r.2,
            and_from _ _ g.1 (and_from _ _ g.2 r.3),
          )
    ]
    refl e
  where
    by : Option Item → Reading
    by o = option_map_or (λ i. items_from h (xs ++ i ∷ []) (is_call i) (n + 1) ls) o (stops_at n (Some h) xs)

-- from the third line on
abbrev CallsRight : Heading → List (List ℕ) → Reading → Type 0
CallsRight h ls r =
    (r.heading ≡ Some h)
    × (text ls ≡ (call_names ++ 10 ∷ []) ++ flat_map item_text r.items)
    × (ordered false r.items ≡ true)

calls_some : (h : Heading) (ls : List (List ℕ)) → (reading_from_third h ls).bad ≡ None →
    CallsRight h ls (reading_from_third h ls)
calls_some h [] e = absurd (none-some 3 (sym e))
calls_some h (l ∷ ls) e =
    elim (is_text call_names l) as (λ t. is_text call_names l ≡ t → (by t).bad ≡ None → CallsRight h (l ∷ ls) (by t)) [
      | true ↦ λ a f.
          let r = items_some h [] false 4 ls f in (
            ap (λ x. x.heading) r.1,
            ap (λ y. y ++ text ls) (text_some call_names l a)
                ∙ ap (λ y. (call_names ++ 10 ∷ []) ++ y) (r.2 ∙ ap (λ x. flat_map item_text x.items) (sym r.1)),
            ap (λ x. ordered false x.items) r.1 ∙ r.3,
          )
      | false ↦ λ _ f. absurd (none-some 3 (sym f))
    ]
    refl e
  where
    by : Bool → Reading
    by t = cond t (items_from h [] false 4 ls) (stops_at 3 (Some h) [])

-- from the second line on
abbrev ValuesRight : List (List ℕ) → Reading → Type 0
ValuesRight ls r =
    (h : Heading)
    × (r.heading ≡ Some h)
    × (text ls ≡ heading_text h ++ ((call_names ++ 10 ∷ []) ++ flat_map item_text r.items))
    × (heading_fits h ≡ true)
    × (ordered false r.items ≡ true)

values_some : (ls : List (List ℕ)) → (values_of ls).bad ≡ None → ValuesRight ls (values_of ls)
values_some [] e = absurd (none-some 2 (sym e))
values_some (l ∷ ls) e =
    elim (heading_of l) as (λ o. heading_of l ≡ o → (by o).bad ≡ None → ValuesRight (l ∷ ls) (by o)) [
      | None ↦ λ _ f. absurd (none-some 2 (sym f))
      | Some h ↦ λ a f.
          let r = calls_some h ls f in
          let s = heading_some l h a in
          (h, r.0, ap (λ y. y ++ text ls) s.0 ∙ ap (λ y. heading_text h ++ y) r.1, s.1, r.2)
    ]
    refl e
  where
    by : Option Heading → Reading
    by o = option_map_or (λ h. reading_from_third h ls) o (stops_at 2 None [])

-- from the first line on
abbrev ScriptRight : List (List ℕ) → Reading → Type 0
ScriptRight ls r =
    (h : Heading)
    × (r.heading ≡ Some h)
    × (text ls ≡ script_text h r.items)
    × (heading_fits h ≡ true)
    × (ordered false r.items ≡ true)

script_some : (ls : List (List ℕ)) → (script_of ls).bad ≡ None → ScriptRight ls (script_of ls)
script_some [] e = absurd (none-some 1 (sym e))
script_some (l ∷ ls) e =
    elim (is_text heading_names l) as
    (λ t. is_text heading_names l ≡ t → (by t).bad ≡ None → ScriptRight (l ∷ ls) (by t)) [
      | true ↦ λ a f.
          let r = values_some ls f in (
            r.0,
            r.1,
            ap (λ y. y ++ text ls) (text_some heading_names l a) ∙ ap (λ y. (heading_names ++ 10 ∷ []) ++ y) r.2,
            r.3,
            r.4,
          )
      | false ↦ λ _ f. absurd (none-some 1 (sym f))
    ]
    refl e
  where
    by : Bool → Reading
    by t = cond t (values_of ls) (stops_at 1 None [])

-- the whole script
pub written_so : (bytes : List ℕ) → WrittenSo bytes
written_so bytes e =
    let r = script_some (lines_of bytes) e in
    (r.0, r.1, sym (lines_text bytes) ∙ r.2, r.3, r.4)

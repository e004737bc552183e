-- Every call is answered: a call is refused, or each lane that it draws from holds as many buffers as it asks for, so
-- that they can be drawn one after the other. With the uniqueness of answers, a list of calls has exactly one
-- transcript.
use Rattle.std.proofs.Common.{◌≡◌, ℕ, suc, ◌+◌, ◌≤◌, Bool, true, false, eqb, leb, ◌⊎◌, List, [], ◌∷◌, set, Some, None}
use Rattle.std.proofs.Common.{Option, sym, refl, ap, ◌∙◌, inl, inr, arith}
use Rattle.std.proofs.lemmas.Bool.{cases_eq, cond-true, cond-false, eq-eqb, ne_eqb, leb-true, true≢false}
use Rattle.pool.specs.Lanes.{place_at, lies}
use Rattle.pool.specs.declared.place.Place.{Place}
use Rattle.pool.specs.declared.place.Place.TheVariants.{Out, Lane}
use Rattle.sequential.specs.declared.event.Line.{Line}
use Rattle.machine.specs.Calls.{World, Transcript, DrawnAll, Does, Run, asked, enough, refusal, lanes_drawn, does}
use Rattle.machine.specs.Calls.{answers}
use Rattle.machine.specs.Calls.Does.{refuses, acts}
use Rattle.machine.specs.Calls.DrawnAll.{none as no_lanes, one as from_lane}
use Rattle.machine.specs.Calls.Run.{rests, goes}
use Rattle.machine.specs.Machine.{Machine}
use Rattle.machine.specs.declared.call.Answer.{Answer}
use Rattle.machine.specs.declared.call.Answer.TheVariants.{Refused}
use Rattle.machine.specs.declared.call.Call.{Call}
use Rattle.machine.specs.declared.refusal.Refusal.{Refusal}
use Rattle.law.specs.Law.{start, calls_in, EveryCallIsAnswered}
use Rattle.pool.specs.Laws.{lies-set}
use Rattle.law.proofs.Alike.{in_lane_within}
use Rattle.law.proofs.Fixed.{answers_fixed}
use Rattle.law.proofs.Members.{In}
use Rattle.law.proofs.Refusals.{stocked}

-- ---- enough to draw

asked_here : (l : ℕ) (ls : List ℕ) → asked l (l ∷ ls) ≡ suc (asked l ls)
asked_here l ls = cond-true _ _ _ (eq-eqb l l refl)

asked_more : (k l : ℕ) (ls : List ℕ) → asked k ls ≤ asked k (l ∷ ls)
asked_more k l ls = elim (cases_eq l k) [
  | inl e ↦ (let i : asked k (l ∷ ls) ≡ suc (asked k ls) = rw e (asked_here k ls) in omega arith)
  | inr n ↦ (let i = cond-false (eqb l k) (suc (asked k ls)) (asked k ls) (ne_eqb l k n) in omega arith)
]

asked_in : (l : ℕ) (ls : List ℕ) → (asked l ls ≡ 0) ⊎ In l ls
asked_in l [] = inl refl
asked_in l (k ∷ ls) = elim (cases_eq k l) [
  | inl e ↦ inr (inl (sym e))
  | inr n ↦
      elim (asked_in l ls) [
        | inl z ↦
            inl (cond-false (eqb k l) (suc (asked l ls)) (asked l ls) (ne_eqb k l n) ∙ z)
        | inr i ↦ inr (inr i)
      ]
]

enough_in : (places : List Place) (all ls : List ℕ) (l : ℕ) → enough places all ls ≡ true → In l ls →
    asked l all ≤ lies l places
enough_in places all [] l h i = absurd i
enough_in places all (k ∷ ks) l h i = go (leb (asked k all) (lies k places)) refl i (enough_in places all ks l)
  where
    go : (t : Bool) → leb (asked k all) (lies k places) ≡ t → In l (k ∷ ks) →
        (enough places all ks ≡ true → In l ks → asked l all ≤ lies l places) → asked l all ≤ lies l places
    go true t (inl e) f = rw e (leb-true _ _ t)
    go true t (inr j) f = f (rw t at h) j
    go false t j f = absurd (true≢false (sym (rw t at h)))

lies_some : (l n : ℕ) (places : List Place) → suc n ≤ lies l places → (b : ℕ) × (place_at places b ≡ Lane l)
unfolding lies
lies_some l n [] h = absurd (omega arith)
lies_some l n (Out ∷ ps) h = let r = lies_some l n ps h in (suc r.0, r.1)
lies_some l n (Lane m ∷ ps) h = elim (cases_eq m l) [
  | inl e ↦ (0, ap Lane e)
  | inr k ↦ (let r = lies_some l n ps (rw (ne_eqb m l k) at h) in (suc r.0, r.1))
]

-- buffers can be drawn from lanes that hold as many as are asked of them
drawable : (ls : List ℕ) (places : List Place) → ((l : ℕ) → asked l ls ≤ lies l places) →
    (bs : List ℕ) × DrawnAll places ls bs
drawable [] places h = ([], no_lanes)
drawable (l ∷ ls) places h =
    go (lies_some l (asked l ls) places (let i = h l in let j = asked_here l ls in omega arith)) (drawable ls)
  where
    left : (b : ℕ) → place_at places b ≡ Lane l → (k : ℕ) → asked k ls ≤ lies k (set places b Out)
    left b e k = let s = lies-set k places b Out (in_lane_within places b l e) in elim (cases_eq l k) [
      | inl q ↦
          (let i = h k in let j : asked k (l ∷ ls) ≡ suc (asked k ls) = rw q (asked_here k ls) in
          let t : lies k (set places b Out) + 1 ≡ lies k places + 0 = rw (e, eq-eqb l k q) at s in omega arith)
      | inr n ↦
          (let i = h k in let j = asked_more k l ls in
          let t : lies k (set places b Out) + 0 ≡ lies k places + 0 = rw (e, ne_eqb l k n) at s in omega arith)
    ]

    go : (b : ℕ) × (place_at places b ≡ Lane l) →
        ((places : List Place) → ((k : ℕ) → asked k ls ≤ lies k places) → (bs : List ℕ) × DrawnAll places ls bs) →
        (bs : List ℕ) × DrawnAll places (l ∷ ls) bs
    go (b, e) f = let r = f (set places b Out) (left b e) in (b ∷ r.0, from_lane e r.1)

-- ---- calls

pub answered : (W : World) (s : Machine) (c : Call) → (a : Answer (List Line)) × (s' : Machine) × Does W s c a s'
answered W s c = go (refusal W s c) refl
  where
    go : (o : Option Refusal) → refusal W s c ≡ o → (a : Answer (List Line)) × (s' : Machine) × Does W s c a s'
    go (Some r) h = (Refused r, s, refuses r h)
    go None h =
        let d = drawable (lanes_drawn W s c) s.places
        (λ l. elim (asked_in l (lanes_drawn W s c)) [
          | inl z ↦ omega arith
          | inr i ↦ enough_in s.places (lanes_drawn W s c) (lanes_drawn W s c) l (stocked W s c h) i
        ]) in
        (answers W s c, does W s c d.0, acts d.0 h d.1)

-- the calls made one after the other
made : (W : World) (cs : List Call) (s : Machine) → (r : Transcript) × (s' : Machine) × Run W s r s' × (calls_in r ≡ cs)
made W [] s = ([], s, rests, refl)
made W (c ∷ cs) s =
    let d = answered W s c in
    let r = made W cs d.1 in
    ((c, d.0) ∷ r.0, r.1, goes d.2 r.2, ap (λ (ks : List Call). c ∷ ks) r.3)

pub every_call_is_answered : EveryCallIsAnswered
every_call_is_answered = (
  answered,
  λ W P cs. let r = made W cs (start W) in record {
    transcript = r.0;
    machine = r.1;
    run = r.2;
    calls = r.3;
    only = λ r' s' R e. (answers_fixed W P r' r.0 s' r.1 R r.2 (e ∙ sym r.3)).0;
  },
)

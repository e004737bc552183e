-- The latest done event of a process is undone: what that does to what was done, what was sent, and GVT. It stands
-- first in its process's past, so the process is again what it was before it.
use Rattle.std.proofs.Common.{◌≡◌, ℕ, ◌+◌, ◌≤◌, Bool, true, false, cond, eqb, ◌⊎◌, List, [], ◌∷◌, Option, sym, refl, ap}
use Rattle.std.proofs.Common.{◌∙◌, inl, inr, arith}
use Rattle.std.proofs.lemmas.Bool.{cases_eq, both_ways, cond-true, cond-false, eq-eqb, ne_eqb}
use Rattle.model.specs.Meaning.{many}
use Rattle.sequential.specs.Events.{outside, earlier}
use Rattle.sequential.specs.declared.event.Event.{Event}
use Rattle.sequential.specs.declared.event.Outcome.{Outcome}
use Rattle.sequential.specs.declared.event.Process.{Process}
use Rattle.law.proofs.Invariant.{Chained, Chain, Latest, Sending, Origin, Timed, Covered, Active}
use Rattle.law.proofs.Invariant.Active.{moves, waits, ends}
use Rattle.law.proofs.Invariant.Origin.{outer, settled, sent_by, owing}
use Rattle.law.proofs.Members.{In}
use Rattle.law.proofs.Same.{Chain-same}

-- a function with one value replaced
abbrev pub put : {A : Type 0} → (ℕ → A) → ℕ → A → ℕ → A
put f q x p = cond (eqb p q) x (f p)

pub put_same : {A : Type 0} (f : ℕ → A) (q : ℕ) (x : A) (p : ℕ) → p ≡ q → put f q x p ≡ x
put_same f q x p e = cond-true (eqb p q) x (f p) (eq-eqb p q e)

pub put_other : {A : Type 0} (f : ℕ → A) (q : ℕ) (x : A) (p : ℕ) → (p ≡ q → ⊥) → put f q x p ≡ f p
put_other f q x p n = cond-false (eqb p q) x (f p) (ne_eqb p q n)

pub record Undoing (did did' waiting waiting' : ℕ → Bool) (event : ℕ → Event) (snapshot snapshot' : ℕ → Process)
    (outcome outcome' : ℕ → Outcome) (sent sent' : ℕ → List ℕ) (now now' : ℕ → Process) (d : ℕ) : Type 0 where
  pub was : did d ≡ true
  pub last : (c : ℕ) → did c ≡ true → (event c).process ≡ (event d).process → earlier (event d) (event c) ≡ false
  pub undone : did' d ≡ false
  pub waits : waiting' d ≡ true
  pub restored : now' (event d).process ≡ snapshot d
  pub elsewhere : (p : ℕ) → (p ≡ (event d).process → ⊥) → now' p ≡ now p
  pub did_others : (c : ℕ) → (c ≡ d → ⊥) → did' c ≡ did c
  pub waiting_others : (c : ℕ) → (c ≡ d → ⊥) → waiting' c ≡ waiting c
  pub snapshot_others : (c : ℕ) → (c ≡ d → ⊥) → snapshot' c ≡ snapshot c
  pub outcome_others : (c : ℕ) → (c ≡ d → ⊥) → outcome' c ≡ outcome c
  pub sent_others : (c : ℕ) → (c ≡ d → ⊥) → sent' c ≡ sent c

-- the latest stands first
top : (event : ℕ → Event) (d : ℕ) (xs : List ℕ) → Latest event xs → In d xs →
    ((c : ℕ) → In c xs → earlier (event d) (event c) ≡ false) → (rest : List ℕ) × (xs ≡ d ∷ rest)
top event d [] l i n = absurd i
top event d (x ∷ xs) l (inl e) n = (xs, rw e)
top event d (x ∷ xs) l (inr i) n = absurd (both_ways _ (n x (inl refl)) (l.0 d i))

module _ {did did' waiting waiting' : ℕ → Bool} {event : ℕ → Event} {snapshot snapshot' : ℕ → Process}
    {outcome outcome' : ℕ → Outcome} {sent sent' : ℕ → List ℕ} {now now' : ℕ → Process} {d : ℕ}
    (x : Undoing did did' waiting waiting' event snapshot snapshot' outcome outcome' sent sent' now now' d) where
  -- what is done still was, and is another
  still_did : (c : ℕ) → did' c ≡ true → (c ≡ d → ⊥) × (did c ≡ true)
  still_did c h = (differs, sym (x.did_others c differs) ∙ h)
    where
      differs : c ≡ d → ⊥
      differs e = both_ways _ x.undone (rw e at h)

  pub Chained-undo : {apply : Event → Process → Outcome} {cap : ℕ} {base : ℕ → Process} →
      Chained apply cap waiting did event snapshot outcome now base →
      Chained apply cap waiting' did' event snapshot' outcome' now' base
  Chained-undo {apply} {cap} {base} C =
      go (top event d (C.past q) (C.latest q) (C.lists d x.was) (λ c i. x.last c (C.only q c i).0 (C.only q c i).1))
    where
      q : ℕ
      q = (event d).process

      go : (rest : List ℕ) × (C.past q ≡ d ∷ rest) → Chained apply cap waiting' did' event snapshot' outcome' now' base
      go (rest, is) = record {
        past = past';
        only = only';
        lists = lists';
        latest = λ p. elim (at_process p) [ inl y ↦ rw y.1 latest_q.1 | inr y ↦ rw y.1 (C.latest p) ];
        chain = chain';
        capped = capped';
        ahead = ahead';
      }
        where
          past' : ℕ → List ℕ
          past' = put C.past q rest

          at_process : (p : ℕ) → ((p ≡ q) × (past' p ≡ rest)) ⊎ ((p ≡ q → ⊥) × (past' p ≡ C.past p))
          at_process p =
              elim (cases_eq p q) [
                | inl e ↦ inl (e, put_same C.past q rest p e)
                | inr n ↦
                    inr (n, put_other C.past q rest p n)
              ]

          latest_q : Latest event (d ∷ rest)
          latest_q = rw is at (C.latest q)

          Chain-q : Chain apply event snapshot outcome (base q) (d ∷ rest) (now q)
          Chain-q = rw is at (C.chain q)

          in_rest : (c : ℕ) → (c ≡ d → ⊥) → did c ≡ true → (event c).process ≡ q → In c rest
          in_rest c n h e =
              let i : In c (d ∷ rest) = rw (e, is) at (C.lists c h) in elim i [ inl k ↦ absurd (n k) | inr j ↦ j ]

          not_rest : (c : ℕ) → In c rest → c ≡ d → ⊥
          not_rest c i e = both_ways _ (x.last d x.was refl) (rw e at (latest_q.0 c i))

          not_else : (p : ℕ) → (p ≡ q → ⊥) → (c : ℕ) → In c (C.past p) → c ≡ d → ⊥
          not_else p n c i e = n (rw (← e) (sym (C.only p c i).1))

          kept : (c : ℕ) → (c ≡ d → ⊥) → (event c ≡ event c) × (snapshot' c ≡ snapshot c) × (outcome' c ≡ outcome c)
          kept c n = (refl, x.snapshot_others c n, x.outcome_others c n)

          only' : (p b : ℕ) → In b (past' p) → (did' b ≡ true) × ((event b).process ≡ p)
          only' p b i = elim (at_process p) [
            | inl y ↦
                (let j : In b rest = rw y.1 at i in
                let l : (did b ≡ true) × ((event b).process ≡ q) = C.only q b (rw is (inr j)) in
                (x.did_others b (not_rest b j) ∙ l.0, rw y.0 l.1))
            | inr y ↦ (let j : In b (C.past p) = rw y.1 at i in
                (x.did_others b (not_else p y.0 b j) ∙ (C.only p b j).0, (C.only p b j).1))
          ]

          lists' : (b : ℕ) → did' b ≡ true → In b (past' (event b).process)
          lists' b h = let k = still_did b h in elim (at_process (event b).process) [
            | inl y ↦ rw y.1 (in_rest b k.0 k.1 y.0)
            | inr y ↦ rw y.1 (C.lists b k.1)
          ]

          chain' : (p : ℕ) → Chain apply event snapshot' outcome' (base p) (past' p) (now' p)
          chain' p = elim (at_process p) [
            | inl y ↦
                rw (y.1, y.0, x.restored) (Chain-same apply event event snapshot snapshot' outcome outcome'
                (base q) rest (snapshot d) (λ c i. kept c (not_rest c i)) Chain-q.2)
            | inr y ↦
                rw (y.1, x.elsewhere p y.0) (Chain-same apply event event snapshot snapshot' outcome outcome' (base p)
                (C.past p) (now p) (λ c i. kept c (not_else p y.0 c i)) (C.chain p))
          ]

          capped' : (p : ℕ) → (now' p).count ≤ cap
          capped' p = elim (cases_eq p q) [
            | inl e ↦
                rw (e, x.restored) (let g : (now q).count ≡ (snapshot d).count + many (outcome d).sends =
                ap (λ (r : Process). r.count) Chain-q.1 in let l = C.capped q in omega arith)
            | inr n ↦ rw (x.elsewhere p n) (C.capped p)
          ]

          ahead' : (c b : ℕ) → did' c ≡ true → waiting' b ≡ true → (event c).process ≡ (event b).process →
              earlier (event c) (event b) ≡ true
          ahead' c b h w e = let k = still_did c h in elim (cases_eq b d) [
            | inl i ↦ rw i (latest_q.0 c (in_rest c k.0 k.1 (rw i at e)))
            | inr n ↦ C.ahead c b k.1 (sym (x.waiting_others b n) ∙ w) e
          ]

  pub Sending-undo : {live gone : ℕ → Bool} {base : ℕ → Process} {posted : ℕ} →
      ((b : ℕ) → In b (sent d) → (event b).sender ≡ outside → ⊥) →
      Sending live gone did event outcome sent base posted [] →
      Sending live gone did' event outcome' sent' base posted (sent d)
  Sending-undo {live} {gone} {base} {posted} inner S = record {
    events = λ c h. let k = still_did c h in rw (x.sent_others c k.0, x.outcome_others c k.0) (S.events c k.1);
    lasting = λ c b h i. S.lasting c b (still_did c h).1 (was_sent c b h i);
    once = λ c h. let k = still_did c h in rw (x.sent_others c k.0) (S.once c k.1);
    parted =
        λ c c' b h h' i i'. S.parted c c' b (still_did c h).1 (still_did c' h').1 (was_sent c b h i)
        (was_sent c' b h' i');
    owed_once = S.once d x.was;
    owed_lasting = λ b i. S.lasting d b x.was i;
    owed_inner = inner;
    owed_parted = λ c b h i j. (still_did c h).0 (S.parted c d b (still_did c h).1 x.was (was_sent c b h j) i);
    origin = λ b l g. origin_undo b (S.origin b l g);
    outer_stays = S.outer_stays;
  }
    where
      was_sent : (c b : ℕ) → did' c ≡ true → In b (sent' c) → In b (sent c)
      was_sent c b h i = rw (x.sent_others c (still_did c h).0) at i

      origin_undo : (b : ℕ) → Origin did event sent base posted [] b → Origin did' event sent' base posted (sent d) b
      origin_undo b (outer e l) = outer e l
      origin_undo b (settled m l) = settled m l
      origin_undo b (owing i) = absurd i
      origin_undo b (sent_by c h e i) = elim (cases_eq c d) [
        | inl k ↦ owing (rw k at i)
        | inr n ↦ sent_by c (x.did_others c n ∙ h) e (rw (x.sent_others c n) i)
      ]

pub Covered-later : {workers floor : ℕ} {floors : ℕ → ℕ} {reports : ℕ → Option ℕ} {rounding : Bool} {gvt w t t' : ℕ} →
    t ≤ t' → Covered workers floor floors reports rounding gvt w t →
    Covered workers floor floors reports rounding gvt w t'
Covered-later l C = record {
  low = let k = C.low in omega arith;
  bound = λ o r x B. let k = C.bound o r x B in omega arith;
}

-- an event becomes pending
pub Timed-wait : {home : ℕ → ℕ} {workers : ℕ} {moving waiting waiting' gone : ℕ → Bool} {event : ℕ → Event} {floor : ℕ}
    {floors : ℕ → ℕ} {reports : ℕ → Option ℕ} {rounding : Bool} {gvt : ℕ} (d : ℕ) →
    ((c : ℕ) → (c ≡ d → ⊥) → waiting' c ≡ waiting c) →
    Covered workers floor floors reports rounding gvt (home (event d).process) (event d).time →
    Timed home workers moving waiting gone event floor floors reports rounding gvt →
    Timed home workers moving waiting' gone event floor floors reports rounding gvt
Timed-wait {home} {workers} {moving} {waiting} {waiting'} {gone} {event} {floor} {floors}
    {reports} {rounding} {gvt} d others C T = record {
      lowest = T.lowest;
      covers = covers';
    }
  where
    covers' : (c : ℕ) → Active moving waiting' gone c →
        Covered workers floor floors reports rounding gvt (home (event c).process) (event c).time
    covers' c (moves m) = T.covers c (moves m)
    covers' c (ends g) = T.covers c (ends g)
    covers' c (waits w) = elim (cases_eq c d) [ inl e ↦ rw e C | inr n ↦ T.covers c (waits (sym (others c n) ∙ w)) ]

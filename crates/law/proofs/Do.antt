-- The least pending event of a worker is done: what that does to what was done and what was sent. It is later than all
-- that its process has done, so it goes on top.
use Rattle.std.proofs.Common.{◌≡◌, ℕ, ◌≤◌, Bool, true, false, ◌⊎◌, List, [], ◌∷◌, map, sym, refl, ap, ◌∙◌, inl, inr}
use Rattle.std.proofs.lemmas.Bool.{cases_eq, both_ways}
use Rattle.model.specs.Meaning.{listed}
use Rattle.sequential.specs.Events.{earlier, process_after}
use Rattle.sequential.specs.declared.event.Event.{Event}
use Rattle.sequential.specs.declared.event.Outcome.{Outcome}
use Rattle.sequential.specs.declared.event.Process.{Process}
use Rattle.law.proofs.Invariant.{Chained, Chain, Sending, Origin}
use Rattle.law.proofs.Invariant.Origin.{outer, settled, sent_by, owing}
use Rattle.law.proofs.Members.{In}
use Rattle.law.proofs.Same.{Chain-same}
use Rattle.law.proofs.Undo.{put, put_same, put_other}

pub record Doing (apply : Event → Process → Outcome) (did did' waiting waiting' : ℕ → Bool) (event : ℕ → Event)
    (snapshot snapshot' : ℕ → Process) (outcome outcome' : ℕ → Outcome) (sent sent' : ℕ → List ℕ)
    (now now' : ℕ → Process) (b : ℕ) : Type 0 where
  pub waited : waiting b ≡ true
  pub idle : did b ≡ false
  pub done : did' b ≡ true
  pub rests : waiting' b ≡ false
  pub snapshot_here : snapshot' b ≡ now (event b).process
  pub outcome_here : outcome' b ≡ apply (event b) (now (event b).process)
  pub now_here : now' (event b).process ≡ process_after (outcome' b) (snapshot' b)
  pub elsewhere : (p : ℕ) → (p ≡ (event b).process → ⊥) → now' p ≡ now p
  pub least : (c : ℕ) → waiting c ≡ true → (c ≡ b → ⊥) → (event b).process ≡ (event c).process →
      earlier (event b) (event c) ≡ true
  pub did_others : (c : ℕ) → (c ≡ b → ⊥) → did' c ≡ did c
  pub waiting_others : (c : ℕ) → (c ≡ b → ⊥) → waiting' c ≡ waiting c
  pub snapshot_others : (c : ℕ) → (c ≡ b → ⊥) → snapshot' c ≡ snapshot c
  pub outcome_others : (c : ℕ) → (c ≡ b → ⊥) → outcome' c ≡ outcome c
  pub sent_others : (c : ℕ) → (c ≡ b → ⊥) → sent' c ≡ sent c

module _ {apply : Event → Process → Outcome} {did did' waiting waiting' : ℕ → Bool} {event : ℕ → Event}
    {snapshot snapshot' : ℕ → Process} {outcome outcome' : ℕ → Outcome} {sent sent' : ℕ → List ℕ}
    {now now' : ℕ → Process} {b : ℕ}
    (x : Doing apply did did' waiting waiting' event snapshot snapshot' outcome outcome' sent sent' now now' b) where
  was_did : (c : ℕ) → did c ≡ true → c ≡ b → ⊥
  was_did c h e = both_ways _ x.idle (rw e at h)

  did_cases : (c : ℕ) → did' c ≡ true → (c ≡ b) ⊎ (did c ≡ true)
  did_cases c h = elim (cases_eq c b) [ inl e ↦ inl e | inr n ↦ inr (sym (x.did_others c n) ∙ h) ]

  pub Chained-do : {cap : ℕ} {base : ℕ → Process} → (now' (event b).process).count ≤ cap →
      Chained apply cap waiting did event snapshot outcome now base →
      Chained apply cap waiting' did' event snapshot' outcome' now' base
  Chained-do {cap} {base} fits C = record {
    past = past';
    only = only';
    lists = lists';
    latest = λ p. elim (at_process p) [
      | inl y ↦ rw y.1 (λ c i. C.ahead c b (C.only q c i).0 x.waited (C.only q c i).1, C.latest q)
      | inr y ↦ rw y.1 (C.latest p)
    ];
    chain = chain';
    capped = λ p. elim (cases_eq p q) [ inl e ↦ rw e fits | inr n ↦ rw (x.elsewhere p n) (C.capped p) ];
    ahead = ahead';
  }
    where
      q : ℕ
      q = (event b).process

      past' : ℕ → List ℕ
      past' = put C.past q (b ∷ C.past q)

      at_process : (p : ℕ) → ((p ≡ q) × (past' p ≡ b ∷ C.past q)) ⊎ ((p ≡ q → ⊥) × (past' p ≡ C.past p))
      at_process p =
          elim (cases_eq p q) [ inl e ↦ inl (e, put_same C.past q _ p e) | inr n ↦ inr (n, put_other C.past q _ p n) ]

      kept : (p c : ℕ) → In c (C.past p) → (event c ≡ event c) × (snapshot' c ≡ snapshot c) × (outcome' c ≡ outcome c)
      kept p c i = let n = was_did c (C.only p c i).0 in (refl, x.snapshot_others c n, x.outcome_others c n)

      only₀ : (p c : ℕ) → In c (C.past p) → (did' c ≡ true) × ((event c).process ≡ p)
      only₀ p c i = (x.did_others c (was_did c (C.only p c i).0) ∙ (C.only p c i).0, (C.only p c i).1)

      only_q : (c : ℕ) → In c (b ∷ C.past q) → (did' c ≡ true) × ((event c).process ≡ q)
      only_q c (inl e) = (rw e x.done, rw e refl)
      only_q c (inr i) = only₀ q c i

      only' : (p c : ℕ) → In c (past' p) → (did' c ≡ true) × ((event c).process ≡ p)
      only' p c i = elim (at_process p) [ inl y ↦ rw y.0 (only_q c (rw y.1 at i)) | inr y ↦ only₀ p c (rw y.1 at i) ]

      lists' : (c : ℕ) → did' c ≡ true → In c (past' (event c).process)
      lists' c h = elim (at_process (event c).process) [
        | inl y ↦ rw y.1 (elim (did_cases c h) [ inl e ↦ inl e | inr k ↦ inr (rw y.0 at (C.lists c k)) ])
        | inr y ↦ rw y.1 (elim (did_cases c h) [ inl e ↦ absurd (y.0 (rw e refl)) | inr k ↦ C.lists c k ])
      ]

      Chain-q : Chain apply event snapshot' outcome' (base q) (b ∷ C.past q) (now' q)
      Chain-q = (
        x.outcome_here ∙ ap (apply (event b)) (sym x.snapshot_here),
        x.now_here,
        rw x.snapshot_here (Chain-same apply event event snapshot snapshot' outcome outcome' (base q) (C.past q)
            (now q) (kept q) (C.chain q)),
      )

      chain' : (p : ℕ) → Chain apply event snapshot' outcome' (base p) (past' p) (now' p)
      chain' p = elim (at_process p) [
        | inl y ↦ rw (y.0, put_same C.past q (b ∷ C.past q) q refl) Chain-q
        | inr y ↦
            rw (y.1, x.elsewhere p y.0) (Chain-same apply event event snapshot snapshot' outcome outcome' (base p)
            (C.past p) (now p) (kept p) (C.chain p))
      ]

      ahead' : (d c : ℕ) → did' d ≡ true → waiting' c ≡ true → (event d).process ≡ (event c).process →
          earlier (event d) (event c) ≡ true
      ahead' d c h w e =
          let n : c ≡ b → ⊥ = λ k. both_ways _ x.rests (rw k at w) in
          let w₀ = sym (x.waiting_others c n) ∙ w in
          elim (did_cases d h) [
            | inl k ↦ rw k (x.least c w₀ n (rw k at e))
            | inr k ↦ C.ahead d c k w₀ e
          ]

  -- what was owed is what the event has sent
  pub Sending-do : {live gone : ℕ → Bool} {base : ℕ → Process} {posted : ℕ} {bs : List ℕ} → sent' b ≡ bs →
      map event bs ≡ listed (outcome' b).sends → ((c : ℕ) → In c bs → (event c).sender ≡ (event b).process) →
      Sending live gone did event outcome sent base posted bs →
      Sending live gone did' event outcome' sent' base posted []
  Sending-do {live} {gone} {base} {posted} {bs} is events' senders S = record {
    events =
        λ d h. elim (did_cases d h) [
          | inl e ↦ rw (e, is) events'
          | inr k ↦
              rw (x.sent_others d (was_did d k), x.outcome_others d (was_did d k)) (S.events d k)
        ];
    lasting = λ d c h i. elim (sent_cases d c h i) [ inl k ↦ S.owed_lasting c k.1 | inr k ↦ S.lasting d c k.0 k.1 ];
    once =
        λ d h. elim (did_cases d h) [
          | inl e ↦ rw (e, is) S.owed_once
          | inr k ↦
              rw (x.sent_others d (was_did d k)) (S.once d k)
        ];
    parted = λ d d' c h h' i i'. elim (sent_cases d c h i) [
      | inl k ↦
          elim (sent_cases d' c h' i') [ inl k' ↦ k.0 ∙ sym k'.0 | inr k' ↦ absurd (S.owed_parted d' c k'.0 k.1 k'.1) ]
      | inr k ↦
          elim (sent_cases d' c h' i') [
            | inl k' ↦ absurd (S.owed_parted d c k.0 k'.1 k.1)
            | inr k' ↦
                S.parted d d' c k.0 k'.0 k.1 k'.1
          ]
    ];
    owed_once = tt;
    owed_lasting = λ c i. absurd i;
    owed_inner = λ c i. absurd i;
    owed_parted = λ d c h i. absurd i;
    origin = λ c l g. origin_do c (S.origin c l g);
    outer_stays = S.outer_stays;
  }
    where
      sent_cases : (d c : ℕ) → did' d ≡ true → In c (sent' d) → ((d ≡ b) × In c bs) ⊎ ((did d ≡ true) × In c (sent d))
      sent_cases d c h i =
          elim (did_cases d h) [
            | inl e ↦ inl (e, rw (e, is) at i)
            | inr k ↦
                inr (k, rw (x.sent_others d (was_did d k)) at i)
          ]

      origin_do : (c : ℕ) → Origin did event sent base posted bs c → Origin did' event sent' base posted [] c
      origin_do c (outer e l) = outer e l
      origin_do c (settled m l) = settled m l
      origin_do c (owing i) = sent_by b x.done (sym (senders c i)) (rw is i)
      origin_do c (sent_by d h e i) =
          sent_by d (x.did_others d (was_did d h) ∙ h) e (rw (x.sent_others d (was_did d h)) i)

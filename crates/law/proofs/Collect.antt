-- The least done event earlier than GVT is collected: it is the first of its process, so its process begins after it,
-- and what it sent is settled.
use Rattle.std.proofs.Common.{◌≡◌, ℕ, ◌<◌, ◌≤◌, Bool, true, false, ◌⊎◌, List, [], ◌∷◌, ◌++◌, sym, refl, ap, ◌∙◌, inl}
use Rattle.std.proofs.Common.{inr, arith}
use Rattle.std.proofs.lemmas.Bool.{cases_eq, both_ways}
use Rattle.sequential.specs.Events.{outside, earlier, process_after}
use Rattle.sequential.specs.declared.event.Event.{Event}
use Rattle.sequential.specs.declared.event.Outcome.{Outcome}
use Rattle.sequential.specs.declared.event.Process.{Process}
use Rattle.law.proofs.Invariant.{Boxed, Keyed, Chained, Chain, Latest, Sending, Origin}
use Rattle.law.proofs.Invariant.Origin.{outer, settled, sent_by, owing}
use Rattle.law.proofs.Members.{In, in_left, in_push, in_push_cases, map_same}
use Rattle.law.proofs.Same.{before, queue_same, latest_same, Chain-same}
use Rattle.law.proofs.Take.{Emptying}
use Rattle.law.proofs.Undo.{put, put_same, put_other}

-- the earliest stands last
bottom : (event : ℕ → Event) (d : ℕ) (xs : List ℕ) → Latest event xs → In d xs →
    ((c : ℕ) → In c xs → earlier (event c) (event d) ≡ false) → (ys : List ℕ) × (xs ≡ ys ++ d ∷ [])
bottom event d [] l i n = absurd i
bottom event d (x ∷ []) l (inl e) n = ([], rw e)
bottom event d (x ∷ []) l (inr i) n = absurd i
bottom event d (x ∷ y ∷ ys) l (inl e) n = absurd (both_ways _ (n y (inr (inl refl))) (rw e (l.0 y (inl refl))))
bottom event d (x ∷ y ∷ ys) l (inr i) n =
    let r = bottom event d (y ∷ ys) l.1 i (λ c j. n c (inr j)) in (x ∷ r.0, ap (λ (zs : List ℕ). x ∷ zs) r.1)

latest_init : (event : ℕ → Event) (ys : List ℕ) (d : ℕ) → Latest event (ys ++ d ∷ []) →
    Latest event ys × ((c : ℕ) → In c ys → earlier (event d) (event c) ≡ true)
latest_init event [] d l = (tt, λ c i. absurd i)
latest_init event (y ∷ ys) d l =
    let r = latest_init event ys d l.1 in
    ((λ c i. l.0 c (in_left c ys _ i), r.0), λ c. elim [ inl e ↦ rw e (l.0 d (in_push d ys)) | inr i ↦ r.1 c i ])

-- a chain without its first event
Chain-init : (apply : Event → Process → Outcome) (event : ℕ → Event) (snapshot : ℕ → Process) (outcome : ℕ → Outcome)
    (q₀ : Process) (ys : List ℕ) (d : ℕ) (q : Process) → Chain apply event snapshot outcome q₀ (ys ++ d ∷ []) q →
    (outcome d ≡ apply (event d) (snapshot d)) × (snapshot d ≡ q₀) ×
    Chain apply event snapshot outcome (process_after (outcome d) (snapshot d)) ys q
Chain-init apply event snapshot outcome q₀ [] d q c = (c.0, c.2, c.1)
Chain-init apply event snapshot outcome q₀ (y ∷ ys) d q c =
    let r = Chain-init apply event snapshot outcome q₀ ys d (snapshot y) c.2 in (r.0, r.1, (c.0, c.1, r.2))

module _ {live live' moving moving' waiting waiting' gone gone' did did' : ℕ → Bool} {event event' : ℕ → Event}
    {snapshot snapshot' : ℕ → Process} {outcome outcome' : ℕ → Outcome} {sent sent' : ℕ → List ℕ} {b : ℕ}
    (x : Emptying live live' moving moving' waiting waiting' gone gone' did did' event event' snapshot snapshot' outcome
    outcome' sent sent' b) where
  -- a buffer in no inbox is emptied
  module _ {home : ℕ → ℕ} {box : ℕ → List ℕ} (still : moving b ≡ false) (stands : gone b ≡ false)
      (B : Boxed home live moving gone event box) where
    Boxed-other : (v c : ℕ) → In c (box v) → c ≡ b → ⊥
    Boxed-other v c i e =
        elim (B.due v c i) [ inl t ↦ both_ways _ still (rw e at t) | inr g ↦ both_ways _ stands (rw e at g) ]

    pub Boxed-drop : Boxed home live' moving' gone' event' box
    Boxed-drop = record {
      moves = λ c h. let k = before moving moving' b x.moving_off x.moving_others c h in
          x.live_others c k.0 ∙ B.moves c k.1;
      ends = λ c h. let k = before gone gone' b x.gone_off x.gone_others c h in x.live_others c k.0 ∙ B.ends c k.1;
      due = λ v c i. let n = Boxed-other v c i in
          elim (B.due v c i) [ inl t ↦ inl (x.moving_others c n ∙ t) | inr g ↦ inr (x.gone_others c n ∙ g) ];
      homed = λ v c i. rw (x.event_others c (Boxed-other v c i)) (B.homed v c i);
      once = B.once;
      reached = λ c. elim [
        | inl h ↦
            (let k = before moving moving' b x.moving_off x.moving_others c h in
            rw (x.event_others c k.0) (B.reached c (inl k.1)))
        | inr h ↦
            (let k = before gone gone' b x.gone_off x.gone_others c h in
            rw (x.event_others c k.0) (B.reached c (inr k.1)))
      ];
    }

    pub Keyed-drop : Keyed live moving gone event box → Keyed live' moving' gone' event' box
    Keyed-drop K = record {
      queues =
          λ v. queue_same gone gone' event event' (box v)
          (λ c i. (x.gone_others c (Boxed-other v c i), x.event_others c (Boxed-other v c i))) (K.queues v);
      arriving = λ c d h l m g k. let i = before moving moving' b x.moving_off x.moving_others c h in
          let j = before live live' b x.dead x.live_others d l in
          K.arriving c d i.1 j.1 (sym (x.moving_others d j.0) ∙ m) (sym (x.gone_others d j.0) ∙ g)
          (rw (x.event_others c i.0, x.event_others d j.0) at k);
      arrived = λ c d l m l' m' k. let i = before live live' b x.dead x.live_others c l in
          let j = before live live' b x.dead x.live_others d l' in
          K.arrived c d i.1 (sym (x.moving_others c i.0) ∙ m) j.1 (sym (x.moving_others d j.0) ∙ m')
          (rw (x.event_others c i.0, x.event_others d j.0) at k);
    }

  -- the first event of its process that is done is no longer kept
  module _ {apply : Event → Process → Outcome} {cap : ℕ} {now base base' : ℕ → Process} (done : did b ≡ true)
      (first : (c : ℕ) → did c ≡ true → (event c).process ≡ (event b).process → earlier (event c) (event b) ≡ false)
      (next : base' (event b).process ≡ process_after (outcome b) (snapshot b))
      (elsewhere : (p : ℕ) → (p ≡ (event b).process → ⊥) → base' p ≡ base p)
      (C : Chained apply cap waiting did event snapshot outcome now base) where
    q : ℕ
    q = (event b).process

    split : (ys : List ℕ) × (C.past q ≡ ys ++ b ∷ [])
    unfolding q
    split = bottom event b (C.past q) (C.latest q) (C.lists b done) (λ c i. first c (C.only q c i).0 (C.only q c i).1)

    Chain-q : (outcome b ≡ apply (event b) (snapshot b)) × (snapshot b ≡ base q) ×
        Chain apply event snapshot outcome (process_after (outcome b) (snapshot b)) split.0 (now q)
    Chain-q = Chain-init apply event snapshot outcome (base q) split.0 b (now q) (rw split.1 at (C.chain q))

    -- the event was applied where its process now begins
    pub began : (outcome b ≡ apply (event b) (snapshot b)) × (snapshot b ≡ base (event b).process)
    unfolding q
    began = (Chain-q.0, Chain-q.1)

    latest_q : Latest event split.0 × ((c : ℕ) → In c split.0 → earlier (event b) (event c) ≡ true)
    latest_q = latest_init event split.0 b (rw split.1 at (C.latest q))

    pub Chained-collect : Chained apply cap waiting' did' event' snapshot' outcome' now base'
    unfolding q
    Chained-collect = record {
      past = past';
      only = λ p c i. let k = back p c i in
          (x.did_others c k.0 ∙ (C.only p c k.1).0, rw (x.event_others c k.0) (C.only p c k.1).1);
      lists = lists';
      latest =
          λ p. latest_same event event' (past' p) (λ c i. x.event_others c (back p c i).0)
          (elim (at_process p) [ inl y ↦ rw y.1 latest_q.0 | inr y ↦ rw y.1 (C.latest p) ]);
      chain = λ p. Chain-same apply event event' snapshot snapshot' outcome outcome' (base' p) (past' p) (now p)
          (λ c i. let n = (back p c i).0 in (x.event_others c n, x.snapshot_others c n, x.outcome_others c n))
          (elim (at_process p) [
            | inl y ↦ rw (y.0, put_same C.past q split.0 q refl, next) Chain-q.2
            | inr y ↦
                rw (y.1, elsewhere p y.0) (C.chain p)
          ]);
      capped = C.capped;
      ahead = λ d c h v e. let k = before did did' b x.did_off x.did_others d h in
          let j = before waiting waiting' b x.waiting_off x.waiting_others c v in
          rw (x.event_others d k.0, x.event_others c j.0)
          (C.ahead d c k.1 j.1 (rw (x.event_others d k.0, x.event_others c j.0) at e));
    }
      where
        past' : ℕ → List ℕ
        past' = put C.past q split.0

        at_process : (p : ℕ) → ((p ≡ q) × (past' p ≡ split.0)) ⊎ ((p ≡ q → ⊥) × (past' p ≡ C.past p))
        at_process p =
            elim (cases_eq p q) [
              | inl e ↦ inl (e, put_same C.past q split.0 p e)
              | inr n ↦
                  inr (n, put_other C.past q split.0 p n)
            ]

        back : (p c : ℕ) → In c (past' p) → (c ≡ b → ⊥) × In c (C.past p)
        back p c i = elim (at_process p) [
          | inl y ↦
              (let j : In c split.0 = rw y.1 at i in (
                λ e. both_ways _ (first b done refl) (rw e at (latest_q.1 c j)),
                rw (y.0, split.1) (in_left c split.0 _ j),
              ))
          | inr y ↦ (let j : In c (C.past p) = rw y.1 at i in (λ e. y.0 (sym (C.only p c j).1 ∙ rw e refl), j))
        ]

        lists' : (c : ℕ) → did' c ≡ true → In c (past' (event' c).process)
        lists' c h =
            let k = before did did' b x.did_off x.did_others c h in
            rw (x.event_others c k.0) (elim (at_process (event c).process) [
              | inl y ↦
                  rw y.1 (elim (in_push_cases c b split.0 (rw (y.0, split.1) at (C.lists c k.1)))
                  [ inl i ↦ i | inr e ↦ absurd (k.0 e) ])
              | inr y ↦ rw y.1 (C.lists c k.1)
            ])

  -- its messages are settled now
  pub Sending-collect : {base base' : ℕ → Process} {posted : ℕ} → did b ≡ true →
      ((d : ℕ) → did d ≡ true → In b (sent d) → ⊥) → ((p : ℕ) → (base p).count ≤ (base' p).count) →
      ((c : ℕ) → In c (sent b) → ((event c).sender ≡ outside → ⊥) ×
      ((event c).number < (base' (event c).sender).count)) →
      Sending live gone did event outcome sent base posted [] →
      Sending live' gone' did' event' outcome' sent' base' posted []
  Sending-collect {base} {base'} {posted} done unsent more settles S = record {
    events = λ d h. let k = did_was d h in
        rw (x.sent_others d k.0, x.outcome_others d k.0)
        (map_same event' event (sent d) (λ c i. x.event_others c (kept d c k.1 i)) ∙ S.events d k.1);
    lasting = λ d c h i. let k = did_was d h in
        let j = was_sent d c h i in
        let n = kept d c k.1 j in
        (x.live_others c n ∙ (S.lasting d c k.1 j).0, x.gone_others c n ∙ (S.lasting d c k.1 j).1);
    once = λ d h. let k = did_was d h in rw (x.sent_others d k.0) (S.once d k.1);
    parted =
        λ d d' c h h' i i'. S.parted d d' c (did_was d h).1 (did_was d' h').1 (was_sent d c h i) (was_sent d' c h' i');
    owed_once = tt;
    owed_lasting = λ c i. absurd i;
    owed_inner = λ c i. absurd i;
    owed_parted = λ d c h i. absurd i;
    origin = λ c l f. let k = before live live' b x.dead x.live_others c l in
        origin_collect c k.0 (S.origin c k.1 (sym (x.gone_others c k.0) ∙ f));
    outer_stays =
        λ c e. elim (cases_eq c b) [
          | inl k ↦ rw k x.gone_off
          | inr n ↦
              x.gone_others c n ∙ S.outer_stays c (rw (x.event_others c n) at e)
        ];
  }
    where
      did_was : (d : ℕ) → did' d ≡ true → (d ≡ b → ⊥) × (did d ≡ true)
      did_was = before did did' b x.did_off x.did_others

      kept : (d c : ℕ) → did d ≡ true → In c (sent d) → c ≡ b → ⊥
      kept d c h i e = unsent d h (rw e at i)

      was_sent : (d c : ℕ) → did' d ≡ true → In c (sent' d) → In c (sent d)
      was_sent d c h i = rw (x.sent_others d (did_was d h).0) at i

      origin_collect : (c : ℕ) → (c ≡ b → ⊥) → Origin did event sent base posted [] c →
          Origin did' event' sent' base' posted [] c
      origin_collect c n (outer e l) = outer (rw (x.event_others c n) e) (rw (x.event_others c n) l)
      origin_collect c n (settled m l) =
          settled (λ e. m (rw (x.event_others c n) at e))
          (rw (x.event_others c n) (let i = more (event c).sender in omega arith))
      origin_collect c n (owing i) = absurd i
      origin_collect c n (sent_by d h e i) = elim (cases_eq d b) [
        | inl k ↦
            (let r = settles c (rw k at i) in
            settled (λ q. r.0 (rw (x.event_others c n) at q)) (rw (x.event_others c n) r.1))
        | inr m ↦
            sent_by d (x.did_others d m ∙ h) (rw (x.event_others d m, x.event_others c n) e) (rw (x.sent_others d m) i)
      ]

-- The message at the head of an inbox is taken: it becomes pending, or its buffer is emptied. Behind a message that is
-- not cancelled none has its key, so what becomes pending is alone with its key.
use Rattle.std.proofs.Common.{◌≡◌, ℕ, Bool, true, false, ◌⊎◌, List, [], ◌∷◌, Option, sym, refl, ◌∙◌, inl, inr}
use Rattle.std.proofs.lemmas.Bool.{cases_Bool, cases_eq, both_ways}
use Rattle.sequential.proofs.Keys.{SameKey, SameKey-sym}
use Rattle.sequential.specs.Events.{earlier}
use Rattle.sequential.specs.declared.event.Event.{Event}
use Rattle.sequential.specs.declared.event.Outcome.{Outcome}
use Rattle.sequential.specs.declared.event.Process.{Process}
use Rattle.law.proofs.Invariant.{Boxed, Keyed, Queue, Chained, Sending, Origin, Timed, Covered, Active}
use Rattle.law.proofs.Invariant.Active.{moves, waits, ends}
use Rattle.law.proofs.Invariant.Origin.{outer, settled, sent_by, owing}
use Rattle.law.proofs.Members.{In, Apart, map_same}
use Rattle.law.proofs.Same.{before, queue_same, latest_same, Chain-same}

pub record Taking (live live' moving moving' gone gone' : ℕ → Bool) (event event' : ℕ → Event) (box box' : ℕ → List ℕ)
    (w b : ℕ) : Type 0 where
  pub still : moving' b ≡ false
  pub stands : gone' b ≡ false
  pub first : box w ≡ b ∷ box' w
  pub elsewhere : (v : ℕ) → (v ≡ w → ⊥) → box v ≡ box' v
  pub live_others : (c : ℕ) → (c ≡ b → ⊥) → live' c ≡ live c
  pub moving_others : (c : ℕ) → (c ≡ b → ⊥) → moving' c ≡ moving c
  pub gone_others : (c : ℕ) → (c ≡ b → ⊥) → gone' c ≡ gone c
  pub event_others : (c : ℕ) → (c ≡ b → ⊥) → event' c ≡ event c

module _ {home : ℕ → ℕ} {live live' moving moving' gone gone' : ℕ → Bool} {event event' : ℕ → Event}
    {box box' : ℕ → List ℕ} {w b : ℕ}
    (x : Taking live live' moving moving' gone gone' event event' box box' w b)
    (B : Boxed home live moving gone event box) where
  first_once : (In b (box' w) → ⊥) × Apart (box' w)
  first_once = rw x.first at (B.once w)

  was_in : (v c : ℕ) → In c (box' v) → In c (box v)
  was_in v c i = elim (cases_eq v w) [ inl e ↦ rw (e, x.first) (inr (rw e at i)) | inr n ↦ rw (x.elsewhere v n) i ]

  differs : (v c : ℕ) → In c (box' v) → c ≡ b → ⊥
  differs v c i e = elim (cases_eq v w) [
    | inl k ↦ first_once.0 (rw (e, k) at i)
    | inr n ↦ n (sym (B.homed v c (was_in v c i)) ∙ rw e (B.homed w b (rw x.first (inl refl))))
  ]

  stays : (v c : ℕ) → (c ≡ b → ⊥) → In c (box v) → In c (box' v)
  stays v c n i = elim (cases_eq v w) [
    | inl e ↦ (let j : In c (b ∷ box' w) = rw (e, x.first) at i in rw e (elim j [ inl k ↦ absurd (n k) | inr k ↦ k ]))
    | inr m ↦ rw (x.elsewhere v m) at i
  ]

  moving_before : (c : ℕ) → moving' c ≡ true → (c ≡ b → ⊥) × (moving c ≡ true)
  moving_before = before moving moving' b x.still x.moving_others

  gone_before : (c : ℕ) → gone' c ≡ true → (c ≡ b → ⊥) × (gone c ≡ true)
  gone_before = before gone gone' b x.stands x.gone_others

  pub Boxed-take : Boxed home live' moving' gone' event' box'
  Boxed-take = record {
    moves = λ c h. let k = moving_before c h in x.live_others c k.0 ∙ B.moves c k.1;
    ends = λ c h. let k = gone_before c h in x.live_others c k.0 ∙ B.ends c k.1;
    due = λ v c i. let n = differs v c i in
        elim (B.due v c (was_in v c i)) [ inl t ↦ inl (x.moving_others c n ∙ t) | inr g ↦ inr (x.gone_others c n ∙ g) ];
    homed = λ v c i. rw (x.event_others c (differs v c i)) (B.homed v c (was_in v c i));
    once = λ v. elim (cases_eq v w) [ inl e ↦ rw e first_once.1 | inr n ↦ rw (x.elsewhere v n) at (B.once v) ];
    reached = reached';
  }
    where
      reached' : (c : ℕ) → (moving' c ≡ true) ⊎ (gone' c ≡ true) → In c (box' (home (event' c).process))
      reached' c (inl h) =
          let k = moving_before c h in rw (x.event_others c k.0) (stays _ c k.0 (B.reached c (inl k.1)))
      reached' c (inr h) = let k = gone_before c h in rw (x.event_others c k.0) (stays _ c k.0 (B.reached c (inr k.1)))

  -- if the message is still there, no other has its key
  pub Keyed-take : (live' b ≡ true → (c : ℕ) → (c ≡ b → ⊥) → live c ≡ true → SameKey (event' b) (event c) → ⊥) →
      Keyed live moving gone event box → Keyed live' moving' gone' event' box'
  Keyed-take alone K = record {
    queues =
        λ v. queue_same gone gone' event event' (box' v)
        (λ c i. (x.gone_others c (differs v c i), x.event_others c (differs v c i))) (queue v);
    arriving = arriving';
    arrived = arrived';
  }
    where
      queue : (v : ℕ) → Queue gone event (box' v)
      queue v =
          elim (cases_eq v w) [
            | inl e ↦ rw e
                (let q : Queue gone event (b ∷ box' w) = rw x.first at (K.queues w) in q.1)
            | inr n ↦
                rw (x.elsewhere v n) at (K.queues v)
          ]

      apart : (c : ℕ) → (c ≡ b → ⊥) → live' c ≡ true → live' b ≡ true → SameKey (event' b) (event' c) → ⊥
      apart c n l l' k = alone l' c n (sym (x.live_others c n) ∙ l) (rw (x.event_others c n) at k)

      arriving' : (c d : ℕ) → moving' c ≡ true → live' d ≡ true → moving' d ≡ false → gone' d ≡ false →
          SameKey (event' c) (event' d) → ⊥
      arriving' c d h l m g k = let y = moving_before c h in elim (cases_eq d b) [
        | inl e ↦ apart c y.0 (x.live_others c y.0 ∙ B.moves c y.1) (rw e at l) (SameKey-sym (rw e at k))
        | inr n ↦
            K.arriving c d y.1 (sym (x.live_others d n) ∙ l) (sym (x.moving_others d n) ∙ m)
            (sym (x.gone_others d n) ∙ g) (rw (x.event_others c y.0, x.event_others d n) at k)
      ]

      arrived' : (c d : ℕ) → live' c ≡ true → moving' c ≡ false → live' d ≡ true → moving' d ≡ false →
          SameKey (event' c) (event' d) → c ≡ d
      arrived' c d l m l' m' k = elim (cases_eq c b) [
        | inl e ↦ elim (cases_eq d b) [ inl e' ↦ e ∙ sym e' | inr n ↦ absurd (apart d n l' (rw e at l) (rw e at k)) ]
        | inr n ↦ elim (cases_eq d b) [
          | inl e ↦ absurd (apart c n l (rw e at l') (SameKey-sym (rw e at k)))
          | inr n' ↦
              K.arrived c d (sym (x.live_others c n) ∙ l) (sym (x.moving_others c n) ∙ m)
              (sym (x.live_others d n') ∙ l') (sym (x.moving_others d n') ∙ m')
              (rw (x.event_others c n, x.event_others d n') at k)
        ]
      ]

-- a message in transit at the head of its inbox, not cancelled, is alone with its key
pub head_alone : {home : ℕ → ℕ} {live moving gone : ℕ → Bool} {event : ℕ → Event} {box : ℕ → List ℕ} (w b : ℕ)
    (bs : List ℕ) → box w ≡ b ∷ bs → moving b ≡ true → gone b ≡ false →
    Boxed home live moving gone event box → Keyed live moving gone event box → (c : ℕ) → (c ≡ b → ⊥) → live c ≡ true →
    SameKey (event b) (event c) → ⊥
head_alone {home} {live} {moving} {gone} {event} {box} w b bs is m g B K c n l k = elim (cases_Bool (moving c)) [
  | inl t ↦ behind (B.reached c (inl t))
  | inr f ↦ elim (cases_Bool (gone c)) [ inl t ↦ behind (B.reached c (inr t)) | inr f' ↦ K.arriving b c m l f f' k ]
]
  where
    here : home (event c).process ≡ w
    here = rw (← k.process) (B.homed w b (rw is (inl refl)))

    queue : Queue gone event (b ∷ bs)
    queue = rw is at (K.queues w)

    behind : In c (box (home (event c).process)) → ⊥
    behind i = let j : In c (b ∷ bs) = rw (here, is) at i in elim j [ inl e ↦ n e | inr e ↦ queue.0 g c e k ]

-- what was done is as it was, and is earlier than what is pending
pub Chained-same : {apply : Event → Process → Outcome} {cap : ℕ} {waiting waiting' did did' : ℕ → Bool}
    {event event' : ℕ → Event} {snapshot snapshot' : ℕ → Process} {outcome outcome' : ℕ → Outcome}
    {now base : ℕ → Process} →
    ((c : ℕ) → did' c ≡ did c) → ((c : ℕ) → did c ≡ true →
    (event' c ≡ event c) × (snapshot' c ≡ snapshot c) × (outcome' c ≡ outcome c)) →
    ((d c : ℕ) → did d ≡ true → waiting' c ≡ true → (event d).process ≡ (event' c).process →
    earlier (event d) (event' c) ≡ true) →
    Chained apply cap waiting did event snapshot outcome now base →
    Chained apply cap waiting' did' event' snapshot' outcome' now base
Chained-same {apply} {cap} {waiting} {waiting'} {did} {did'} {event} {event'} {snapshot} {snapshot'} {outcome}
    {outcome'} {now} {base} same parts ahead C = record {
      past = C.past;
      only = λ p c i. (same c ∙ (C.only p c i).0, rw (listed_parts p c i).0 (C.only p c i).1);
      lists = λ c h. let k = sym (same c) ∙ h in rw (parts c k).0 (C.lists c k);
      latest = λ p. latest_same event event' (C.past p) (λ c i. (listed_parts p c i).0) (C.latest p);
      chain =
          λ p. Chain-same apply event event' snapshot snapshot' outcome outcome' (base p) (C.past p) (now p)
          (listed_parts p) (C.chain p);
      capped = C.capped;
      ahead = λ d c h w e. let k = sym (same d) ∙ h in rw (parts d k).0 (ahead d c k w (rw (parts d k).0 at e));
    }
  where
    listed_parts : (p c : ℕ) → In c (C.past p) →
        (event' c ≡ event c) × (snapshot' c ≡ snapshot c) × (outcome' c ≡ outcome c)
    listed_parts p c i = parts c (C.only p c i).0

pub Sending-same : {live gone did did' : ℕ → Bool} {event : ℕ → Event} {outcome outcome' : ℕ → Outcome}
    {sent sent' : ℕ → List ℕ} {base : ℕ → Process} {posted : ℕ} {owed : List ℕ} →
    ((c : ℕ) → did' c ≡ did c) → ((c : ℕ) → did c ≡ true → (outcome' c ≡ outcome c) × (sent' c ≡ sent c)) →
    Sending live gone did event outcome sent base posted owed →
    Sending live gone did' event outcome' sent' base posted owed
Sending-same {live} {gone} {did} {did'} {event} {outcome} {outcome'} {sent} {sent'} {base} {posted} {owed} same parts
    S = record {
      events = λ d h. rw ((parts d (was d h)).0, (parts d (was d h)).1) (S.events d (was d h));
      lasting = λ d b h i. S.lasting d b (was d h) (was_sent d b h i);
      once = λ d h. rw (parts d (was d h)).1 (S.once d (was d h));
      parted = λ d d' b h h' i i'. S.parted d d' b (was d h) (was d' h') (was_sent d b h i) (was_sent d' b h' i');
      owed_once = S.owed_once;
      owed_lasting = S.owed_lasting;
      owed_inner = S.owed_inner;
      owed_parted = λ d b h i j. S.owed_parted d b (was d h) i (was_sent d b h j);
      origin = λ b l g. origin_same b (S.origin b l g);
      outer_stays = S.outer_stays;
    }
  where
    was : (d : ℕ) → did' d ≡ true → did d ≡ true
    was d h = sym (same d) ∙ h

    was_sent : (d b : ℕ) → did' d ≡ true → In b (sent' d) → In b (sent d)
    was_sent d b h i = rw (parts d (was d h)).1 at i

    origin_same : (b : ℕ) → Origin did event sent base posted owed b → Origin did' event sent' base posted owed b
    origin_same b (outer e l) = outer e l
    origin_same b (settled m l) = settled m l
    origin_same b (owing i) = owing i
    origin_same b (sent_by d h e i) = sent_by d (same d ∙ h) e (rw (parts d h).1 i)

-- a buffer of no done event is emptied
pub record Emptying (live live' moving moving' waiting waiting' gone gone' did did' : ℕ → Bool)
    (event event' : ℕ → Event) (snapshot snapshot' : ℕ → Process) (outcome outcome' : ℕ → Outcome)
    (sent sent' : ℕ → List ℕ) (b : ℕ) : Type 0 where
  pub dead : live' b ≡ false
  pub moving_off : moving' b ≡ false
  pub waiting_off : waiting' b ≡ false
  pub gone_off : gone' b ≡ false
  pub did_off : did' b ≡ false
  pub live_others : (c : ℕ) → (c ≡ b → ⊥) → live' c ≡ live c
  pub moving_others : (c : ℕ) → (c ≡ b → ⊥) → moving' c ≡ moving c
  pub waiting_others : (c : ℕ) → (c ≡ b → ⊥) → waiting' c ≡ waiting c
  pub gone_others : (c : ℕ) → (c ≡ b → ⊥) → gone' c ≡ gone c
  pub did_others : (c : ℕ) → (c ≡ b → ⊥) → did' c ≡ did c
  pub event_others : (c : ℕ) → (c ≡ b → ⊥) → event' c ≡ event c
  pub snapshot_others : (c : ℕ) → (c ≡ b → ⊥) → snapshot' c ≡ snapshot c
  pub outcome_others : (c : ℕ) → (c ≡ b → ⊥) → outcome' c ≡ outcome c
  pub sent_others : (c : ℕ) → (c ≡ b → ⊥) → sent' c ≡ sent c

module _ {live live' moving moving' waiting waiting' gone gone' did did' : ℕ → Bool} {event event' : ℕ → Event}
    {snapshot snapshot' : ℕ → Process} {outcome outcome' : ℕ → Outcome} {sent sent' : ℕ → List ℕ} {b : ℕ}
    (x : Emptying live live' moving moving' waiting waiting' gone gone' did did' event event' snapshot snapshot' outcome
    outcome' sent sent' b) (idle : did b ≡ false) where
  did_before : (c : ℕ) → did' c ≡ true → (c ≡ b → ⊥) × (did c ≡ true)
  did_before = before did did' b x.did_off x.did_others

  not_did : (c : ℕ) → did c ≡ true → c ≡ b → ⊥
  not_did c h e = both_ways _ idle (rw e at h)

  pub Chained-end : {apply : Event → Process → Outcome} {cap : ℕ} {now base : ℕ → Process} →
      Chained apply cap waiting did event snapshot outcome now base →
      Chained apply cap waiting' did' event' snapshot' outcome' now base
  Chained-end C = Chained-same
      (λ c. elim (cases_eq c b) [ inl e ↦ rw e (x.did_off ∙ sym idle) | inr n ↦ x.did_others c n ])
      (λ c h. let n = not_did c h in (x.event_others c n, x.snapshot_others c n, x.outcome_others c n))
      (λ d c h v e. let j = before waiting waiting' b x.waiting_off x.waiting_others c v in
      rw (x.event_others c j.0) (C.ahead d c h j.1 (rw (x.event_others c j.0) at e)))
      C

  pub Sending-end : {base : ℕ → Process} {posted : ℕ} → gone b ≡ true →
      Sending live gone did event outcome sent base posted [] →
      Sending live' gone' did' event' outcome' sent' base posted []
  Sending-end {base} {posted} g S = record {
    events = λ d h. let k = did_before d h in
        rw (x.sent_others d k.0, x.outcome_others d k.0)
        (map_same event' event (sent d) (λ c i. x.event_others c (kept d c k.1 i)) ∙ S.events d k.1);
    lasting = λ d c h i. let k = did_before d h in
        let j = was_sent d c h i in
        let n = kept d c k.1 j in
        (x.live_others c n ∙ (S.lasting d c k.1 j).0, x.gone_others c n ∙ (S.lasting d c k.1 j).1);
    once = λ d h. let k = did_before d h in rw (x.sent_others d k.0) (S.once d k.1);
    parted =
        λ d d' c h h' i i'. S.parted d d' c (did_before d h).1 (did_before d' h').1 (was_sent d c h i)
        (was_sent d' c h' i');
    owed_once = tt;
    owed_lasting = λ c i. absurd i;
    owed_inner = λ c i. absurd i;
    owed_parted = λ d c h i. absurd i;
    origin = λ c l f. let k = before live live' b x.dead x.live_others c l in
        origin_end c k.0 (S.origin c k.1 (sym (x.gone_others c k.0) ∙ f));
    outer_stays =
        λ c e. elim (cases_eq c b) [
          | inl k ↦ rw k x.gone_off
          | inr n ↦
              x.gone_others c n ∙ S.outer_stays c (rw (x.event_others c n) at e)
        ];
  }
    where
      kept : (d c : ℕ) → did d ≡ true → In c (sent d) → c ≡ b → ⊥
      kept d c h i e = both_ways _ (S.lasting d c h i).1 (rw e g)

      was_sent : (d c : ℕ) → did' d ≡ true → In c (sent' d) → In c (sent d)
      was_sent d c h i = rw (x.sent_others d (did_before d h).0) at i

      origin_end : (c : ℕ) → (c ≡ b → ⊥) → Origin did event sent base posted [] c →
          Origin did' event' sent' base posted [] c
      origin_end c n (outer e l) = outer (rw (x.event_others c n) e) (rw (x.event_others c n) l)
      origin_end c n (settled m l) = settled (λ e. m (rw (x.event_others c n) at e)) (rw (x.event_others c n) l)
      origin_end c n (owing i) = absurd i
      origin_end c n (sent_by d h e i) = let m = not_did d h in
          sent_by d (x.did_others d m ∙ h) (rw (x.event_others d m, x.event_others c n) e) (rw (x.sent_others d m) i)

module _ {live live' moving moving' waiting waiting' gone gone' did did' : ℕ → Bool} {event event' : ℕ → Event}
    {snapshot snapshot' : ℕ → Process} {outcome outcome' : ℕ → Outcome} {sent sent' : ℕ → List ℕ} {b : ℕ}
    (x : Emptying live live' moving moving' waiting waiting' gone gone' did did' event event' snapshot snapshot' outcome
    outcome' sent sent' b) where
  pub Timed-end : {home : ℕ → ℕ} {workers floor : ℕ} {floors : ℕ → ℕ} {reports : ℕ → Option ℕ} {rounding : Bool}
      {gvt : ℕ} →
      Timed home workers moving waiting gone event floor floors reports rounding gvt →
      Timed home workers moving' waiting' gone' event' floor floors reports rounding gvt
  Timed-end {home} {workers} {floor} {floors} {reports} {rounding} {gvt} T = record {
    lowest = T.lowest;
    covers = covers';
  }
    where
      covers' : (c : ℕ) → Active moving' waiting' gone' c →
          Covered workers floor floors reports rounding gvt (home (event' c).process) (event' c).time
      covers' c (moves h) =
          let k = before moving moving' b x.moving_off x.moving_others c h in
          rw (x.event_others c k.0) (T.covers c (moves k.1))
      covers' c (waits h) =
          let k = before waiting waiting' b x.waiting_off x.waiting_others c h in
          rw (x.event_others c k.0) (T.covers c (waits k.1))
      covers' c (ends h) =
          let k = before gone gone' b x.gone_off x.gone_others c h in rw (x.event_others c k.0) (T.covers c (ends k.1))

-- A message is sent: it is drawn into an empty buffer and enters its receiver's inbox. No message that is not cancelled
-- has its key, and the cancelled ones stand before it.
use Rattle.std.proofs.Common.{◌≡◌, ℕ, ◌≤◌, Bool, true, false, ◌⊎◌, List, [], ◌∷◌, ◌++◌, sym, refl, ◌∙◌, inl, inr, arith}
use Rattle.std.proofs.lemmas.Bool.{cases_eq, both_ways}
use Rattle.sequential.proofs.Keys.{SameKey, SameKey-sym}
use Rattle.sequential.specs.Events.{outside}
use Rattle.sequential.specs.declared.event.Event.{Event}
use Rattle.sequential.specs.declared.event.Outcome.{Outcome}
use Rattle.sequential.specs.declared.event.Process.{Process}
use Rattle.law.proofs.Invariant.{Boxed, Keyed, Queue, Sending, Origin, Active}
use Rattle.law.proofs.Invariant.Active.{moves, waits, ends}
use Rattle.law.proofs.Invariant.Origin.{outer, settled, sent_by, owing}
use Rattle.law.proofs.Members.{In, Apart, in_left, in_push, in_push_cases, Apart-push, map_same}
use Rattle.law.proofs.Same.{before, queue_same}

pub record Entering (home : ℕ → ℕ) (live live' moving moving' waiting waiting' gone gone' did did' : ℕ → Bool)
    (event event' : ℕ → Event) (outcome outcome' : ℕ → Outcome) (sent sent' : ℕ → List ℕ) (box box' : ℕ → List ℕ)
    (b : ℕ) : Type 0 where
  pub dead : live b ≡ false
  pub lives : live' b ≡ true
  pub moves_on : moving' b ≡ true
  pub waiting_off : waiting' b ≡ false
  pub gone_off : gone' b ≡ false
  pub did_off : did' b ≡ false
  pub live_others : (c : ℕ) → (c ≡ b → ⊥) → live' c ≡ live c
  pub moving_others : (c : ℕ) → (c ≡ b → ⊥) → moving' c ≡ moving c
  pub waiting_others : (c : ℕ) → (c ≡ b → ⊥) → waiting' c ≡ waiting c
  pub gone_others : (c : ℕ) → (c ≡ b → ⊥) → gone' c ≡ gone c
  pub did_others : (c : ℕ) → (c ≡ b → ⊥) → did' c ≡ did c
  pub event_others : (c : ℕ) → (c ≡ b → ⊥) → event' c ≡ event c
  pub outcome_others : (c : ℕ) → (c ≡ b → ⊥) → outcome' c ≡ outcome c
  pub sent_others : (c : ℕ) → (c ≡ b → ⊥) → sent' c ≡ sent c
  pub enters : box' (home (event' b).process) ≡ box (home (event' b).process) ++ b ∷ []
  pub elsewhere : (v : ℕ) → (v ≡ home (event' b).process → ⊥) → box' v ≡ box v

module _ {home : ℕ → ℕ} {live live' moving moving' waiting waiting' gone gone' did did' : ℕ → Bool}
    {event event' : ℕ → Event} {outcome outcome' : ℕ → Outcome} {sent sent' : ℕ → List ℕ} {box box' : ℕ → List ℕ}
    {b : ℕ}
    (x : Entering home live live' moving moving' waiting waiting' gone gone' did did' event event' outcome outcome' sent
    sent' box box' b) where
  -- what was there is another buffer
  other : (c : ℕ) → live c ≡ true → c ≡ b → ⊥
  other c l e = both_ways _ x.dead (rw e at l)

  did_before : (c : ℕ) → did' c ≡ true → (c ≡ b → ⊥) × (did c ≡ true)
  did_before = before did did' b x.did_off x.did_others

  pub Active-enter : (c : ℕ) → (c ≡ b → ⊥) → Active moving' waiting' gone' c → Active moving waiting gone c
  Active-enter c n (moves h) = moves (sym (x.moving_others c n) ∙ h)
  Active-enter c n (waits h) = waits (sym (x.waiting_others c n) ∙ h)
  Active-enter c n (ends h) = ends (sym (x.gone_others c n) ∙ h)

  module _ (B : Boxed home live moving gone event box) where
    in_live : (v c : ℕ) → In c (box v) → live c ≡ true
    in_live v c i = elim (B.due v c i) [ inl t ↦ B.moves c t | inr g ↦ B.ends c g ]

    stays_in : (v c : ℕ) → In c (box v) → In c (box' v)
    stays_in v c i =
        elim (cases_eq v (home (event' b).process))
        [ inl e ↦ rw (e, x.enters) (in_left c _ _ (rw e at i)) | inr n ↦ rw (x.elsewhere v n) i ]

    comes_in : (v c : ℕ) → In c (box' v) → In c (box v) ⊎ ((c ≡ b) × (v ≡ home (event' b).process))
    comes_in v c i = elim (cases_eq v (home (event' b).process)) [
      | inr n ↦ inl (rw (x.elsewhere v n) at i)
      | inl e ↦
          elim (in_push_cases c b (box (home (event' b).process)) (rw (e, x.enters) at i))
          [ inl j ↦ inl (rw e j) | inr k ↦ inr (k, e) ]
    ]

    pub Boxed-enter : Boxed home live' moving' gone' event' box'
    Boxed-enter = record {
      moves =
          λ c h. elim (cases_eq c b) [
            | inl e ↦ rw e x.lives
            | inr n ↦
                x.live_others c n ∙ B.moves c (sym (x.moving_others c n) ∙ h)
          ];
      ends =
          λ c h. elim (cases_eq c b) [
            | inl e ↦ rw e x.lives
            | inr n ↦
                x.live_others c n ∙ B.ends c (sym (x.gone_others c n) ∙ h)
          ];
      due = λ v c i. elim (comes_in v c i) [
        | inr k ↦ inl (rw k.0 x.moves_on)
        | inl j ↦
            (let n = other c (in_live v c j) in
            elim (B.due v c j) [ inl t ↦ inl (x.moving_others c n ∙ t) | inr g ↦ inr (x.gone_others c n ∙ g) ])
      ];
      homed =
          λ v c i. elim (comes_in v c i)
          [ inr k ↦ rw k.0 (sym k.1) | inl j ↦ rw (x.event_others c (other c (in_live v c j))) (B.homed v c j) ];
      once = λ v. elim (cases_eq v (home (event' b).process)) [
        | inl e ↦ rw (e, x.enters) (Apart-push b _ (B.once _) (λ i. other b (in_live _ b i) refl))
        | inr n ↦ rw (x.elsewhere v n) (B.once v)
      ];
      reached = reached';
    }
      where
        was_due : (c : ℕ) → (c ≡ b → ⊥) → (moving' c ≡ true) ⊎ (gone' c ≡ true) → (moving c ≡ true) ⊎ (gone c ≡ true)
        was_due c n (inl t) = inl (sym (x.moving_others c n) ∙ t)
        was_due c n (inr g) = inr (sym (x.gone_others c n) ∙ g)

        reached' : (c : ℕ) → (moving' c ≡ true) ⊎ (gone' c ≡ true) → In c (box' (home (event' c).process))
        reached' c d = elim (cases_eq c b) [
          | inl e ↦ rw (e, x.enters) (in_push b _)
          | inr n ↦ rw (x.event_others c n) (stays_in _ c (B.reached c (was_due c n d)))
        ]

    queue-enter : (xs : List ℕ) → ((c : ℕ) → In c xs → live c ≡ true) →
        ((c : ℕ) → live c ≡ true → gone c ≡ false → SameKey (event c) (event' b) → ⊥) → Queue gone event xs →
        Queue gone' event' (xs ++ b ∷ [])
    queue-enter [] l f q = (λ g c i. absurd i, tt)
    queue-enter (c ∷ cs) l f q = (behind, queue-enter cs (λ d i. l d (inr i)) f q.1)
      where
        n : c ≡ b → ⊥
        n = other c (l c (inl refl))

        behind : gone' c ≡ false → (d : ℕ) → In d (cs ++ b ∷ []) → SameKey (event' c) (event' d) → ⊥
        behind g d i k = elim (in_push_cases d b cs i) [
          | inl j ↦
              q.0 (sym (x.gone_others c n) ∙ g) d j
              (rw (x.event_others c n, x.event_others d (other d (l d (inr j)))) at k)
          | inr e ↦ f c (l c (inl refl)) (sym (x.gone_others c n) ∙ g) (rw (x.event_others c n, e) at k)
        ]

    -- no message that is not cancelled has the key
    pub Keyed-enter : ((c : ℕ) → live c ≡ true → gone c ≡ false → SameKey (event c) (event' b) → ⊥) →
        Keyed live moving gone event box → Keyed live' moving' gone' event' box'
    Keyed-enter fresh K = record { queues = queues'; arriving = arriving'; arrived = arrived' }
      where
        queues' : (v : ℕ) → Queue gone' event' (box' v)
        queues' v = elim (cases_eq v (home (event' b).process)) [
          | inl e ↦ rw (e, x.enters) (queue-enter _ (in_live _) fresh (K.queues _))
          | inr n ↦
              rw (x.elsewhere v n) (queue_same gone gone' event event' (box v)
              (λ c i. let m = other c (in_live v c i) in (x.gone_others c m, x.event_others c m)) (K.queues v))
        ]

        settled_other : (c : ℕ) → moving' c ≡ false → c ≡ b → ⊥
        settled_other c m e = both_ways _ m (rw e x.moves_on)

        arriving' : (c d : ℕ) → moving' c ≡ true → live' d ≡ true → moving' d ≡ false → gone' d ≡ false →
            SameKey (event' c) (event' d) → ⊥
        arriving' c d h l m g k =
            let n = settled_other d m in
            let l₀ = sym (x.live_others d n) ∙ l in
            let g₀ = sym (x.gone_others d n) ∙ g in
            elim (cases_eq c b) [
              | inl e ↦ fresh d l₀ g₀ (SameKey-sym (rw (e, x.event_others d n) at k))
              | inr n' ↦
                  K.arriving c d (sym (x.moving_others c n') ∙ h) l₀ (sym (x.moving_others d n) ∙ m) g₀
                  (rw (x.event_others c n', x.event_others d n) at k)
            ]

        arrived' : (c d : ℕ) → live' c ≡ true → moving' c ≡ false → live' d ≡ true → moving' d ≡ false →
            SameKey (event' c) (event' d) → c ≡ d
        arrived' c d l m l' m' k = let n = settled_other c m in let n' = settled_other d m' in
            K.arrived c d (sym (x.live_others c n) ∙ l) (sym (x.moving_others c n) ∙ m) (sym (x.live_others d n') ∙ l')
            (sym (x.moving_others d n') ∙ m') (rw (x.event_others c n, x.event_others d n') at k)

  -- what the new message means for what is owed and posted
  pub Sending-enter : {base : ℕ → Process} {posted posted' : ℕ} {owed owed' : List ℕ} →
      ((d : ℕ) → did d ≡ true → live d ≡ true) → posted ≤ posted' →
      ((c : ℕ) → In c owed → In c owed') →
      ((c : ℕ) → In c owed' → In c owed ⊎ ((c ≡ b) × ((event' b).sender ≡ outside → ⊥))) →
      (((c : ℕ) → In c owed → c ≡ b → ⊥) → Apart owed → Apart owed') →
      Origin did' event' sent' base posted' owed' b →
      Sending live gone did event outcome sent base posted owed →
      Sending live' gone' did' event' outcome' sent' base posted' owed'
  Sending-enter {base} {posted} {posted'} {owed} {owed'} done_lives more keeps comes apart new S = record {
    events = λ d h. let k = did_before d h in
        rw (x.sent_others d k.0, x.outcome_others d k.0)
        (map_same event' event (sent d) (λ c i. x.event_others c (sent_other d c k.1 i)) ∙ S.events d k.1);
    lasting = λ d c h i. let k = did_before d h in
        let j = was_sent d c h i in
        let n = sent_other d c k.1 j in
        (x.live_others c n ∙ (S.lasting d c k.1 j).0, x.gone_others c n ∙ (S.lasting d c k.1 j).1);
    once = λ d h. let k = did_before d h in rw (x.sent_others d k.0) (S.once d k.1);
    parted =
        λ d d' c h h' i i'. S.parted d d' c (did_before d h).1 (did_before d' h').1 (was_sent d c h i)
        (was_sent d' c h' i');
    owed_once = apart owed_other S.owed_once;
    owed_lasting = λ c i. elim (comes c i) [
      | inr k ↦ (rw k.0 x.lives, rw k.0 x.gone_off)
      | inl j ↦ (
        x.live_others c (owed_other c j) ∙ (S.owed_lasting c j).0,
        x.gone_others c (owed_other c j) ∙
            (S.owed_lasting c j).1,
      )
    ];
    owed_inner =
        λ c i e. elim (comes c i) [
          | inr k ↦ k.1 (rw k.0 at e)
          | inl j ↦
              S.owed_inner c j (rw (x.event_others c (owed_other c j)) at e)
        ];
    owed_parted = λ d c h i j. let k = did_before d h in
        let j₀ = was_sent d c h j in
        elim (comes c i) [ inr q ↦ sent_other d c k.1 j₀ q.0 | inl q ↦ S.owed_parted d c k.1 q j₀ ];
    origin =
        λ c l g. elim (cases_eq c b) [
          | inl e ↦ rw e new
          | inr n ↦
              origin_enter c n (S.origin c (sym (x.live_others c n) ∙ l) (sym (x.gone_others c n) ∙ g))
        ];
    outer_stays =
        λ c e. elim (cases_eq c b) [
          | inl k ↦ rw k x.gone_off
          | inr n ↦
              x.gone_others c n ∙ S.outer_stays c (rw (x.event_others c n) at e)
        ];
  }
    where
      sent_other : (d c : ℕ) → did d ≡ true → In c (sent d) → c ≡ b → ⊥
      sent_other d c h i = other c (S.lasting d c h i).0

      owed_other : (c : ℕ) → In c owed → c ≡ b → ⊥
      owed_other c i = other c (S.owed_lasting c i).0

      was_sent : (d c : ℕ) → did' d ≡ true → In c (sent' d) → In c (sent d)
      was_sent d c h i = rw (x.sent_others d (did_before d h).0) at i

      origin_enter : (c : ℕ) → (c ≡ b → ⊥) → Origin did event sent base posted owed c →
          Origin did' event' sent' base posted' owed' c
      origin_enter c n (outer e l) = outer (rw (x.event_others c n) e) (rw (x.event_others c n) (omega arith))
      origin_enter c n (settled m l) = settled (λ e. m (rw (x.event_others c n) at e)) (rw (x.event_others c n) l)
      origin_enter c n (owing i) = owing (keeps c i)
      origin_enter c n (sent_by d h e i) = let m = other d (done_lives d h) in
          sent_by d (x.did_others d m ∙ h) (rw (x.event_others d m, x.event_others c n) e) (rw (x.sent_others d m) i)

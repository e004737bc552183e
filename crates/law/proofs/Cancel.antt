-- A message is cancelled: what that does to inboxes, keys, what was sent, and GVT. It had no entry in an inbox unless
-- in transit, and nothing in transit had its key; so its notice may stand last.
use Rattle.std.proofs.Common.{◌≡◌, ℕ, ◌<◌, ◌≤◌, Bool, true, false, ◌⊎◌, List, [], ◌∷◌, ◌++◌, Option, sym, refl, ◌∙◌}
use Rattle.std.proofs.Common.{inl, inr, arith}
use Rattle.std.proofs.lemmas.Bool.{cases_Bool, cases_eq, both_ways}
use Rattle.sequential.proofs.Keys.{SameKey}
use Rattle.sequential.specs.declared.event.Event.{Event}
use Rattle.sequential.specs.declared.event.Outcome.{Outcome}
use Rattle.sequential.specs.declared.event.Process.{Process}
use Rattle.law.proofs.Invariant.{cases_told, Boxed, Keyed, Queue, Sending, Origin, Timed, Covered, Bound, Active}
use Rattle.law.proofs.Invariant.Active.{moves, waits, ends}
use Rattle.law.proofs.Invariant.Origin.{outer, settled, sent_by, owing}
use Rattle.law.proofs.Members.{In, in_left, in_push, in_push_cases, Apart-push}

-- the message b, until now not cancelled, is cancelled, and unless in transit enters its receiver's inbox
pub record Cancelling (home : ℕ → ℕ) (live moving gone gone' : ℕ → Bool) (event : ℕ → Event) (box box' : ℕ → List ℕ)
    (b : ℕ) : Type 0 where
  pub lived : live b ≡ true
  pub stood : gone b ≡ false
  pub ended : gone' b ≡ true
  pub others : (c : ℕ) → (c ≡ b → ⊥) → gone' c ≡ gone c
  pub elsewhere : (v : ℕ) → (v ≡ home (event b).process → ⊥) → box' v ≡ box v
  pub coming : moving b ≡ true → box' (home (event b).process) ≡ box (home (event b).process)
  pub enters : moving b ≡ false → box' (home (event b).process) ≡ box (home (event b).process) ++ b ∷ []

module _ {home : ℕ → ℕ} {live moving gone gone' : ℕ → Bool} {event : ℕ → Event} {box box' : ℕ → List ℕ} {b : ℕ}
    (x : Cancelling home live moving gone gone' event box box' b) where
  pub stays_gone : (c : ℕ) → gone c ≡ true → gone' c ≡ true
  stays_gone c g = elim (cases_eq c b) [ inl e ↦ rw e x.ended | inr n ↦ x.others c n ∙ g ]

  still : (c : ℕ) → gone' c ≡ false → (c ≡ b → ⊥) × (gone c ≡ false)
  still c g = (differs, sym (x.others c differs) ∙ g)
    where
      differs : c ≡ b → ⊥
      differs e = both_ways _ g (rw e x.ended)

  went : (c : ℕ) → gone' c ≡ true → (c ≡ b) ⊎ (gone c ≡ true)
  went c g = elim (cases_eq c b) [ inl e ↦ inl e | inr n ↦ inr (sym (x.others c n) ∙ g) ]

  -- each inbox is as it was, or b has entered it
  data Box (v : ℕ) : Type 0 where
    same : box' v ≡ box v → Box v
    entered : v ≡ home (event b).process → moving b ≡ false → box' v ≡ box v ++ b ∷ [] → Box v

  box_at : (v : ℕ) → Box v
  box_at v = elim (cases_eq v (home (event b).process)) [
    | inr n ↦ same (x.elsewhere v n)
    | inl e ↦
        elim (cases_Bool (moving b)) [ inl t ↦ same (rw e (x.coming t)) | inr f ↦ entered e f (rw e (x.enters f)) ]
  ]

  stays_in : (v c : ℕ) → In c (box v) → In c (box' v)
  stays_in v c i = elim (box_at v) [ same e ↦ rw e i | entered _ _ e ↦ rw e (in_left c (box v) _ i) ]

  comes_in : (v c : ℕ) → In c (box' v) → In c (box v) ⊎ ((c ≡ b) × (v ≡ home (event b).process))
  comes_in v c i = elim (box_at v) [
    | same e ↦ inl (rw e at i)
    | entered h _ e ↦ elim (in_push_cases c b (box v) (rw e at i)) [ inl j ↦ inl j | inr k ↦ inr (k, h) ]
  ]

  -- b was in no inbox, unless in transit
  was_out : Boxed home live moving gone event box → moving b ≡ false → (v : ℕ) → In b (box v) → ⊥
  was_out B f v i = elim (B.due v b i) [ inl t ↦ both_ways _ f t | inr g ↦ both_ways _ x.stood g ]

  pub Boxed-cancel : Boxed home live moving gone event box → Boxed home live moving gone' event box'
  Boxed-cancel B = record {
    moves = B.moves;
    ends = λ c g. elim (went c g) [ inl e ↦ rw e x.lived | inr g₀ ↦ B.ends c g₀ ];
    due = λ v c i. elim (comes_in v c i) [
      | inl j ↦ elim (B.due v c j) [ inl t ↦ inl t | inr g ↦ inr (stays_gone c g) ]
      | inr k ↦ inr (rw k.0 x.ended)
    ];
    homed = λ v c i. elim (comes_in v c i) [ inl j ↦ B.homed v c j | inr k ↦ rw k.0 (sym k.1) ];
    once =
        λ v. elim (box_at v) [
          | same e ↦ rw e (B.once v)
          | entered _ f e ↦
              rw e (Apart-push b (box v) (B.once v) (was_out B f v))
        ];
    reached = reached';
  }
    where
      b_reached : In b (box' (home (event b).process))
      b_reached =
          elim (cases_Bool (moving b)) [
            | inl t ↦ rw (x.coming t) (B.reached b (inl t))
            | inr f ↦
                rw (x.enters f) (in_push b _)
          ]

      reached' : (c : ℕ) → (moving c ≡ true) ⊎ (gone' c ≡ true) → In c (box' (home (event c).process))
      reached' c (inl t) = stays_in _ c (B.reached c (inl t))
      reached' c (inr g) = elim (went c g) [ inl e ↦ rw e b_reached | inr g₀ ↦ stays_in _ c (B.reached c (inr g₀)) ]

  queue-cancel : (bs : List ℕ) → Queue gone event bs → Queue gone' event bs
  queue-cancel [] q = tt
  queue-cancel (c ∷ cs) q = (λ f. q.0 (still c f).1, queue-cancel cs q.1)

  queue-enter : (bs : List ℕ) → ((c : ℕ) → In c bs → gone c ≡ false → SameKey (event c) (event b) → ⊥) →
      Queue gone event bs → Queue gone' event (bs ++ b ∷ [])
  queue-enter [] n q = (λ f c i. absurd i, tt)
  queue-enter (c ∷ cs) n q = (behind, queue-enter cs (λ d i. n d (inr i)) q.1)
    where
      behind : gone' c ≡ false → (d : ℕ) → In d (cs ++ b ∷ []) → SameKey (event c) (event d) → ⊥
      behind f d i k = elim (in_push_cases d b cs i) [
        | inl j ↦ q.0 (still c f).1 d j k
        | inr e ↦ n c (inl refl) (still c f).1 (rw e at k)
      ]

  pub Keyed-cancel : Boxed home live moving gone event box → Keyed live moving gone event box →
      Keyed live moving gone' event box'
  Keyed-cancel B K = record {
    queues = λ v. elim (box_at v) [
      | same e ↦ rw e (queue-cancel (box v) (K.queues v))
      | entered _ f e ↦ rw e (queue-enter (box v) (λ c i g k. elim (B.due v c i) [
        | inl t ↦ K.arriving c b t x.lived f x.stood k
        | inr g₁ ↦ both_ways _ g g₁
      ]) (K.queues v))
    ];
    arriving = λ c d t l f g. K.arriving c d t l f (still d g).1;
    arrived = K.arrived;
  }

  module _ {did : ℕ → Bool} {sent : ℕ → List ℕ} {base : ℕ → Process} {posted : ℕ} {bs : List ℕ} where
    Origin-cancel : (c : ℕ) → (c ≡ b → ⊥) → Origin did event sent base posted (b ∷ bs) c →
        Origin did event sent base posted bs c
    Origin-cancel c n (outer e l) = outer e l
    Origin-cancel c n (settled m l) = settled m l
    Origin-cancel c n (sent_by d h p i) = sent_by d h p i
    Origin-cancel c n (owing (inl e)) = absurd (n e)
    Origin-cancel c n (owing (inr i)) = owing i

    pub Sending-cancel : {outcome : ℕ → Outcome} → Sending live gone did event outcome sent base posted (b ∷ bs) →
        Sending live gone' did event outcome sent base posted bs
    Sending-cancel S = record {
      events = S.events;
      lasting =
          λ d c h i. ((S.lasting d c h i).0, x.others c (λ e. S.owed_parted d c h (inl e) i) ∙ (S.lasting d c h i).1);
      once = S.once;
      parted = S.parted;
      owed_once = S.owed_once.1;
      owed_lasting =
          λ c i. (
            (S.owed_lasting c (inr i)).0,
            x.others c (λ e. S.owed_once.0 (rw e at i)) ∙
                (S.owed_lasting c (inr i)).1,
          );
      owed_inner = λ c i. S.owed_inner c (inr i);
      owed_parted = λ d c h i. S.owed_parted d c h (inr i);
      origin = λ c l g. Origin-cancel c (still c g).0 (S.origin c l (still c g).1);
      outer_stays = λ c e. x.others c (λ k. S.owed_inner c (inl k) e) ∙ S.outer_stays c e;
    }

-- the floor of w falls to t; of the floors, b's time among them, only that one changes
pub record Lowering (floors floors' : ℕ → ℕ) (w t : ℕ) : Type 0 where
  pub falls : floors' w ≤ t
  pub least : (v : ℕ) → floors' v ≤ floors v
  pub keeps : (x v : ℕ) → x ≤ floors v → x ≤ t → x ≤ floors' v

module _ {workers floor : ℕ} {floors floors' : ℕ → ℕ} {reports : ℕ → Option ℕ} {w u : ℕ}
    (y : Lowering floors floors' w u) where
  bound_lower : (x : ℕ) → Bound workers floor floors' reports x → Bound workers floor floors reports x
  bound_lower x B = record {
    outer = B.outer;
    told = B.told;
    untold = λ v l e. let i = B.untold v l e in let j = y.least v in omega arith;
  }

  pub Covered-cancel : {rounding : Bool} {gvt : ℕ} (v a : ℕ) → Covered workers floor floors reports rounding gvt v a →
      Covered workers floor floors' reports rounding gvt v a
  Covered-cancel v a C = record { low = C.low; bound = λ o r x B. C.bound o r x (bound_lower x B) }

  -- the message b becomes active; all the others that are active were so before
  pub Timed-add : {home : ℕ → ℕ} {moving moving' waiting waiting' gone gone' : ℕ → Bool} {event event' : ℕ → Event}
      {rounding : Bool} {gvt t : ℕ} (b : ℕ) → (event' b).time ≡ u → w < workers → t ≤ u →
      Covered workers floor floors reports rounding gvt w t →
      ((c : ℕ) → (c ≡ b → ⊥) → event' c ≡ event c) →
      ((c : ℕ) → (c ≡ b → ⊥) → Active moving' waiting' gone' c → Active moving waiting gone c) →
      Timed home workers moving waiting gone event floor floors reports rounding gvt →
      Timed home workers moving' waiting' gone' event' floor floors' reports rounding gvt
  Timed-add {home} {moving} {moving'} {waiting} {waiting'} {gone} {gone'} {event} {event'} {rounding} {gvt}
      b is l k C kept others T = record {
        lowest = lowest';
        covers = covers';
      }
    where
      lowest' : rounding ≡ true → Bound workers floor floors' reports gvt
      lowest' o =
          let B = T.lowest o in
          record {
            outer = B.outer;
            told = B.told;
            untold = λ v i e. y.keeps gvt v (B.untold v i e) (let q = C.low in omega arith);
          }

      low_here : (x : ℕ) → rounding ≡ true → Bound workers floor floors' reports x → x ≤ u
      low_here x o B = elim (cases_told (reports w)) [
        | inl e ↦ (let i = B.untold w l e in let j = y.falls in omega arith)
        | inr n ↦ (let i = C.bound o n x (bound_lower x B) in omega arith)
      ]

      here : (v : ℕ) → Covered workers floor floors' reports rounding gvt v (event' b).time
      here v = record { low = let q = C.low in omega arith; bound = λ o _ x B. let i = low_here x o B in omega arith }

      covers' : (c : ℕ) → Active moving' waiting' gone' c →
          Covered workers floor floors' reports rounding gvt (home (event' c).process) (event' c).time
      covers' c a = elim (cases_eq c b) [
        | inl e ↦ rw e (here (home (event' b).process))
        | inr n ↦ rw (kept c n) (Covered-cancel _ _ (T.covers c (others c n a)))
      ]

pub Active-cancel : {moving waiting gone gone' : ℕ → Bool} (b : ℕ) → ((c : ℕ) → (c ≡ b → ⊥) → gone' c ≡ gone c) →
    (c : ℕ) → (c ≡ b → ⊥) → Active moving waiting gone' c → Active moving waiting gone c
Active-cancel b others c n (moves h) = moves h
Active-cancel b others c n (waits h) = waits h
Active-cancel b others c n (ends h) = ends (sym (others c n) ∙ h)

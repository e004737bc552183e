-- Two machines that differ in the names of their buffers draw from the same lanes, and differ so again.
use Rattle.std.proofs.Common.{◌≡◌, ℕ, suc, ◌<◌, true, false, ltb, ◌⊎◌, List, [], ◌∷◌, ◌++◌, map, length, get_or, set}
use Rattle.std.proofs.Common.{sym, refl, ap, ◌∙◌, subst, inl, inr, arith}
use Rattle.std.proofs.lemmas.List.{get_or-set_same, get_or-set_other, length-set, length-map, set_past}
use Rattle.std.proofs.lemmas.Bool.{cases_eq, cases_lt, both_ways, cond_both}
use Rattle.model.specs.Meaning.{listed}
use Rattle.model.specs.declared.reaction.Few.{Few}
use Rattle.model.specs.declared.reaction.Few.TheVariants.{Nothing}
use Rattle.pool.specs.Lanes.{place_at}
use Rattle.pool.specs.declared.place.Place.{Place}
use Rattle.pool.specs.declared.place.Place.TheVariants.{Out, Lane}
use Rattle.sequential.specs.Events.{nobody, process_after}
use Rattle.sequential.specs.declared.event.Event.{Event}
use Rattle.sequential.specs.declared.event.Outcome.{Outcome}
use Rattle.sequential.specs.declared.event.Process.{Process}
use Rattle.machine.specs.Calls.{World, DrawnAll, draw_lanes}
use Rattle.machine.specs.Calls.DrawnAll.{none as no_lanes, one as from_lane}
use Rattle.machine.specs.Machine.{Machine, Worker, blank, idle, at, worker, process, home, with_message, with_process}
use Rattle.machine.specs.Machine.{with_place, enter, entered, few, lower, coming, sent, sent_all, finished, stepped_by}
use Rattle.machine.specs.Machine.{stepped, doing}
use Rattle.machine.specs.declared.message.Message.{Message}
use Rattle.machine.specs.declared.plan.Plan.{Plan}
use Rattle.law.proofs.Alike.{few-mapped, mapped_same, renamed, relabelled, Named, Alike, lies_alike, in_lane_within}
use Rattle.law.proofs.Alike.{live_there, Alike-message, Alike-process, Alike-lower, Alike-enter}
use Rattle.law.proofs.Drawn.{DrawnAll-few}
use Rattle.law.proofs.Freed.{out_lane}
use Rattle.law.proofs.Invariant.{lives, dones, events, sents, applying}
use Rattle.law.proofs.Members.{In, in_push_cases, get_or-set_keeps, map_same}
use Rattle.law.proofs.Undo.{put, put_same, put_other}

-- what inboxes and messages name is live
pub record Closed (s : Machine) : Type 0 where
  pub mail : (w c : ℕ) → In c (worker s w).inbox → lives s c ≡ true
  pub kin : (d c : ℕ) → lives s d ≡ true → In c (sents s d) → lives s c ≡ true

relabelled_same : (f f₁ : ℕ → ℕ) (xs : List Worker) → ((w c : ℕ) → In c (get_or xs w idle).inbox → f₁ c ≡ f c) →
    map (relabelled f₁) xs ≡ map (relabelled f) xs
relabelled_same f f₁ [] h = refl
relabelled_same f f₁ (x ∷ xs) h =
    rw (map_same f₁ f x.inbox (λ c i. h 0 c i), relabelled_same f f₁ xs (λ w c i. h (suc w) c i)) refl

in_entered : (c b : ℕ) (xs : List ℕ) → In c (entered b xs) → In c xs ⊎ (c ≡ b)
in_entered c b xs =
    cond_both (ltb (length xs) 256) (xs ++ b ∷ []) xs (λ ys. In c ys → In c xs ⊎ (c ≡ b))
    (λ _ i. in_push_cases c b xs i) (λ _ i. inl i)

enter_mail : (s : Machine) (j b w c : ℕ) → In c (worker (enter j b s) w).inbox → In c (worker s w).inbox ⊎ (c ≡ b)
unfolding enter
enter_mail s j b w c i = elim (cases_eq w j) [
  | inr n ↦ inl (rw (get_or-set_other s.workers j w _ idle n) at i)
  | inl e ↦ elim (cases_lt j (length s.workers)) [
    | inl l ↦ rw e (in_entered c b (worker s j).inbox (rw (e, get_or-set_same s.workers j _ idle l) at i))
    | inr g ↦ inl (rw (set_past s.workers j _ g) at i)
  ]
]

-- ---- one message is drawn

module _ {f g : ℕ → ℕ} {s s' : Machine} (A : Alike f g s s') (C : Closed s) (b b' l : ℕ)
    (h : place_at s.places b ≡ Lane l) (h' : place_at s'.places b' ≡ Lane l) (e : Event) where
  pub f₁ : ℕ → ℕ
  f₁ = put f b b'

  pub g₁ : ℕ → ℕ
  g₁ = put g b' b

  t : Machine
  t = with_place b Out (with_message b (coming e) s)

  t' : Machine
  t' = with_place b' Out (with_message b' (coming e) s')

  within : b < length s.messages
  within = let i = in_lane_within s.places b l h in let j = A.sized in omega arith

  within' : b' < length s'.messages
  within' = let i = in_lane_within s'.places b' l h' in let j = A.sized' in omega arith

  dead : (c : ℕ) → lives s c ≡ true → c ≡ b → ⊥
  dead c x k = out_lane {l = l} (sym (A.pooled.out c x).0 ∙ rw k h)

  dead' : (c : ℕ) → lives s' c ≡ true → c ≡ b' → ⊥
  dead' c x k =
      let y = A.named.back c x in
      let z : place_at s'.places c ≡ Out = rw y.1 at (A.pooled.out (g c) y.0).1 in
      out_lane {l = l} (sym z ∙ rw k h')

  f_new : f₁ b ≡ b'
  unfolding f₁
  f_new = put_same f b b' b refl

  g_new : g₁ b' ≡ b
  unfolding g₁
  g_new = put_same g b' b b' refl

  f_old : (c : ℕ) → (c ≡ b → ⊥) → f₁ c ≡ f c
  unfolding f₁
  f_old c n = put_other f b b' c n

  g_old : (c : ℕ) → (c ≡ b' → ⊥) → g₁ c ≡ g c
  unfolding g₁
  g_old c n = put_other g b' b c n

  here : at t b ≡ coming e
  unfolding t
  here = get_or-set_same s.messages b (coming e) blank within

  here' : at t' b' ≡ coming e
  unfolding t'
  here' = get_or-set_same s'.messages b' (coming e) blank within'

  others : (c : ℕ) → (c ≡ b → ⊥) → at t c ≡ at s c
  unfolding t
  others c n = get_or-set_other s.messages b c (coming e) blank n

  others' : (c : ℕ) → (c ≡ b' → ⊥) → at t' c ≡ at s' c
  unfolding t'
  others' c n = get_or-set_other s'.messages b' c (coming e) blank n

  was : (c : ℕ) → (c ≡ b → ⊥) → lives t c ≡ true → lives s c ≡ true
  was c n x = rw (others c n) at x

  named₁ : Named f₁ g₁ (at t) (at t')
  named₁ = record { fore = fore'; back = back'; is = is'; quiet = quiet' }
    where
      fore' : (c : ℕ) → lives t c ≡ true → g₁ (f₁ c) ≡ c
      fore' c x = elim (cases_eq c b) [
        | inl k ↦ rw (k, f_new, g_new) refl
        | inr n ↦ (let y = was c n x in rw (f_old c n, g_old (f c) (dead' (f c) (live_there A c y))) (A.named.fore c y))
      ]

      back' : (c : ℕ) → lives t' c ≡ true → (lives t (g₁ c) ≡ true) × (f₁ (g₁ c) ≡ c)
      back' c x = elim (cases_eq c b') [
        | inl k ↦ (rw (k, g_new, here) refl, rw (k, g_new, f_new) refl)
        | inr n ↦
            (let y = A.named.back c (rw (others' c n) at x) in let m = dead (g c) y.0 in
            (rw (g_old c n, others (g c) m) y.0, rw (g_old c n, f_old (g c) m) y.1))
      ]

      is' : (c : ℕ) → lives t c ≡ true → at t' (f₁ c) ≡ renamed f₁ (at t c)
      is' c x = elim (cases_eq c b) [
        | inl k ↦ rw (k, f_new, here, here') refl
        | inr n ↦
            (let y =
            was c n x in rw (
              f_old c n,
              others c n,
              mapped_same f₁ f (at s c).sent (λ d i. f_old d (dead d (C.kin c d y i))),
            )
            (others' (f c) (dead' (f c) (live_there A c y)) ∙ A.named.is c y))
      ]

      quiet' : (c : ℕ) → lives t c ≡ true → dones t c ≡ false → (at t c).sent ≡ Nothing
      quiet' c x d = elim (cases_eq c b) [
        | inl k ↦ rw k (ap (λ (m : Message). m.sent) here)
        | inr n ↦ ap (λ (m : Message). m.sent) (others c n) ∙ (A.named.quiet c (was c n x) (rw (others c n) at d))
      ]

  DrawnAll-Alike : Alike f₁ g₁ t t'
  unfolding t t'
  DrawnAll-Alike = record {
    named = named₁;
    pooled = record {
      lanes =
          λ k. lies_alike k s.places s'.places b b' Out (in_lane_within s.places b l h)
          (in_lane_within s'.places b' l h') (h ∙ sym h') (A.pooled.lanes k);
      out = out';
    };
    workers = A.workers ∙ sym (relabelled_same f f₁ s.workers (λ w c i. f_old c (dead c (C.mail w c i))));
    sized = length-set s.places b Out ∙ (A.sized ∙ sym (length-set s.messages b _));
    sized' = length-set s'.places b' Out ∙ (A.sized' ∙ sym (length-set s'.messages b' _));
    processes = A.processes;
    posted = A.posted;
    floor = A.floor;
    rounding = A.rounding;
    gvt = A.gvt;
  }
    where
      out' : (c : ℕ) → lives t c ≡ true →
          (place_at (set s.places b Out) c ≡ Out) × (place_at (set s'.places b' Out) (f₁ c) ≡ Out)
      out' c x = elim (cases_eq c b) [
        | inl k ↦
            rw (k, f_new) (
              get_or-set_same s.places b Out Out (in_lane_within s.places b l h),
              get_or-set_same s'.places b' Out Out (in_lane_within s'.places b' l h'),
            )
        | inr n ↦ (let y = was c n x in let o = A.pooled.out c y in (
          get_or-set_other s.places b c Out Out n ∙ o.0,
          rw (f_old c n) (get_or-set_other s'.places b' (f c) Out Out (dead' (f c) (live_there A c y)) ∙ o.1),
        ))
      ]

  pub sent-Alike : (u : Plan) → Alike f₁ g₁ (sent u b e s) (sent u b' e s')
  unfolding sent t t'
  sent-Alike u = rw f_new at (Alike-enter DrawnAll-Alike (home u e.process) b)

  pub sent_live : (u : Plan) → lives (sent u b e s) b ≡ true
  unfolding sent enter t
  sent_live u = rw here refl

  pub sent_stays : (u : Plan) (c : ℕ) → lives s c ≡ true → at (sent u b e s) c ≡ at s c
  unfolding sent enter t
  sent_stays u c x = others c (dead c x)

  pub sent_closed : (u : Plan) → Closed (sent u b e s)
  unfolding sent enter t
  sent_closed u = record {
    mail =
        λ w c i. elim (enter_mail t (home u e.process) b w c i)
        [ inl j ↦ stays c (C.mail w c j) | inr k ↦ rw (k, here) refl ];
    kin = λ d c x i. elim (cases_eq d b) [
      | inl k ↦ absurd (subst (In c) (ap (λ (m : Message). listed m.sent) here) (rw k at i))
      | inr n ↦ stays c (C.kin d c (was d n x) (subst (In c) (ap (λ (m : Message). listed m.sent) (others d n)) i))
    ];
  }
    where
      stays : (c : ℕ) → lives s c ≡ true → lives t c ≡ true
      stays c x = rw (others c (dead c x)) x

pub Closed-lower : (w x : ℕ) (s : Machine) → Closed s → Closed (lower w x s)
unfolding lower
Closed-lower w x s C = record {
  mail = λ v c i. C.mail v c (subst (In c) (get_or-set_keeps (λ (y : Worker). y.inbox) s.workers w _ idle refl v) i);
  kin = C.kin;
}

-- ---- the messages of a step

pub record Sent (f : ℕ → ℕ) (bs bs' : List ℕ) (s r r' : Machine) : Type 0 where
  pub to : ℕ → ℕ
  pub fro : ℕ → ℕ
  pub alike : Alike to fro r r'
  pub old : (c : ℕ) → lives s c ≡ true → to c ≡ f c
  pub new : map to bs ≡ bs'
  pub stays : (c : ℕ) → lives s c ≡ true → at r c ≡ at s c

sent-places : (u : Plan) (c : ℕ) (e : Event) (s : Machine) (ps : List Place) → s.places ≡ ps →
    (sent u c e s).places ≡ set ps c Out
unfolding sent enter
sent-places u c e s ps q = ap (λ (xs : List Place). set xs c Out) q

lower-places : (w t : ℕ) (s : Machine) → (lower w t s).places ≡ s.places
unfolding lower
lower-places w t s = refl

lower_at : (w t : ℕ) (s : Machine) (c : ℕ) → at (lower w t s) c ≡ at s c
unfolding lower
lower_at w t s c = refl

pub sent_all-Alike : (u : Plan) (w : ℕ) {places places' : List Place} {ls bs bs' : List ℕ} → DrawnAll places ls bs →
    DrawnAll places' ls bs' → (es : List Event) → length ls ≡ length es → (f g : ℕ → ℕ) (s s' : Machine) →
    s.places ≡ places → s'.places ≡ places' → Alike f g s s' → Closed s →
    Sent f bs bs' s (sent_all u w bs es s) (sent_all u w bs' es s')
unfolding sent_all
sent_all-Alike u w no_lanes no_lanes [] n f g s s' is is' A C = record {
  to = f;
  fro = g;
  alike = A;
  old = λ c x. refl;
  new = refl;
  stays = λ c x. refl;
}
sent_all-Alike u w no_lanes no_lanes (e ∷ es) n f g s s' is is' A C = absurd (omega arith)
sent_all-Alike u w (from_lane h D) (from_lane h' D') [] n f g s s' is is' A C = absurd (omega arith)
sent_all-Alike u w (from_lane {l = l} {b = b} {bs = bs} h D) (from_lane {b = b'} {bs = bs'} h' D')
    (e ∷ es) n f g s s' is is' A C =
    more (sent_all-Alike u w D D' es (omega arith) (f₁ A C b b' l k k' e) (g₁ A C b b' l k k' e)
    (lower w e.time (sent u b e s)) (lower w e.time (sent u b' e s'))
    (lower-places w e.time (sent u b e s) ∙ sent-places u b e s _ is)
    (lower-places w e.time (sent u b' e s') ∙ sent-places u b' e s' _ is')
    (Alike-lower (sent-Alike A C b b' l k k' e u) w e.time)
    (Closed-lower w e.time (sent u b e s) (sent_closed A C b b' l k k' e u)))
  where
    k : place_at s.places b ≡ Lane l
    k = rw is h

    k' : place_at s'.places b' ≡ Lane l
    k' = rw is' h'

    more : Sent (f₁ A C b b' l k k' e) bs bs' (lower w e.time (sent u b e s))
        (sent_all u w bs es (lower w e.time (sent u b e s))) (sent_all u w bs' es (lower w e.time (sent u b' e s'))) →
        Sent f (b ∷ bs) (b' ∷ bs') s (sent_all u w (b ∷ bs) (e ∷ es) s) (sent_all u w (b' ∷ bs') (e ∷ es) s')
    more S = record {
      to = S.to;
      fro = S.fro;
      alike = S.alike;
      old = λ c x. S.old c (rw (lower_at w e.time (sent u b e s) c, sent_stays A C b b' l k k' e u c x) x) ∙
          f_old A C b b' l k k' e c (dead A C b b' l k k' e c x);
      new =
          rw (
            S.old b (rw (lower_at w e.time (sent u b e s) b) (sent_live A C b b' l k k' e u)),
            f_new A C b b' l k k' e,
            S.new,
          ) refl;
      stays = λ c x. S.stays c (rw (lower_at w e.time (sent u b e s) c, sent_stays A C b b' l k k' e u c x) x) ∙
          (lower_at w e.time (sent u b e s) c ∙ sent_stays A C b b' l k k' e u c x);
    }

-- ---- a step

-- the event of x, in the buffer b, is applied at the process q, and its messages are drawn into bs
abbrev finished_as : World → ℕ → ℕ → Few ℕ → List ℕ → Machine → Message → Process → Machine
finished_as W w b fs bs s x q =
    let o = applying W x.event q in
    with_process x.event.process (process_after o q)
    (with_message b (finished q o fs x) (sent_all W.plan w bs (listed o.sends) s))

stepped_is : (W : World) (w b : ℕ) (fs : Few ℕ) (bs : List ℕ) (s : Machine) (x : Message) (q : Process) →
    listed fs ≡ bs → at s b ≡ x → process s x.event.process ≡ q →
    stepped W.model W.plan w b fs s ≡ finished_as W w b fs bs s x q
unfolding stepped_by
stepped_is W w b fs bs s x q e h k =
    ap (λ (y : Message). finished_as W w b fs (listed fs) s y (process s y.event.process)) h ∙
    (ap (finished_as W w b fs (listed fs) s x) k ∙ ap (λ (cs : List ℕ). finished_as W w b fs cs s x q) e)

module _ {f g : ℕ → ℕ} {s s' : Machine} (A : Alike f g s s') (C : Closed s) (W : World) (w b : ℕ)
    (l : lives s b ≡ true) where
  pub process_there : (p : ℕ) → process s' p ≡ process s p
  process_there p = ap (λ (ps : List Process). get_or ps p nobody) A.processes

  pub doing-Alike : doing W.model W.plan s' (f b) ≡ doing W.model W.plan s b
  doing-Alike = ap (λ (x : Message). applying W x.event (process s' x.event.process)) (A.named.is b l) ∙
      ap (applying W (events s b)) (process_there (events s b).process)

  pub stepped-Alike : {bs bs' : List ℕ} → DrawnAll s.places (draw_lanes W w (listed (doing W.model W.plan s b).sends))
      bs →
      DrawnAll s'.places (draw_lanes W w (listed (doing W.model W.plan s b).sends)) bs' →
      (f₁ : ℕ → ℕ) × (g₁ : ℕ → ℕ) × Alike f₁ g₁ (stepped W.model W.plan w b (few bs) s)
      (stepped W.model W.plan w (f b) (few bs') s')
  stepped-Alike {bs} {bs'} D D' =
      rw (
        stepped_is W w b (few bs) bs s x q (DrawnAll-few W w o.sends D) refl refl,
        stepped_is W w (f b) (few bs') bs' s' (renamed f x) q (DrawnAll-few W w o.sends D') (A.named.is b l)
            (process_there x.event.process),
      ) (
        S.to,
        S.fro,
        rw (S.old b l) at (Alike-process
            (Alike-message S.alike b m m' (rw (S.stays b l) l)
            (ap (λ (cs : List ℕ). finished q o (few cs) x) (sym S.new) ∙
            ap (λ (fs : Few ℕ). finished q o fs x) (few-mapped S.to bs)) (λ z. absurd (both_ways _ z refl)))
            x.event.process (process_after o q)),
      )
    where
      x : Message
      x = at s b

      q : Process
      q = process s x.event.process

      o : Outcome
      o = applying W x.event q

      S : Sent f bs bs' s (sent_all W.plan w bs (listed o.sends) s) (sent_all W.plan w bs' (listed o.sends) s')
      S = sent_all-Alike W.plan w D D' (listed o.sends) (length-map _ _) f g s s' refl refl A C

      m : Message
      m = finished q o (few bs) x

      m' : Message
      m' = finished q o (few bs') x

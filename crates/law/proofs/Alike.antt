-- Two machines that differ in the names of their buffers: a renaming leads from the live messages of one to those of
-- the other, and replacing the same part in both leaves it so.
use Rattle.std.proofs.Common.{◌≡◌, ℕ, zero, suc, ◌+◌, ◌<◌, Bool, true, false, ltb, List, [], ◌∷◌, map, length}
use Rattle.std.proofs.Common.{get_or, set, Some, None, Option, sym, refl, ap, ◌∙◌, ap₂, inl, inr, arith}
use Rattle.std.proofs.lemmas.List.{get_or_past, get_or-set_same, get_or-set_other, length-set, length-map, map-set}
use Rattle.std.proofs.lemmas.List.{map_push}
use Rattle.std.proofs.lemmas.Bool.{cases_Bool, cases_eq, cases_lt, both_ways}
use Rattle.model.specs.Meaning.{listed, many}
use Rattle.model.specs.declared.reaction.Few.{Few}
use Rattle.model.specs.declared.reaction.Few.TheVariants.{Nothing, One, Two}
use Rattle.pool.specs.Laws.{lies-set, one}
use Rattle.pool.specs.Lanes.{Lanes, place_at, is_in, lies}
use Rattle.pool.specs.declared.place.Place.{Place}
use Rattle.pool.specs.declared.place.Place.TheVariants.{Out, Lane}
use Rattle.sequential.specs.declared.event.Process.{Process}
use Rattle.machine.specs.Machine.{Machine, Worker, blank, idle, at, worker, is_done, with_message, with_worker}
use Rattle.machine.specs.Machine.{with_process, with_outside, enter, entered, first, rest, few, lower, popped, freed}
use Rattle.machine.specs.declared.message.Message.{Message}
use Rattle.machine.specs.declared.plan.Plan.{Plan}
use Rattle.law.proofs.Freed.{out_lane}
use Rattle.law.proofs.Invariant.{is_live, lives}
use Rattle.law.proofs.Members.{In}
use Rattle.law.proofs.Parts.{live_within}

-- a few and an option, with their buffers renamed
abbrev pub mapped : (ℕ → ℕ) → Few ℕ → Few ℕ
mapped f Nothing = Nothing
mapped f (One b) = One (f b)
mapped f (Two b c) = Two (f b) (f c)

abbrev pub carried : (ℕ → ℕ) → Option ℕ → Option ℕ
carried f None = None
carried f (Some b) = Some (f b)

pub listed-mapped : (f : ℕ → ℕ) (xs : Few ℕ) → listed (mapped f xs) ≡ map f (listed xs)
listed-mapped f Nothing = refl
listed-mapped f (One b) = refl
listed-mapped f (Two b c) = refl

pub many_mapped : (f : ℕ → ℕ) (xs : Few ℕ) → many (mapped f xs) ≡ many xs
many_mapped f Nothing = refl
many_mapped f (One b) = refl
many_mapped f (Two b c) = refl

pub few-mapped : (f : ℕ → ℕ) (xs : List ℕ) → few (map f xs) ≡ mapped f (few xs)
few-mapped f [] = refl
few-mapped f (a ∷ []) = refl
few-mapped f (a ∷ b ∷ xs) = refl

pub mapped_same : (f g : ℕ → ℕ) (xs : Few ℕ) → ((c : ℕ) → In c (listed xs) → f c ≡ g c) → mapped f xs ≡ mapped g xs
mapped_same f g Nothing h = refl
mapped_same f g (One b) h = ap One (h b (inl refl))
mapped_same f g (Two b c) h = ap₂ Two (h b (inl refl)) (h c (inr (inl refl)))

pub first_map : (f : ℕ → ℕ) (xs : List ℕ) → first (map f xs) ≡ carried f (first xs)
first_map f [] = refl
first_map f (x ∷ xs) = refl

rest-map : (f : ℕ → ℕ) (xs : List ℕ) → rest (map f xs) ≡ map f (rest xs)
rest-map f [] = refl
rest-map f (x ∷ xs) = refl

entered-map : (f : ℕ → ℕ) (b : ℕ) (xs : List ℕ) → entered (f b) (map f xs) ≡ map f (entered b xs)
entered-map f b xs = elim (cases_Bool (ltb (length xs) 256)) [
  | inl t ↦ rw (length-map xs f, t) (sym (map_push f xs b))
  | inr n ↦ rw (length-map xs f, n) refl
]

-- a message and a worker, with their buffers renamed
abbrev pub renamed : (ℕ → ℕ) → Message → Message
renamed f m = record m { sent = mapped f m.sent }

abbrev pub relabelled : (ℕ → ℕ) → Worker → Worker
relabelled f x = record x { inbox = map f x.inbox }

abbrev pub alive : Message → Bool
alive m = is_live m.phase

-- f names each live buffer of the first in the second, and g the other way
pub record Named (f g : ℕ → ℕ) (msg msg' : ℕ → Message) : Type 0 where
  pub fore : (b : ℕ) → alive (msg b) ≡ true → g (f b) ≡ b
  pub back : (b : ℕ) → alive (msg' b) ≡ true → (alive (msg (g b)) ≡ true) × (f (g b) ≡ b)
  pub is : (b : ℕ) → alive (msg b) ≡ true → msg' (f b) ≡ renamed f (msg b)
  pub quiet : (b : ℕ) → alive (msg b) ≡ true → is_done (msg b).phase ≡ false → (msg b).sent ≡ Nothing

pub record Pooled (f : ℕ → ℕ) (live : ℕ → Bool) (places places' : List Place) : Type 0 where
  pub lanes : (l : ℕ) → lies l places' ≡ lies l places
  pub out : (b : ℕ) → live b ≡ true → (place_at places b ≡ Out) × (place_at places' (f b) ≡ Out)

pub record Alike (f g : ℕ → ℕ) (s s' : Machine) : Type 0 where
  pub named : Named f g (at s) (at s')
  pub pooled : Pooled f (lives s) s.places s'.places
  pub workers : s'.workers ≡ map (relabelled f) s.workers
  pub sized : length s.places ≡ length s.messages
  pub sized' : length s'.places ≡ length s'.messages
  pub processes : s'.processes ≡ s.processes
  pub posted : s'.posted ≡ s.posted
  pub floor : s'.floor ≡ s.floor
  pub rounding : s'.rounding ≡ s.rounding
  pub gvt : s'.gvt ≡ s.gvt

-- ---- how many buffers lie in a lane

-- the same place replaced by the same place
pub lies_alike : (l : ℕ) (xs ys : List Place) (b c : ℕ) (k : Place) → b < length xs → c < length ys →
    place_at xs b ≡ place_at ys c → lies l ys ≡ lies l xs → lies l (set ys c k) ≡ lies l (set xs b k)
lies_alike l xs ys b c k i j e h =
    let p = lies-set l xs b k i in
    let q : lies l (set ys c k) + one (is_in l (place_at xs b)) ≡ lies l ys + one (is_in l k) = rw e (lies-set l ys c k j) in
    omega arith

pub in_lane_within : (xs : List Place) (b l : ℕ) → place_at xs b ≡ Lane l → b < length xs
in_lane_within xs b l h =
    elim (cases_lt b (length xs)) [ inl i ↦ i | inr g ↦ absurd (out_lane (sym (get_or_past xs b Out g) ∙ h)) ]

-- ---- one message replaced

module _ {f g : ℕ → ℕ} {msg msg' n n' : ℕ → Message} {b : ℕ} {m : Message} (N : Named f g msg msg')
    (l : alive (msg b) ≡ true)
    (here : n b ≡ m) (others : (c : ℕ) → (c ≡ b → ⊥) → n c ≡ msg c) (here' : n' (f b) ≡ renamed f m)
    (others' : (c : ℕ) → (c ≡ f b → ⊥) → n' c ≡ msg' c) where
  was_alive : (c : ℕ) → alive (n c) ≡ true → alive (msg c) ≡ true
  was_alive c h = elim (cases_eq c b) [ inl e ↦ rw e l | inr k ↦ rw (others c k) at h ]

  apart : (c : ℕ) → alive (msg c) ≡ true → (c ≡ b → ⊥) → f c ≡ f b → ⊥
  apart c h k e = k (sym (N.fore c h) ∙ (ap g e ∙ N.fore b l))

  pub Named-set : (is_done m.phase ≡ false → m.sent ≡ Nothing) → Named f g n n'
  Named-set q = record {
    fore = λ c h. N.fore c (was_alive c h);
    back = back';
    is = λ c h. elim (cases_eq c b) [
      | inl e ↦ rw (e, here) here'
      | inr k ↦ rw (others c k) (others' (f c) (apart c (was_alive c h) k) ∙ N.is c (was_alive c h))
    ];
    quiet = λ c h d. elim (cases_eq c b) [
      | inl e ↦ rw (e, here) (q (rw (e, here) at d))
      | inr k ↦ rw (others c k) (N.quiet c (was_alive c h) (rw (others c k) at d))
    ];
  }
    where
      back' : (c : ℕ) → alive (n' c) ≡ true → (alive (n (g c)) ≡ true) × (f (g c) ≡ c)
      back' c h = elim (cases_eq c (f b)) [
        | inl e ↦ (
          rw (e, N.fore b l, here) (let x : alive (n' (f b)) ≡ true = rw e at h in rw here' at x),
          rw (e, N.fore b l) refl,
        )
        | inr k ↦ (let x = N.back c (rw (others' c k) at h) in (rw (others (g c) (λ e. k (sym x.1 ∙ ap f e))) x.0, x.1))
      ]

-- ---- parts of a machine replaced

module _ {f g : ℕ → ℕ} {s s' : Machine} (A : Alike f g s s') where
  pub live_there : (b : ℕ) → lives s b ≡ true → lives s' (f b) ≡ true
  live_there b l = rw (A.named.is b l) l

  pub worker_there : (w : ℕ) → worker s' w ≡ relabelled f (worker s w)
  worker_there w = rw A.workers (go s.workers w)
    where
      go : (xs : List Worker) (w : ℕ) → get_or (map (relabelled f) xs) w idle ≡ relabelled f (get_or xs w idle)
      go [] w = refl
      go (x ∷ xs) zero = refl
      go (x ∷ xs) (suc w) = go xs w

  pub Alike-message : (b : ℕ) (m m' : Message) → lives s b ≡ true → m' ≡ renamed f m →
      (is_done m.phase ≡ false → m.sent ≡ Nothing) → Alike f g (with_message b m s) (with_message (f b) m' s')
  Alike-message b m m' l e q = record {
    named = N;
    pooled = record { lanes = A.pooled.lanes; out = λ c h. A.pooled.out c (was c h) };
    workers = A.workers;
    sized = A.sized ∙ sym (length-set s.messages b m);
    sized' = A.sized' ∙ sym (length-set s'.messages (f b) m');
    processes = A.processes;
    posted = A.posted;
    floor = A.floor;
    rounding = A.rounding;
    gvt = A.gvt;
  }
    where
      here : at (with_message b m s) b ≡ m
      here = get_or-set_same s.messages b m blank (live_within s b l)

      others : (c : ℕ) → (c ≡ b → ⊥) → at (with_message b m s) c ≡ at s c
      others c k = get_or-set_other s.messages b c m blank k

      here' : at (with_message (f b) m' s') (f b) ≡ renamed f m
      here' = get_or-set_same s'.messages (f b) m' blank (live_within s' (f b) (live_there b l)) ∙ e

      others' : (c : ℕ) → (c ≡ f b → ⊥) → at (with_message (f b) m' s') c ≡ at s' c
      others' c k = get_or-set_other s'.messages (f b) c m' blank k

      N : Named f g (at (with_message b m s)) (at (with_message (f b) m' s'))
      N = Named-set A.named l here others here' others' q

      was : (c : ℕ) → lives (with_message b m s) c ≡ true → lives s c ≡ true
      was c h = was_alive A.named l here others here' others' c h

  pub Alike-worker : (w : ℕ) (x x' : Worker) → x' ≡ relabelled f x → Alike f g (with_worker w x s) (with_worker w x' s')
  Alike-worker w x x' e = record {
    named = A.named;
    pooled = A.pooled;
    workers = rw (A.workers, e) (sym (map-set (relabelled f) s.workers w x));
    sized = A.sized;
    sized' = A.sized';
    processes = A.processes;
    posted = A.posted;
    floor = A.floor;
    rounding = A.rounding;
    gvt = A.gvt;
  }

  pub Alike-process : (p : ℕ) (q : Process) → Alike f g (with_process p q s) (with_process p q s')
  Alike-process p q = record {
    named = A.named;
    pooled = A.pooled;
    workers = A.workers;
    sized = A.sized;
    sized' = A.sized';
    processes = ap (λ (ps : List Process). set ps p q) A.processes;
    posted = A.posted;
    floor = A.floor;
    rounding = A.rounding;
    gvt = A.gvt;
  }

  pub Alike-outside : (n t : ℕ) → Alike f g (with_outside n t s) (with_outside n t s')
  Alike-outside n t = record {
    named = A.named;
    pooled = A.pooled;
    workers = A.workers;
    sized = A.sized;
    sized' = A.sized';
    processes = A.processes;
    posted = refl;
    floor = refl;
    rounding = A.rounding;
    gvt = A.gvt;
  }

  pub Alike-lower : (w t : ℕ) → Alike f g (lower w t s) (lower w t s')
  unfolding lower
  Alike-lower w t = Alike-worker w _ _ (rw (worker_there w) refl)

  pub Alike-enter : (j b : ℕ) → Alike f g (enter j b s) (enter j (f b) s')
  unfolding enter
  Alike-enter j b = Alike-worker j _ _ (rw (worker_there j, entered-map f b (worker s j).inbox) refl)

  pub Alike-popped : (w : ℕ) → Alike f g (popped w s) (popped w s')
  unfolding popped
  Alike-popped w = Alike-worker w _ _ (rw (worker_there w, rest-map f (worker s w).inbox) refl)

  pub Alike-freed : (l : Lanes) (u : Plan) (b : ℕ) → lives s b ≡ true → Alike f g (freed l u b s) (freed l u (f b) s')
  unfolding freed
  Alike-freed l u b h = rw (A.named.is b h) (record {
    named = M.named;
    pooled = record {
      lanes =
          λ k. lies_alike k s.places s'.places b (f b) _ (let i = live_within s b h in let j = A.sized in omega arith)
          (let i = live_within s' (f b) (live_there b h) in let j = A.sized' in omega arith) (o.0 ∙ sym o.1)
          (A.pooled.lanes k);
      out = λ c x. let y = was c x in (
        get_or-set_other s.places b c _ Out y.0 ∙ (A.pooled.out c y.1).0,
        get_or-set_other s'.places (f b) (f c) _ Out (apart' c y.1 y.0) ∙ (A.pooled.out c y.1).1,
      );
    };
    workers = A.workers;
    sized = length-set s.places b _ ∙ M.sized;
    sized' = length-set s'.places (f b) _ ∙ M.sized';
    processes = A.processes;
    posted = A.posted;
    floor = A.floor;
    rounding = A.rounding;
    gvt = A.gvt;
  })
    where
      M : Alike f g (with_message b blank s) (with_message (f b) blank s')
      M = Alike-message b blank blank h refl (λ _. refl)

      o : (place_at s.places b ≡ Out) × (place_at s'.places (f b) ≡ Out)
      o = A.pooled.out b h

      was : (c : ℕ) → lives (with_message b blank s) c ≡ true → (c ≡ b → ⊥) × (lives s c ≡ true)
      was c x =
          let n : c ≡ b → ⊥ = λ e. both_ways _
          (ap (λ (m : Message). is_live m.phase) (get_or-set_same s.messages b blank blank (live_within s b h)))
          (rw e at x) in
          (n, rw (get_or-set_other s.messages b c blank blank n) at x)

      apart' : (c : ℕ) → lives s c ≡ true → (c ≡ b → ⊥) → f c ≡ f b → ⊥
      apart' c x k e = k (sym (A.named.fore c x) ∙ (ap g e ∙ A.named.fore b h))

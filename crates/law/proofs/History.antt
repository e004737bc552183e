-- The history of a run of calls: the sequential run of the posts has written exactly the lines collected, and stands
-- where the machine's collected events end. Posts and collections move it on; every other call leaves what is ready as
-- it was.
use Rattle.std.proofs.Common.{◌≡◌, ℕ, zero, suc, ◌+◌, ◌<◌, ◌≤◌, min, true, false, List, [], ◌∷◌, ◌++◌, Some, None}
use Rattle.std.proofs.Common.{Option, sym, refl, ap, ◌∙◌, subst, inl, inr, arith}
use Rattle.std.proofs.ByRecursion.{All-weaker, All-append}
use Rattle.std.proofs.lemmas.Bool.{cases_eq, both_ways}
use Rattle.std.specs.List.{AllByRecursion}
use Rattle.model.specs.Meaning.{listed}
use Rattle.pool.specs.Lanes.{Lanes, place_at}
use Rattle.pool.specs.declared.place.Place.TheVariants.{Lane}
use Rattle.sequential.proofs.Keys.{SameKey, SameKey-sym}
use Rattle.sequential.proofs.Waits.{Among, queued_from, queued_in, queued_ascending}
use Rattle.sequential.specs.Events.{line_of}
use Rattle.sequential.specs.Run.{queued, queued_all, outcome, processes_after, fresh}
use Rattle.sequential.specs.declared.event.Event.{Event}
use Rattle.sequential.specs.declared.event.Line.{Line}
use Rattle.sequential.specs.declared.event.Outcome.{Outcome}
use Rattle.sequential.specs.declared.event.Process.{Process}
use Rattle.machine.specs.Calls.{World, post_of}
use Rattle.machine.specs.Machine.{Machine, Collected, collected_to, enter, freed, oldest, collected, sent, with_outside}
use Rattle.machine.specs.declared.plan.Plan.{Plan}
use Rattle.law.specs.Law.{Proper}
use Rattle.law.proofs.Absorb.{none}
use Rattle.law.proofs.Collected.{onward, ripened, Kept-one}
use Rattle.law.proofs.Invariant.{lives, flags, events, outcomes, Kept, Ready, Steady}
use Rattle.law.proofs.Next.{Waiting, Stands, Waiting-Steady, head, Waiting-one, outcome_one, Stands-one}
use Rattle.law.proofs.Post.{Kept-posted, entering, event_here, fresh as fresh_key}
use Rattle.law.proofs.Sent.{Enters}
use Rattle.law.proofs.Steps.{Steps, Steps-more, Steps-post}
use Rattle.law.proofs.Steps.Steps.{rests, writes}

-- ---- a whole collection

-- s' with the lines ls is what a machine comes to whose run stood at ps with ws waiting
pub record Writes (W : World) (ps : List Process) (ws : List Event) (ls : List Line) (gvt : ℕ)
    (s' : Machine) : Type 0 where
  pub base : ℕ → Process
  pub processes : List Process
  pub waiting : List Event
  pub kept : Kept W base none [] s'
  pub waits : Waiting base (lives s') (flags s') (events s') waiting
  pub stands : Stands base processes
  pub steps : Steps W ps ws ls processes waiting
  pub early : AllByRecursion (λ (x : Line). x.event.time < gvt) ls
  pub gvt_same : s'.gvt ≡ gvt

writes_more : (W : World) (ps : List Process) (e : Event) (ws : List Event) (o : Outcome) (ls : List Line) (gvt : ℕ)
    (s' : Machine) → outcome W.model W.plan.limits ps e ≡ o → e.time < gvt →
    Writes W (processes_after ps e o) (queued_all (listed o.sends) ws) ls gvt s' →
    Writes W ps (e ∷ ws) (line_of e o ∷ ls) gvt s'
writes_more W ps e ws o ls gvt s' is early R = record {
  base = R.base;
  processes = R.processes;
  waiting = R.waiting;
  kept = R.kept;
  waits = R.waits;
  stands = R.stands;
  steps = writes is R.steps;
  early = (early, R.early);
  gvt_same = R.gvt_same;
}

pub collected_some : (l : Lanes) (u : Plan) (k : ℕ) (s : Machine) (d : ℕ) → oldest s ≡ Some d →
    collected l u (suc k) s ≡ collected_to (collected l u k (freed l u d s)).machine
    (line_of (events s d) (outcomes s d) ∷ (collected l u k (freed l u d s)).lines)
unfolding collected
collected_some l u k s d h = rw (h, collected)

pub collected-posted : (l : Lanes) (u : Plan) (k : ℕ) (s : Machine) → (collected l u k s).machine.posted ≡ s.posted
unfolding collected freed
collected-posted l u zero s = refl
collected-posted l u (suc k) s = go (oldest s) refl (collected-posted l u k)
  where
    go : (o : Option ℕ) → oldest s ≡ o → ((s : Machine) → (collected l u k s).machine.posted ≡ s.posted) →
        (collected l u (suc k) s).machine.posted ≡ s.posted
    go None h f = rw (h, collected) refl
    go (Some d) h f = rw (h, collected) (f (freed l u d s))

pub History-collected : (W : World) (P : Proper W) (l : Lanes) (k : ℕ) (base : ℕ → Process) (s : Machine)
    (ps : List Process) (ws : List Event) → Kept W base none [] s → Waiting base (lives s) (flags s) (events s) ws →
    Stands base ps →
    Writes W ps ws (collected l W.plan k s).lines s.gvt (collected l W.plan k s).machine
unfolding collected freed
History-collected W P l zero base s ps ws K T S = record {
  base = base;
  processes = ps;
  waiting = ws;
  kept = K;
  waits = T;
  stands = S;
  steps = rests;
  early = tt;
  gvt_same = refl;
}
History-collected W P l (suc k) base s ps ws K T S = go (oldest s) refl (History-collected W P l k)
  where
    Goal : Collected → Type 0
    Goal r = Writes W ps ws r.lines s.gvt r.machine

    go : (o : Option ℕ) → oldest s ≡ o →
        ((base : ℕ → Process) (s : Machine) (ps : List Process) (ws : List Event) → Kept W base none [] s →
        Waiting base (lives s) (flags s) (events s) ws → Stands base ps →
        Writes W ps ws (collected l W.plan k s).lines s.gvt (collected l W.plan k s).machine) →
        Goal (collected l W.plan (suc k) s)
    go None h f =
        rw (h, collected) (record {
          base = base;
          processes = ps;
          waiting = ws;
          kept = K;
          waits = T;
          stands = S;
          steps = rests;
          early = tt;
          gvt_same = refl;
        })
    go (Some d) h f =
        let w = head W P base l d s K h ws T in
        rw (collected_some l W.plan k s d h, w.1)
        (writes_more W ps (events s d) w.0 (outcomes s d) (collected l W.plan k (freed l W.plan d s)).lines s.gvt
        (collected l W.plan k (freed l W.plan d s)).machine
        (outcome_one W P base l d s K h ws T ps S) (ripened W P base l d s K h).1
        (f (onward base s d) (freed l W.plan d s) (processes_after ps (events s d) (outcomes s d))
        (queued_all (listed (outcomes s d).sends) w.0) (Kept-one W P base l d s K h)
        (Waiting-one W P base l d s K h ws T) (Stands-one W P base l d s K h ws T ps S)))

-- ---- the history

-- the run of the posts has written the lines taken, and stands where the machine's collected events end
pub record History (W : World) (posts : List Event) (taken : List Line) (s : Machine) : Type 0 where
  pub base : ℕ → Process
  pub processes : List Process
  pub waiting : List Event
  pub kept : Kept W base none [] s
  pub waits : Waiting base (lives s) (flags s) (events s) waiting
  pub stands : Stands base processes
  pub steps : Steps W (fresh W.model) (queued_all posts []) taken processes waiting
  pub within : (e : Event) → Among e (queued_all posts []) → (e.process < W.model.size) × (e.time < W.plan.limits.end)
  pub early : AllByRecursion (λ (x : Line). x.event.time < s.gvt) taken

-- a call that leaves what is ready as it was, and does not lower GVT
pub History-Steady : {W : World} {posts : List Event} {taken : List Line} {s s' : Machine}
    (H : History W posts taken s) → Kept W H.base none [] s' → Steady H.base s s' → History W posts taken s'
History-Steady {W} {posts} {taken} {s} {s'} H K X = record {
  base = H.base;
  processes = H.processes;
  waiting = H.waiting;
  kept = K;
  waits = Waiting-Steady X H.waits;
  stands = H.stands;
  steps = H.steps;
  within = H.within;
  early =
      All-weaker (λ (x : Line). x.event.time < s.gvt) (λ (x : Line). x.event.time < s'.gvt)
      (λ x h. let i = X.gvt in omega arith) taken H.early;
}

-- a collection
pub History-collect : {W : World} (P : Proper W) {posts : List Event} {taken : List Line} {s : Machine} (k : ℕ) →
    History W posts taken s → History W posts (taken ++ (collected W.lanes W.plan k s).lines)
    (collected W.lanes W.plan k s).machine
History-collect {W} P {posts} {taken} {s} k H =
    let R = History-collected W P W.lanes k H.base s H.processes H.waiting H.kept H.waits H.stands in record {
      base = R.base;
      processes = R.processes;
      waiting = R.waiting;
      kept = R.kept;
      waits = R.waits;
      stands = R.stands;
      steps = Steps-more H.steps R.steps;
      within = H.within;
      early =
          rw R.gvt_same (All-append (λ (x : Line). x.event.time < s.gvt) taken
          (collected W.lanes W.plan k s).lines H.early R.early);
    }

queued_all-push : (es : List Event) (e : Event) (fs : List Event) →
    queued_all (es ++ e ∷ []) fs ≡ queued e (queued_all es fs)
queued_all-push [] e fs = refl
queued_all-push (x ∷ es) e fs = queued_all-push es e (queued x fs)

-- a post
module _ (W : World) (P : Proper W) (posts : List Event) (taken : List Line) (s : Machine) (H : History W posts taken s)
    (p t x b l : ℕ) (small : p < W.model.size) (low : s.gvt ≤ t) (ends : t < W.plan.limits.end)
    (lane : place_at s.places b ≡ Lane l) where
  e : Event
  e = post_of W s p t x

  s' : Machine
  s' = with_outside (s.posted + 1) (min s.floor t) (sent W.plan b (post_of W s p t x) s)

  Y : Enters W none s s' b
  unfolding s'
  Y = entering W P H.base s H.kept p t x b l small low ends lane

  here : events s' b ≡ e
  unfolding s' e
  here = event_here W P H.base s H.kept p t x b l small low ends lane

  pub History-post : History W (posts ++ post_of W s p t x ∷ []) taken
      (with_outside (s.posted + 1) (min s.floor t) (sent W.plan b (post_of W s p t x) s))
  unfolding s' e sent enter
  History-post = record {
    base = H.base;
    processes = H.processes;
    waiting = queued e H.waiting;
    kept = Kept-posted W P H.base s H.kept p t x b l small low ends lane;
    waits = record { sorted = queued_ascending e H.waiting apart H.waits.sorted; there = there'; held = held' };
    stands = H.stands;
    steps =
        rw queued_all-push (Steps-post P e refl H.steps (λ f i. (H.within f i).0)
        (All-weaker (λ (y : Line). y.event.time < s.gvt) (λ (y : Line). y.event.time < t)
        (λ y h. omega arith) taken H.early));
    within =
        λ f i. elim (queued_from f e (queued_all posts []) (rw queued_all-push at i))
        [ inl k ↦ (rw k small, rw k ends) | inr j ↦ H.within f j ];
    early = H.early;
  }
    where
      apart : (f : Event) → Among f H.waiting → SameKey e f → ⊥
      apart f i k =
          let h = H.waits.held f i in
          fresh_key W P H.base s H.kept p t x b l small low ends lane h.0 h.1 h.2 (SameKey-sym (rw h.3 k))

      there' : (c : ℕ) → lives s' c ≡ true → flags s' c ≡ false → Ready H.base (events s' c) →
          Among (events s' c) (queued e H.waiting)
      there' c h g r = elim (cases_eq c b) [
        | inl k ↦ queued_in (events s' c) e H.waiting (inl (rw k here))
        | inr n ↦
            queued_in (events s' c) e H.waiting
            (inr (subst (λ (y : Event). Among y H.waiting) (sym (Y.event_others c n))
            (H.waits.there c (sym (Y.live_others c n) ∙ h) (sym (Y.gone_others c n) ∙ g)
            (subst (Ready H.base) (Y.event_others c n) r))))
      ]

      held' : (f : Event) → Among f (queued e H.waiting) →
          (c : ℕ) × (lives s' c ≡ true) × (flags s' c ≡ false) × (events s' c ≡ f) × Ready H.base f
      held' f i = elim (queued_from f e H.waiting i) [
        | inl k ↦ (b, Y.lives, Y.gone_off, here ∙ sym k, inl (ap (λ (y : Event). y.sender) k))
        | inr j ↦ (let h = H.waits.held f j in let n : h.0 ≡ b → ⊥ = λ q. both_ways _ Y.dead (rw q at h.1) in
            (h.0, Y.live_others _ n ∙ h.1, Y.gone_others _ n ∙ h.2, Y.event_others _ n ∙ h.3, h.4))
      ]

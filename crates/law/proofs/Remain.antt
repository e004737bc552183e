-- The sequential run's lines that are earlier than GVT are those collected and those that remain. For were everything
-- done and earlier than GVT collected too, nothing would wait before GVT, and the run's times never fall.
use Rattle.std.proofs.Common.{◌≡◌, ℕ, zero, suc, ◌+◌, ◌-◌, ◌<◌, ◌≤◌, true, ltb, ◌⊎◌, List, [], ◌∷◌, ◌++◌, length, Some}
use Rattle.std.proofs.Common.{None, Option, sym, refl, ap, ◌∙◌, subst, inl, inr, arith}
use Rattle.std.proofs.lemmas.List.{append-nil, length-append}
use Rattle.std.proofs.lemmas.Bool.{cases_Bool, cases_lt, both_ways, and_from, lt-ltb, le-ltb}
use Rattle.std.specs.List.{AllByRecursion}
use Rattle.model.specs.Meaning.{listed}
use Rattle.sequential.proofs.Budget.{all_among, slack, slack_fresh, length-queued_all, fresh-count}
use Rattle.sequential.proofs.Sends.{Fits, applied-sends}
use Rattle.sequential.proofs.Waits.{Among, queued_all_from}
use Rattle.sequential.specs.Run.{queued_all, fresh, outcome, run, budget, lines as run_lines}
use Rattle.sequential.specs.declared.event.Event.{Event}
use Rattle.sequential.specs.declared.event.Line.{Line}
use Rattle.sequential.specs.declared.event.Process.{Process}
use Rattle.machine.specs.Calls.{World, Does, does, answers}
use Rattle.machine.specs.Calls.Does.{refuses, acts}
use Rattle.machine.specs.Machine.{Machine, blank, at, freed, oldest, collected, remaining}
use Rattle.machine.specs.Machine
use Rattle.machine.specs.declared.call.Answer.{Answer}
use Rattle.machine.specs.declared.call.Answer.TheVariants.{Refused, Collected}
use Rattle.machine.specs.declared.call.Call.{Call}
use Rattle.machine.specs.declared.call.Call.TheVariants.{Collect}
use Rattle.machine.specs.declared.refusal.Refusal.{Refusal}
use Rattle.law.specs.Law.{before, Remaining, Proper}
use Rattle.law.proofs.Absorb.{none}
use Rattle.law.proofs.Advance.{advance}
use Rattle.law.proofs.Collected.{onward, Kept-one}
use Rattle.law.proofs.History.{History, History-collect, History-collected, collected_some}
use Rattle.law.proofs.Invariant.{lives, events, Active, Kept}
use Rattle.law.proofs.Next.{live_done}
use Rattle.law.proofs.Parts.{live_within}
use Rattle.law.proofs.Picks.{ripe, remaining_none, remaining_some}
use Rattle.law.proofs.Runs.{from_start}
use Rattle.law.proofs.Search.{counted_none}
use Rattle.law.proofs.Steps.{Steps-lines, Steps-bound}

before_append : (t : ℕ) (xs ys : List Line) → before t (xs ++ ys) ≡ before t xs + before t ys
before_append t [] ys = omega arith
before_append t (x ∷ xs) ys =
    let r = before_append t xs ys in
    elim (cases_Bool (ltb x.event.time t)) [ inl h ↦ rw h (omega arith) | inr h ↦ rw h r ]

pub before_all : (t : ℕ) (xs : List Line) → AllByRecursion (λ (x : Line). x.event.time < t) xs → before t xs ≡ length xs
before_all t [] a = refl
before_all t (x ∷ xs) a = rw (lt-ltb _ _ a.0) (ap suc (before_all t xs a.1))

-- a run with nothing waiting before t writes nothing before t
before_none : (W : World) (t k : ℕ) (ps : List Process) (ws : List Event) → ((e : Event) → Among e ws → t ≤ e.time) →
    before t (run_lines W.model W.plan.limits k ps ws) ≡ 0
unfolding run_lines
before_none W t zero ps ws h = refl
before_none W t (suc k) ps [] h = refl
before_none W t (suc k) ps (e ∷ ws) h =
    rw (le-ltb e.time t (h e (inl refl)))
    (before_none W t k _ _ (λ f i. elim (queued_all_from f (listed (outcome W.model W.plan.limits ps e).sends) ws i) [
      | inl j ↦
          (let x =
          (all_among (Fits W.model.size W.plan.limits.end e) (listed (outcome W.model W.plan.limits ps e).sends)
          (applied-sends W.model W.plan.limits e _).fit f j).later in let y = h e (inl refl) in omega arith)
      | inr j ↦ h f (inr j)
    ]))

module _ (W : World) (P : Proper W) where
  -- what the sequential run of the posts writes: the lines collected, and what it writes from where the machine stands
  pub History-lines : {ps : List Event} {ls : List Line} {s : Machine} (Y : History W ps ls s) →
      run W.model W.plan.limits ps ≡ ls ++
      run_lines W.model W.plan.limits (budget W.plan.limits ps - length ls) Y.processes Y.waiting
  unfolding fresh
  History-lines {ps} {ls} {s} Y =
      subst (λ (k : ℕ). run_lines W.model W.plan.limits k (fresh W.model) (queued_all ps []) ≡ ls ++
      run_lines W.model W.plan.limits (budget W.plan.limits ps - length ls) Y.processes Y.waiting)
      enough (Steps-lines Y.steps (budget W.plan.limits ps - length ls))
    where
      bound : length ls ≤ length (queued_all ps []) + slack W.plan.limits.most (fresh W.model)
      bound =
          Steps-bound Y.steps (record {
            size = P.sized.1;
            many = refl;
            capped = λ p. let e = fresh-count W.model p in
                omega arith;
            within = λ e i. (Y.within e i).0;
          })

      enough : length ls + (budget W.plan.limits ps - length ls) ≡ budget W.plan.limits ps
      enough =
          let b = bound in
          let q = length-queued_all ps [] in
          let f = slack_fresh W.model W.plan.limits.most in
          omega arith

  drained : (k : ℕ) (base : ℕ → Process) (s : Machine) → Kept W base none [] s → remaining s ≡ k →
      (length (collected W.lanes W.plan k s).lines ≡ k) × (remaining (collected W.lanes W.plan k s).machine ≡ 0)
  unfolding collected
  drained zero base s K e = (refl, e)
  drained (suc k) base s K e = go (oldest s) refl (drained k)
    where
      Goal : Machine.Collected → Type 0
      Goal r = (length r.lines ≡ suc k) × (remaining r.machine ≡ 0)

      go : (o : Option ℕ) → oldest s ≡ o →
          ((base : ℕ → Process) (s : Machine) → Kept W base none [] s → remaining s ≡ k →
          (length (collected W.lanes W.plan k s).lines ≡ k) × (remaining (collected W.lanes W.plan k s).machine ≡ 0)) →
          Goal (collected W.lanes W.plan (suc k) s)
      go None h f = absurd (let z = remaining_none s h in omega arith)
      go (Some d) h f = rw (collected_some W.lanes W.plan k s d h)
          (let q =
          f (onward base s d) (freed W.lanes W.plan d s) (Kept-one W P base W.lanes d s K h)
          (let z = remaining_some W.lanes W.plan s d h in omega arith) in (ap suc q.0, q.1))

  -- once nothing done is before GVT, nothing that waits is
  none_waits : {ps : List Event} {ls : List Line} {s : Machine} → (Y : History W ps ls s) → remaining s ≡ 0 →
      (e : Event) → Among e Y.waiting → s.gvt ≤ e.time
  unfolding remaining
  none_waits {ps} {ls} {s} Y z e i = go (Y.waits.held e i).0 (Y.waits.held e i).1 (Y.waits.held e i).3
    where
      go : (b : ℕ) → lives s b ≡ true → events s b ≡ e → s.gvt ≤ e.time
      go b l q = let t = ap (λ (x : Event). x.time) q in elim (cases_lt (events s b).time s.gvt) [
        | inr h ↦ omega arith
        | inl h ↦ absurd (both_ways _ (counted_none (ripe s.gvt) s.messages blank z b (live_within s b l))
            (and_from _ _ (live_done (at s b).phase l
            (λ m. let c = (Y.kept.timed.covers b (Active.moves m)).low in omega arith)
            (λ m. let c = (Y.kept.timed.covers b (Active.waits m)).low in omega arith)) (lt-ltb _ _ h)))
      ]

  -- the lines of the sequential run before GVT are those collected and those that remain
  pub counts : {ps : List Event} {ls : List Line} {s : Machine} → History W ps ls s →
      remaining s + length ls ≡ before s.gvt (run W.model W.plan.limits ps)
  counts {ps} {ls} {s} Y = all ∙
      (ap (λ (t : ℕ). before t ((ls ++ L) ++ rest)) same ∙ ap (before s.gvt) (sym (History-lines Z)))
    where
      L : List Line
      L = (collected W.lanes W.plan (remaining s) s).lines

      s₁ : Machine
      s₁ = (collected W.lanes W.plan (remaining s) s).machine

      Z : History W ps (ls ++ L) s₁
      Z = History-collect P (remaining s) Y

      rest : List Line
      rest = run_lines W.model W.plan.limits (budget W.plan.limits ps - length (ls ++ L)) Z.processes Z.waiting

      D : (length L ≡ remaining s) × (remaining s₁ ≡ 0)
      D = drained (remaining s) Y.base s Y.kept refl

      same : s₁.gvt ≡ s.gvt
      same =
          (History-collected W P W.lanes (remaining s) Y.base s Y.processes Y.waiting Y.kept Y.waits Y.stands).gvt_same

      all : remaining s + length ls ≡ before s₁.gvt ((ls ++ L) ++ rest)
      all =
          let a = before_append s₁.gvt (ls ++ L) rest in
          let b = before_all s₁.gvt (ls ++ L) Z.early in
          let c = before_none W s₁.gvt (budget W.plan.limits ps - length (ls ++ L)) Z.processes Z.waiting
          (none_waits Z D.1) in
          let d = length-append ls L in
          let e = D.0 in omega arith

  -- ---- what a collection answers

  pub answered : {s : Machine} {c : Call} {a : Answer (List Line)} {s' : Machine} → Does W s c a s' →
      ((r : Refusal) × (a ≡ Refused r)) ⊎ ((bs : List ℕ) × (a ≡ answers W s c) × (s' ≡ does W s c bs))
  answered (refuses r h) = inl (r, refl)
  answered (acts bs r D) = inr (bs, refl, refl)

  told-remaining : {s : Machine} {k n : ℕ} {ls : List Line} {s' : Machine} → Does W s (Collect k) (Collected ls n) s' →
      n ≡ remaining s'
  unfolding answers does
  told-remaining {s} {k} {n} {ls} {s'} D = elim (answered D) [
    | inl x ↦ absurd (let h = x.1 in let z : ◌≡◌ {A = ℕ} 0 1 = cc in omega arith)
    | inr x ↦
        (let h : Collected ls n ≡ Collected (collected W.lanes W.plan k s).lines
        (remaining (collected W.lanes W.plan k s).machine) = x.1 in
        let i : n ≡ remaining (collected W.lanes W.plan k s).machine = cc h in i ∙ ap remaining (sym x.2))
  ]

  -- it hands out as many lines as were asked for, or none remain
  collected-full : (k : ℕ) (s : Machine) →
      (remaining (collected W.lanes W.plan k s).machine ≡ 0) ⊎ (length (collected W.lanes W.plan k s).lines ≡ k)
  unfolding collected
  collected-full zero s = inr refl
  collected-full (suc k) s = go (oldest s) refl (collected-full k)
    where
      Goal : Machine.Collected → Type 0
      Goal r = (remaining r.machine ≡ 0) ⊎ (length r.lines ≡ suc k)

      go : (o : Option ℕ) → oldest s ≡ o →
          ((s : Machine) → (remaining (collected W.lanes W.plan k s).machine ≡ 0) ⊎
          (length (collected W.lanes W.plan k s).lines ≡ k)) → Goal (collected W.lanes W.plan (suc k) s)
      go None h f = rw (h, collected) (inl (remaining_none s h))
      go (Some d) h f =
          rw (collected_some W.lanes W.plan k s d h)
          (elim (f (freed W.lanes W.plan d s)) [ inl z ↦ inl z | inr e ↦ inr (ap suc e) ])

  told-full : {s : Machine} {k n : ℕ} {ls : List Line} {s' : Machine} → Does W s (Collect k) (Collected ls n) s' →
      (n ≡ 0) ⊎ (length ls ≡ k)
  unfolding answers
  told-full {s} {k} {n} {ls} {s'} D = elim (answered D) [
    | inl x ↦ absurd (let h = x.1 in let z : ◌≡◌ {A = ℕ} 0 1 = cc in omega arith)
    | inr x ↦
        (let h : Collected ls n ≡ Collected (collected W.lanes W.plan k s).lines
        (remaining (collected W.lanes W.plan k s).machine) = x.1 in
        let i : n ≡ remaining (collected W.lanes W.plan k s).machine = cc h in
        let j : ls ≡ (collected W.lanes W.plan k s).lines = cc h in
        elim (collected-full k s) [ inl z ↦ inl (i ∙ z) | inr e ↦ inr (ap length j ∙ e) ])
  ]

  -- what a collection answers as remaining is how many lines of the sequential run are before GVT and not collected
  pub remains_from : {ps : List Event} {ls : List Line} {s s' : Machine} {k n : ℕ} {new : List Line} →
      History W ps ls s → Does W s (Collect k) (Collected new n) s' →
      (n + length (ls ++ new) ≡ before s'.gvt (run W.model W.plan.limits ps)) × ((n ≡ 0) ⊎ (length new ≡ k))
  remains_from {ps} {ls} {s} {s'} {k} {n} {new} H D =
      let A = advance W P D H in
      let e = told-remaining D in
      let c : remaining s' + length (ls ++ new) ≡
      before s'.gvt (run W.model W.plan.limits ps) = rw append-nil at (counts A.history) in
      (omega arith, told-full D)

  pub remains : Remaining W
  remains r k n ls s s' R D = remains_from (from_start W P R).history D

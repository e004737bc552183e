-- A round in which nothing but its reports is called sets GVT to exactly the earliest time of an unsettled message, or
-- to the end.
-- Every floor is the end then, so each report is the end, or the time of a pending message or of one in the inbox; and
-- so is the least of them. Where nothing is unsettled GVT is the end, and every line of the sequential run is earlier
-- than that.
use Rattle.std.proofs.Common.{◌≡◌, ℕ, zero, suc, ◌+◌, ◌<◌, min, Bool, true, false, ◌⊎◌, List, [], ◌∷◌, ◌++◌, length}
use Rattle.std.proofs.Common.{get_or, Some, None, Option, sym, refl, ap, ◌∙◌, subst, inl, inr, arith}
use Rattle.std.proofs.lemmas.List.{get_or-set_same, get_or-set_other}
use Rattle.std.proofs.lemmas.Bool.{cases_eq, cases_lt, both_ways, true≢false}
use Rattle.std.specs.List.{AllByRecursion}
use Rattle.model.specs.Meaning.{listed}
use Rattle.sequential.proofs.Budget.{all_among}
use Rattle.sequential.proofs.Sends.{Fits, applied-sends}
use Rattle.sequential.proofs.Waits.{Among, queued_all_from}
use Rattle.sequential.specs.Run.{run, queued_all, outcome, budget, fresh, lines as run_lines}
use Rattle.sequential.specs.declared.event.Event.{Event}
use Rattle.sequential.specs.declared.event.Line.{Line}
use Rattle.sequential.specs.declared.event.Process.{Process}
use Rattle.machine.specs.Calls.{World, Transcript, Does, Run, refusal, does}
use Rattle.machine.specs.Calls.Does.{refuses, acts}
use Rattle.machine.specs.Calls.Run.{rests, goes}
use Rattle.machine.specs.Machine.{Machine, Worker, blank, idle, at, worker, least_time, inbox_time, least_report}
use Rattle.machine.specs.Machine.{missing, report_of, with_report, telling, closed, reported, opened}
use Rattle.machine.specs.declared.call.Answer.{Answer}
use Rattle.machine.specs.declared.call.Answer.TheVariants.{Opened, Collected}
use Rattle.machine.specs.declared.call.Call.{Call}
use Rattle.machine.specs.declared.call.Call.TheVariants.{Round, Report, Collect}
use Rattle.machine.specs.declared.message.Message.{Message}
use Rattle.law.specs.Law.{posts, collected_lines, before, Unsettled, Attained, Reports, Proper, QuietRoundsAreExact}
use Rattle.law.specs.Law.Unsettled.{moving, waits, ending}
use Rattle.law.proofs.Absorb.{none}
use Rattle.law.proofs.Advance.{advance}
use Rattle.law.proofs.History.{History, History-Steady}
use Rattle.law.proofs.Invariant.{is_live, is_transit_lem, is_pending_lem, events, floors, reports, Kept}
use Rattle.law.proofs.Members.{In}
use Rattle.law.proofs.Picks.{ready, Ready-parts}
use Rattle.law.proofs.Refusals.{report_passed}
use Rattle.law.proofs.Remain.{before_all, answered, remains_from}
use Rattle.law.proofs.Report.{Kept-reported, Steady-reported}
use Rattle.law.proofs.Round.{cleared_floor, cleared_report, Kept-opened, Steady-opened}
use Rattle.law.proofs.Runs.{from_start}

-- ---- the least is attained

least_time_attained : (ok : Message → Bool) (ms : List Message) (t : ℕ) →
    (least_time ok ms t ≡ t) ⊎ ((b : ℕ) × (ok (get_or ms b blank) ≡ true) ×
    ((get_or ms b blank).event.time ≡ least_time ok ms t))
least_time_attained ok [] t = inl refl
least_time_attained ok (m ∷ ms) t = go (ok m) refl (least_time_attained ok ms)
  where
    go : (v : Bool) → ok m ≡ v → ((t : ℕ) →
        (least_time ok ms t ≡ t) ⊎ ((b : ℕ) × (ok (get_or ms b blank) ≡ true) ×
        ((get_or ms b blank).event.time ≡ least_time ok ms t))) →
        (least_time ok (m ∷ ms) t ≡ t) ⊎
        ((b : ℕ) × (ok (get_or (m ∷ ms) b blank) ≡ true) ×
        ((get_or (m ∷ ms) b blank).event.time ≡ least_time ok (m ∷ ms) t))
    go true h f = rw (h, least_time) (elim (f (min t m.event.time)) [
      | inl e ↦ elim (cases_lt m.event.time t) [ inl l ↦ inr (0, h, omega arith) | inr g ↦ inl (omega arith) ]
      | inr x ↦ inr (suc x.0, x.1, x.2)
    ])
    go false h f = rw (h, least_time) (elim (f t) [ inl e ↦ inl e | inr x ↦ inr (suc x.0, x.1, x.2) ])

inbox_time_attained : (s : Machine) (bs : List ℕ) (t : ℕ) →
    (inbox_time s.messages bs t ≡ t) ⊎ ((b : ℕ) × In b bs × ((events s b).time ≡ inbox_time s.messages bs t))
inbox_time_attained s [] t = inl refl
inbox_time_attained s (c ∷ cs) t = elim (inbox_time_attained s cs (min t (events s c).time)) [
  | inl e ↦ elim (cases_lt (events s c).time t) [ inl l ↦ inr (c, inl refl, omega arith) | inr g ↦ inl (omega arith) ]
  | inr x ↦ inr (x.0, inr x.1, x.2)
]

least_report_attained : (xs : List Worker) (k t : ℕ) →
    (least_report xs k t ≡ t) ⊎ ((v : ℕ) × ((get_or xs v idle).report ≡ Some (least_report xs k t)))
least_report_attained xs zero t = inl refl
least_report_attained [] (suc k) t = inl refl
least_report_attained (x ∷ xs) (suc k) t = go x.report refl (least_report_attained xs k)
  where
    go : (o : Option ℕ) → x.report ≡ o →
        ((t : ℕ) → (least_report xs k t ≡ t) ⊎ ((v : ℕ) × ((get_or xs v idle).report ≡ Some (least_report xs k t)))) →
        (least_report (x ∷ xs) (suc k) t ≡ t) ⊎
        ((v : ℕ) × ((get_or (x ∷ xs) v idle).report ≡ Some (least_report (x ∷ xs) (suc k) t)))
    go None h f = rw (h, least_report) (elim (f t) [ inl e ↦ inl e | inr y ↦ inr (suc y.0, y.1) ])
    go (Some r) h f = rw (h, least_report) (elim (f (min t r)) [
      | inl e ↦ elim (cases_lt r t) [
        | inl l ↦ inr (0, ap Some (let q : r ≡ least_report xs k (min t r) = omega arith in q))
        | inr g ↦ inl (omega arith)
      ]
      | inr y ↦ inr (suc y.0, y.1)
    ])

-- ---- a quiet round

report-does : (W : World) (s : Machine) (w : ℕ) (bs : List ℕ) → reported W.plan w s ≡ does W s (Report w) bs
unfolding does
report-does W s w bs = refl

round-does : (W : World) (s : Machine) (bs : List ℕ) → opened W.plan s ≡ does W s Round bs
unfolding does
round-does W s bs = refl

module _ (W : World) (P : Proper W) where
  -- in an open round the floors of workers that have not reported are the end, and what was reported is attained; in a
  -- closed one GVT is
  record Quiet (s : Machine) : Type 0 where
    outer : s.floor ≡ W.plan.limits.end
    untold : s.rounding ≡ true → (v : ℕ) → v < W.plan.workers → reports s v ≡ None → floors s v ≡ W.plan.limits.end
    told' : s.rounding ≡ true → (v t : ℕ) → reports s v ≡ Some t → Attained W s t
    over : s.rounding ≡ false → Attained W s s.gvt

  report_attained : {base : ℕ → Process} {s : Machine} → Kept W base none [] s → (w : ℕ) →
      floors s w ≡ W.plan.limits.end → Attained W s (report_of W.plan w s)
  unfolding report_of
  report_attained {base} {s} K w e = elim (inbox_time_attained s (worker s w).inbox start') [
    | inr x ↦ inr (x.0, due x.0 x.1, x.2)
    | inl q ↦ elim (least_time_attained (ready W.plan w) s.messages (min W.plan.limits.end (floors s w))) [
      | inl z ↦ inl (q ∙ (z ∙ (let m : min W.plan.limits.end (floors s w) ≡ W.plan.limits.end = omega arith in m)))
      | inr x ↦ inr (x.0, waits (is_pending_lem _ (Ready-parts W.plan w (at s x.0) x.1).0), x.2 ∙ sym q)
    ]
  ]
    where
      start' : ℕ
      start' = least_time (ready W.plan w) s.messages (min W.plan.limits.end (floors s w))

      due : (b : ℕ) → In b (worker s w).inbox → Unsettled (at s b)
      due b i = elim (K.boxed.due w b i) [
        | inl t ↦ moving (is_transit_lem _ t)
        | inr g ↦ ending (λ f. true≢false (sym (K.boxed.ends b g) ∙ ap is_live f)) g
      ]

  Quiet-with_report : {base : ℕ → Process} {s : Machine} → Kept W base none [] s → Quiet s → (w : ℕ) →
      w < W.plan.workers →
      s.rounding ≡ true → reports s w ≡ None → Quiet (with_report W.plan w s)
  unfolding with_report
  Quiet-with_report {base} {s} K Q w l o z = record {
    outer = Q.outer;
    untold = λ _ v i e. elim (cases_eq v w) [
      | inl k ↦
          absurd (let h =
          ap (λ (x : Worker). x.report) (get_or-set_same s.workers w
          (telling (report_of W.plan w s) (worker s w)) idle within) in
          let g : reports (with_report W.plan w s) w ≡ None = rw k at e in grind arith)
      | inr n ↦
          ap (λ (x : Worker). x.floor) (get_or-set_other s.workers w v _ idle n) ∙
          Q.untold o v i (sym (ap (λ (x : Worker). x.report) (get_or-set_other s.workers w v _ idle n)) ∙ e)
    ];
    told' = λ _ v t e. elim (cases_eq v w) [
      | inl k ↦
          (let h =
          ap (λ (x : Worker). x.report) (get_or-set_same s.workers w
          (telling (report_of W.plan w s) (worker s w)) idle within) in
          let g : reports (with_report W.plan w s) w ≡ Some t = rw k at e in
          let q : report_of W.plan w s ≡ t = cc in rw (← q) (report_attained K w (Q.untold o w l z)))
      | inr n ↦ Q.told' o v t (sym (ap (λ (x : Worker). x.report) (get_or-set_other s.workers w v _ idle n)) ∙ e)
    ];
    over = λ f. absurd (both_ways _ f o);
  }
    where
      within : w < length s.workers
      within = let i = W.plan.staffed.1 in let j = K.sized.workers in omega arith

  Quiet-closed : {s : Machine} → s.rounding ≡ true → Quiet s →
      Quiet (closed (least_report s.workers W.plan.workers s.floor) s)
  Quiet-closed {s} o Q = record {
    outer = Q.outer;
    untold = λ f. absurd (both_ways _ refl f);
    told' = λ f. absurd (both_ways _ refl f);
    over =
        λ _. elim (least_report_attained s.workers W.plan.workers s.floor)
        [ inl e ↦ inl (e ∙ Q.outer) | inr x ↦ Q.told' o x.0 _ x.1 ];
  }

  Quiet-reported : {base : ℕ → Process} {s : Machine} → Kept W base none [] s → Quiet s → (w : ℕ) → w < W.plan.workers →
      s.rounding ≡ true → reports s w ≡ None → Quiet (reported W.plan w s)
  unfolding reported with_report
  Quiet-reported {base} {s} K Q w l o z = go (missing (with_report W.plan w s).workers W.plan.workers) refl
    where
      Q' : Quiet (with_report W.plan w s)
      Q' = Quiet-with_report K Q w l o z

      go : (k : ℕ) → missing (with_report W.plan w s).workers W.plan.workers ≡ k → Quiet (reported W.plan w s)
      go zero h = rw (h, reported) (Quiet-closed o Q')
      go (suc k) h = rw (h, reported) Q'

  Quiet-opened : {base : ℕ → Process} {s : Machine} → Kept W base none [] s → Quiet (opened W.plan s)
  unfolding opened
  Quiet-opened {base} {s} K = record {
    outer = refl;
    untold =
        λ _ v l _. cleared_floor W.plan.limits.end s.workers v
        (let i = W.plan.staffed.1 in let j = K.sized.workers in omega arith);
    told' = λ _ v t e. absurd (let h = cleared_report W.plan.limits.end s.workers v in grind arith);
    over = λ f. absurd (both_ways _ f refl);
  }

  -- a report leaves the history as it was
  Quiet-call : {ps : List Event} {ls : List Line} {s : Machine} {c : Call} {a : Answer (List Line)} {s' : Machine} →
      Does W s c a s' → (w : ℕ) → c ≡ Report w → History W ps ls s → Quiet s → History W ps ls s' × Quiet s'
  Quiet-call (refuses n h) w e H Q = (H, Q)
  Quiet-call {ps} {ls} {s} {c} (acts bs r D) w e H Q =
      subst (λ (x : Machine). History W ps ls x × Quiet x) (does_report ∙ ap (λ (x : Call). does W s x bs) (sym e)) (
        History-Steady H (Kept-reported W P H.base w s f.0 f.1 f.2 H.kept)
            (Steady-reported W P H.base w s f.0 f.1 f.2 H.kept),
        Quiet-reported H.kept Q w f.0 f.1 f.2,
      )
    where
      f : (w < W.plan.workers) × (s.rounding ≡ true) × (reports s w ≡ None)
      f = report_passed W s w (ap (refusal W s) (sym e) ∙ r)

      does_report : reported W.plan w s ≡ does W s (Report w) bs
      does_report = report-does W s w bs

  Quiet-run : {ps : List Event} {ls : List Line} {s s' : Machine} {r : Transcript} → Run W s r s' → Reports r →
      History W ps ls s → Quiet s → History W ps ls s' × Quiet s'
  Quiet-run rests h H Q = (H, Q)
  Quiet-run (goes d R) h H Q = let q = Quiet-call d h.0.0 h.0.1 H Q in Quiet-run R h.1 q.0 q.1

  -- the round is opened first
  Quiet-round : {ps : List Event} {ls : List Line} {s s' : Machine} {t : Transcript} → Run W s t s' →
      (n : ℕ) (round : Transcript) → t ≡ (Round, Opened n) ∷ round → Reports round → History W ps ls s →
      History W ps ls s' × Quiet s'
  Quiet-round rests n round e h H = absurd (let z : ◌≡◌ {A = ℕ} 0 1 = cc in omega arith)
  Quiet-round {ps} {ls} {s} {s'} (goes {s₁ = s₁} {c = c} {a = a} {r = r} d R) n round e h H = elim (answered W P d) [
    | inl x ↦
        absurd (let q : a ≡ Opened n = ap (λ (y : Call × Answer (List Line)). y.1) (made e) in let y = x.1 in
        let z : ◌≡◌ {A = ℕ} 0 1 = cc in omega arith)
    | inr x ↦ (
        let k : c ≡ Round = ap (λ (y : Call × Answer (List Line)). y.0) (made e) in
        let o : opened W.plan s ≡ s₁ = round-does W s x.0 ∙ (ap (λ (y : Call). does W s y x.0) (sym k) ∙ sym x.2) in
        let y : History W ps ls s₁ × Quiet s₁ = subst (λ (v : Machine). History W ps ls v × Quiet v) o
        (History-Steady H (Kept-opened W P H.base s H.kept) (Steady-opened W.plan H.base s), Quiet-opened H.kept) in
        Quiet-run R (let q : r ≡ round = cc in rw q h) y.0 y.1)
  ]
    where
      made : ◌≡◌ {A = Transcript} ((c, a) ∷ r) ((Round, Opened n) ∷ round) →
          ◌≡◌ {A = Call × Answer (List Line)} (c, a) (Round, Opened n)
      made e = cc

-- ---- the whole run is earlier than the end

lines_early : (W : World) (k : ℕ) (ps : List Process) (ws : List Event) →
    ((e : Event) → Among e ws → e.time < W.plan.limits.end) →
    AllByRecursion (λ (x : Line). x.event.time < W.plan.limits.end) (run_lines W.model W.plan.limits k ps ws)
unfolding run_lines
lines_early W zero ps ws h = tt
lines_early W (suc k) ps [] h = tt
lines_early W (suc k) ps (e ∷ ws) h = (
  h e (inl refl),
  lines_early W k _ _ (λ f i. elim (queued_all_from f (listed (outcome W.model W.plan.limits ps e).sends) ws i) [
    | inl j ↦
        (all_among (Fits W.model.size W.plan.limits.end e) (listed (outcome W.model W.plan.limits ps e).sends)
        (applied-sends W.model W.plan.limits e _).fit f j).within
    | inr j ↦ h f (inr j)
  ]),
)

pub quiet_rounds_are_exact : QuietRoundsAreExact
quiet_rounds_are_exact W P r round n s s' R R' h o = (Q.over o, complete)
  where
    both : History W (posts r) (collected_lines r) s' × Quiet W P s'
    both = Quiet-round W P R' n round refl h (from_start W P R).history

    Q : Quiet W P s'
    Q = both.1

    complete : ((b : ℕ) → Unsettled (at s' b) → ⊥) → (k m : ℕ) (ls : List Line) (s'' : Machine) →
        Does W s' (Collect k) (Collected ls m) s'' →
        m + length (collected_lines r ++ ls) ≡ length (run W.model W.plan.limits (posts r))
    complete none_left k m ls s'' D =
        let c = remains_from W P both.0 D in
        let A = advance W P D both.0 in
        let i = A.gvt in
        let j = A.history.kept.ended.gvt_ends in
        let g : s'.gvt ≡ W.plan.limits.end = elim (Q.over o) [ inl e ↦ e | inr x ↦ absurd (none_left x.0 x.1) ] in
        let e : s''.gvt ≡ W.plan.limits.end = omega arith in
        let b : before s''.gvt (run W.model W.plan.limits (posts r)) ≡
        length (run W.model W.plan.limits (posts r)) = rw e
        (before_all W.plan.limits.end (run W.model W.plan.limits (posts r))
        (lines_early W (budget W.plan.limits (posts r)) (fresh W.model) (queued_all (posts r) [])
        (λ f q. (both.0.within f q).1))) in
        c.0 ∙ b

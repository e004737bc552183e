-- Two runs of the same calls answer the same, whichever buffers they draw: their machines differ in the names of
-- buffers only, and no answer tells a name.
use Rattle.std.proofs.Common.{◌≡◌, ℕ, ◌+◌, min, true, not, List, [], ◌∷◌, length, get_or, drop, is_some, Some, None}
use Rattle.std.proofs.Common.{Option, sym, refl, ap, ◌∙◌, subst, ap₂, inl, inr, arith}
use Rattle.std.proofs.lemmas.Bool.{cases_Bool}
use Rattle.model.specs.Meaning.{listed, many}
use Rattle.model.specs.declared.reaction.Few.{Few}
use Rattle.pool.specs.Lanes.{place_at, lent}
use Rattle.pool.specs.declared.place.Place.TheVariants.{Lane}
use Rattle.sequential.proofs.Keys.{earlier-total, IsStrictWeakOrder-earlier}
use Rattle.sequential.specs.Events.{earlier, outside}
use Rattle.sequential.specs.declared.event.Event.{Event}
use Rattle.sequential.specs.declared.event.Line.{Line}
use Rattle.sequential.specs.declared.event.Outcome.{Outcome}
use Rattle.sequential.specs.declared.event.Process.{Process}
use Rattle.machine.specs.Calls.{World, Transcript, DrawnAll, Does, Run, enough, draw_lanes, post_lane, lacks_buffers}
use Rattle.machine.specs.Calls.{refusal, lanes_drawn}
use Rattle.machine.specs.Calls.{does, answers}
use Rattle.machine.specs.Calls.Does.{refuses, acts}
use Rattle.machine.specs.Calls.Run.{rests, goes}
use Rattle.machine.specs.Machine.{Machine, Worker, at, worker, first, next, sent, with_outside, started, started_with}
use Rattle.machine.specs.Machine.{absorbed, reported, collected}
use Rattle.machine.specs.declared.call.Answer.{Answer}
use Rattle.machine.specs.declared.call.Answer.TheVariants.{Refused, Posted, Stepped, Told, Collected}
use Rattle.machine.specs.declared.call.Call.{Call}
use Rattle.machine.specs.declared.call.Call.TheVariants.{Post, Absorb, Step, Round, Report, Collect}
use Rattle.machine.specs.declared.message.Message.{Message}
use Rattle.law.specs.Law.{posts, sends, annihilations, collected_lines, Proper, start, calls_in, AnswersFixedByCalls}
use Rattle.law.proofs.Absorb.{none}
use Rattle.law.proofs.Advance.{advance}
use Rattle.law.proofs.Alike.{carried, first_map, Alike, worker_there, Alike-outside}
use Rattle.law.proofs.AlikeAbsorb.{Absorbs, absorbed-Alike}
use Rattle.law.proofs.AlikeCollect.{Collects, collected-Alike, remaining-Alike}
use Rattle.law.proofs.AlikeDraw.{Closed, f₁, g₁, sent-Alike, doing-Alike, stepped-Alike}
use Rattle.law.proofs.AlikeReport.{opened-Alike, missing-Alike, reported-Alike}
use Rattle.law.proofs.AlikeSearch.{foremost-Alike}
use Rattle.law.proofs.AlikeUndo.{Sound}
use Rattle.law.proofs.Drawn.{DrawnAll-first}
use Rattle.law.proofs.History.{History}
use Rattle.law.proofs.Invariant.{is_live, lives, dones, Kept}
use Rattle.law.proofs.Law.{law}
use Rattle.law.proofs.Members.{In}
use Rattle.law.proofs.Picks.{ready, Ready-parts, next_picks, pending_stands}
use Rattle.std.proofs.lemmas.Option.{none-some}
use Rattle.law.proofs.Start.{off, Kept-started, History-started}

module _ (W : World) (P : Proper W) where
  -- ---- one call

  module _ (base : ℕ → Process) {f g : ℕ → ℕ} {s s' : Machine} (K : Kept W base none [] s) (A : Alike f g s s') where
    closed : Closed s
    closed = record {
      mail = λ w c i. elim (K.boxed.due w c i) [ inl t ↦ K.boxed.moves c t | inr t ↦ K.boxed.ends c t ];
      kin =
          λ d c l i. elim (cases_Bool (dones s d)) [
            | inl t ↦ (K.sending.lasting d c t i).0
            | inr n ↦
                absurd (subst (λ (fs : Few ℕ). In c (listed fs)) (A.named.quiet d l n) i)
          ];
    }

    sound : Sound s
    sound = record { separate = K.keyed.arrived; kin = closed.kin }

    next-Alike : (w : ℕ) {o : Option ℕ} → next W.plan w s ≡ o → next W.plan w s' ≡ carried f o
    next-Alike w h =
        foremost-Alike A sound.separate (ready W.plan w) earlier IsStrictWeakOrder-earlier earlier-total
        (λ m. refl) refl (λ m h. pending_stands m (Ready-parts W.plan w m h).0) ∙ ap (carried f) h

    next_lives : (w b : ℕ) → next W.plan w s ≡ Some b → lives s b ≡ true
    next_lives w b h = (pending_stands (at s b) (Ready-parts W.plan w (at s b) (next_picks W.plan w s b h).passes).0).0

    first-Alike : (w : ℕ) → first (worker s' w).inbox ≡ carried f (first (worker s w).inbox)
    first-Alike w = ap (λ (x : Worker). first x.inbox) (worker_there A w) ∙ first_map f (worker s w).inbox

    some_carried : (o : Option ℕ) → is_some (carried f o) ≡ is_some o
    some_carried None = refl
    some_carried (Some b) = refl

    enough-Alike : (all ls : List ℕ) → enough s'.places all ls ≡ enough s.places all ls
    enough-Alike all [] = refl
    enough-Alike all (l ∷ ls) = rw (A.pooled.lanes l, enough-Alike all ls) refl

    lanes_drawn-Alike : (c : Call) → lanes_drawn W s' c ≡ lanes_drawn W s c
    unfolding lanes_drawn
    lanes_drawn-Alike (Post p t x) = refl
    lanes_drawn-Alike (Absorb w) = refl
    lanes_drawn-Alike (Step w) = go (next W.plan w s) refl
      where
        go : (o : Option ℕ) → next W.plan w s ≡ o → lanes_drawn W s' (Step w) ≡ lanes_drawn W s (Step w)
        go None h = rw (h, next-Alike w h, lanes_drawn) refl
        go (Some b) h =
            rw (h, next-Alike w h, lanes_drawn) (ap (λ (o : Outcome). draw_lanes W w (listed o.sends))
            (doing-Alike A closed W w b (next_lives w b h)))
    lanes_drawn-Alike Round = refl
    lanes_drawn-Alike (Report w) = refl
    lanes_drawn-Alike (Collect k) = refl

    lacks_buffers-Alike : (c : Call) → lacks_buffers W s' c ≡ lacks_buffers W s c
    lacks_buffers-Alike c =
        ap not (ap (λ (ls : List ℕ). enough s'.places ls ls) (lanes_drawn-Alike c)
        ∙ enough-Alike (lanes_drawn W s c) (lanes_drawn W s c))

    refusal-Alike : (c : Call) → refusal W s' c ≡ refusal W s c
    unfolding refusal
    refusal-Alike (Post p t x) = rw (lacks_buffers-Alike (Post p t x), A.gvt, A.posted) refl
    refusal-Alike (Absorb w) = rw (first-Alike w, some_carried (first (worker s w).inbox)) refl
    refusal-Alike (Step w) = rw (lacks_buffers-Alike (Step w), next-Alike w refl, some_carried (next W.plan w s)) refl
    refusal-Alike Round = rw A.rounding refl
    refusal-Alike (Report w) = rw (A.rounding, ap (λ (x : Worker). x.report) (worker_there A w)) refl
    refusal-Alike (Collect k) = refl

    absorbs : (w : ℕ) → Absorbs f g (absorbed W.lanes W.plan w s) (absorbed W.lanes W.plan w s')
    absorbs w = absorbed-Alike W.lanes W.plan w s s' sound (closed.mail w) A

    reports-Alike : (w : ℕ) → Alike f g (reported W.plan w s) (reported W.plan w s')
    reports-Alike w = reported-Alike W.plan w (closed.mail w) A

    collects : (k : ℕ) → Collects f g (collected W.lanes W.plan k s) (collected W.lanes W.plan k s')
    collects k = collected-Alike W.lanes W.plan k s s' sound.separate A

    answers-Alike : (c : Call) → answers W s' c ≡ answers W s c
    unfolding answers
    answers-Alike (Post p t x) = ap Posted A.posted
    answers-Alike (Absorb w) = rw ((absorbs w).annihilated, (absorbs w).undone, (absorbs w).cancelled) refl
    answers-Alike (Step w) = go (next W.plan w s) refl
      where
        go : (o : Option ℕ) → next W.plan w s ≡ o → answers W s' (Step w) ≡ answers W s (Step w)
        go None h = rw (h, next-Alike w h, answers) refl
        go (Some b) h =
            rw (h, next-Alike w h, answers)
            (ap₂ (λ (m : Message) (o : Outcome). Stepped m.event.time m.event.process (many o.sends))
            (A.named.is b (next_lives w b h)) (doing-Alike A closed W w b (next_lives w b h)))
    answers-Alike Round = refl
    answers-Alike (Report w) =
        ap₂ (λ (n v : ℕ). Told n v) (missing-Alike (reports-Alike w) W.plan.workers) (reports-Alike w).gvt
    answers-Alike (Collect k) =
        ap₂ (λ (ls : List Line) (n : ℕ). Collected ls n) (collects k).lines
        (remaining-Alike W.lanes W.plan (collected W.lanes W.plan k s).machine (collected W.lanes W.plan k s').machine
        (collects k).separate (collects k).alike)

    event_of : ℕ → ℕ → ℕ → ℕ → Event
    event_of p t x n = record { time = t; process = p; sender = outside; number = n; payload = x }

    posts-Alike : (p t x b b' l : ℕ) → place_at s.places b ≡ Lane l → place_at s'.places b' ≡ Lane l → (r r' : List ℕ) →
        (f' : ℕ → ℕ) × (g' : ℕ → ℕ) × Alike f' g' (does W s (Post p t x) (b ∷ r)) (does W s' (Post p t x) (b' ∷ r'))
    unfolding does event_of
    posts-Alike p t x b b' l h h' r r' = (
      f₁ A closed b b' l h h' e,
      g₁ A closed b b' l h h' e,
      subst (Alike (f₁ A closed b b' l h h' e) (g₁ A closed b b' l h h' e) (does W s (Post p t x) (b ∷ r)))
          (sym (ap₂ (λ (n v : ℕ). with_outside (n + 1) (min v t) (sent W.plan b' (event_of p t x n) s')) A.posted
          A.floor))
          (Alike-outside (sent-Alike A closed b b' l h h' e W.plan) (s.posted + 1) (min s.floor t)),
    )
      where
        e : Event
        e = event_of p t x s.posted

    does-Alike : (c : Call) (bs bs' : List ℕ) → DrawnAll s.places (lanes_drawn W s c) bs →
        DrawnAll s'.places (lanes_drawn W s c) bs' →
        (f' : ℕ → ℕ) × (g' : ℕ → ℕ) × Alike f' g' (does W s c bs) (does W s' c bs')
    unfolding lanes_drawn does
    does-Alike (Post p t x) bs bs' D D' = let d = DrawnAll-first D in let d' = DrawnAll-first D' in
        rw (d.2, d'.2) (posts-Alike p t x d.0 d'.0 (post_lane W p) d.3 d'.3 d.1 d'.1)
    does-Alike (Absorb w) bs bs' D D' = (f, g, (absorbs w).alike)
    does-Alike (Step w) bs bs' D D' = go (next W.plan w s) refl
      where
        go : (o : Option ℕ) → next W.plan w s ≡ o →
            (f' : ℕ → ℕ) × (g' : ℕ → ℕ) × Alike f' g' (does W s (Step w) bs) (does W s' (Step w) bs')
        go None h = rw (h, next-Alike w h, does) (f, g, A)
        go (Some b) h =
            rw (h, next-Alike w h, does) (stepped-Alike A closed W w b (next_lives w b h) (rw (h, lanes_drawn) at D)
            (rw (h, lanes_drawn) at D'))
    does-Alike Round bs bs' D D' = (f, g, opened-Alike A W.plan)
    does-Alike (Report w) bs bs' D D' = (f, g, reports-Alike w)
    does-Alike (Collect k) bs bs' D D' = (f, g, (collects k).alike)

    call-Alike : {c : Call} {a a' : Answer (List Line)} {t t' : Machine} → Does W s c a t → Does W s' c a' t' →
        (a ≡ a') × ((f' : ℕ → ℕ) × (g' : ℕ → ℕ) × Alike f' g' t t')
    call-Alike {c} (refuses n h) (refuses n' h') =
        (let e = refusal-Alike c in let z : n ≡ n' = cc in ap Refused z, (f, g, A))
    call-Alike {c} (refuses n h) (acts bs' r' D') = absurd (none-some n (sym r' ∙ (refusal-Alike c ∙ h)))
    call-Alike {c} (acts bs r D) (refuses n' h') = absurd (none-some n' (sym r ∙ (sym (refusal-Alike c) ∙ h')))
    call-Alike {c} (acts bs r D) (acts bs' r' D') =
        (sym (answers-Alike c), does-Alike c bs bs' D (rw (lanes_drawn-Alike c) at D'))

  -- ---- runs

  fixed_run : {ps : List Event} {ls : List Line} (f g : ℕ → ℕ) {s s' z z' : Machine} {r r' : Transcript} → Run W s r z →
      Run W s' r' z' → calls_in r ≡ calls_in r' → History W ps ls s → Alike f g s s' → (r ≡ r') × (z.gvt ≡ z'.gvt)
  fixed_run f g rests rests e H A = (refl, sym A.gvt)
  fixed_run f g rests (goes d' R') e H A = absurd (let n = ap length e in omega arith)
  fixed_run f g (goes d R) rests e H A = absurd (let n = ap length e in omega arith)
  fixed_run f g (goes {c = c} {a = a} {r = r} d R) (goes {s = s'} {s₁ = t'} {c = c'} {a = a'} {r = r'} d' R') e H A =
      let q : c ≡ c' = ap (λ (xs : List Call). get_or xs 0 Round) e in
      let x = call-Alike H.base H.kept A d (subst (λ (y : Call). Does W s' y a' t') (sym q) d') in
      let i = fixed_run x.1.0 x.1.1 R R' (ap (drop 1) e) (advance W P d H).history x.1.2 in (
        ap₂ (λ (y : Call × Answer (List Line)) (ys : Transcript). y ∷ ys)
            (ap₂ (λ (y : Call) (v : Answer (List Line)). let w : Call × Answer (List Line) = (y, v) in w) q x.0) i.0,
        i.1,
      )

  Alike-start : Alike (λ b. b) (λ b. b) (start W) (start W)
  unfolding started started_with
  Alike-start = record {
    named = record {
      fore = λ b h. refl;
      back = λ b h. (h, refl);
      is = λ b h. absurd (off W P (λ m. is_live m.phase) refl b h);
      quiet = λ b h. absurd (off W P (λ m. is_live m.phase) refl b h);
    };
    pooled = record { lanes = λ l. refl; out = λ b h. absurd (off W P (λ m. is_live m.phase) refl b h) };
    workers = refl;
    sized = sizes;
    sized' = sizes;
    processes = refl;
    posted = refl;
    floor = refl;
    rounding = refl;
    gvt = refl;
  }
    where
      sizes : length (start W).places ≡ length (start W).messages
      sizes = (Kept-started W P).sized.places ∙ sym (Kept-started W P).sized.messages

pub answers_fixed : AnswersFixedByCalls
answers_fixed W P r r' s s' R R' e = (x.0, x.1, out)
  where
    x : (r ≡ r') × (s.gvt ≡ s'.gvt)
    x = fixed_run W P (λ b. b) (λ b. b) R R' e (History-started W P) (Alike-start W P)

    -- the law of both tells how many buffers are out
    out : lent s.places ≡ lent s'.places
    out =
        let h = (law W P r s R).buffers in
        let h' : lent s'.places + (annihilations r + length (collected_lines r)) ≡
        length (posts r) + sends r = rw x.0 (law W P r' s' R').buffers in
        omega arith

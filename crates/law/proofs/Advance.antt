-- One call keeps the history, does not lower GVT, numbers a post by how many were accepted before it, and moves as many
-- buffers as its answer tells.
use Rattle.std.proofs.Common.{◌≡◌, ℕ, ◌+◌, ◌<◌, ◌≤◌, List, [], ◌++◌, length, Some, None, refl, ap, arith}
use Rattle.std.proofs.lemmas.List.{append-nil, length-map}
use Rattle.model.specs.Meaning.{listed}
use Rattle.pool.specs.Lanes.{lent}
use Rattle.sequential.proofs.Sends.{Numbered, length-listed}
use Rattle.sequential.specs.declared.event.Event.{Event}
use Rattle.sequential.specs.declared.event.Line.{Line}
use Rattle.sequential.specs.declared.event.Process.{Process}
use Rattle.machine.specs.Calls.{World, DrawnAll, Does, refusal, lanes_drawn, does, answers, post_of, draw_lanes}
use Rattle.machine.specs.Calls.Does.{refuses, acts}
use Rattle.machine.specs.Machine.{Machine, few, next, doing, sent, enter, stepped}
use Rattle.machine.specs.declared.call.Answer.{Answer}
use Rattle.machine.specs.declared.call.Answer.TheVariants.{Refused}
use Rattle.machine.specs.declared.call.Call.{Call}
use Rattle.machine.specs.declared.call.Call.TheVariants.{Post, Absorb, Step, Round, Report, Collect}
use Rattle.machine.specs.declared.plan.Plan.{Plan}
use Rattle.machine.specs.declared.refusal.Refusal.{Refusal}
use Rattle.law.specs.Law.{post_told, sends_told, annihilations_told, lines_told, Proper}
use Rattle.law.proofs.Absorb.{none, Kept-absorbed}
use Rattle.law.proofs.Buffers.{sent_out, sent_all_out, stepped-places, opened-places, reported_places, collected_back}
use Rattle.law.proofs.Drawn.{DrawnAll-first, DrawnAll-few}
use Rattle.law.proofs.History.{History, History-Steady, History-collect, History-post, History-collected}
use Rattle.law.proofs.History.{collected-posted}
use Rattle.law.proofs.Invariant.{Steady}
use Rattle.law.proofs.Refusals.{post_passed, absorb_passed, step_passed, report_passed}
use Rattle.law.proofs.Report.{Kept-reported, Steady-reported}
use Rattle.law.proofs.Round.{Kept-opened, Steady-opened}
use Rattle.law.proofs.Step.{Kept-stepped, Steady-stepped}

-- from a machine whose history is the posts ps and the lines ls, the call c with the answer a leads to s'
pub record Advance (W : World) (ps : List Event) (ls : List Line) (s : Machine) (c : Call) (a : Answer (List Line))
    (s' : Machine) : Type 0 where
  pub history : History W (ps ++ post_told c a) (ls ++ lines_told a) s'
  pub gvt : s.gvt ≤ s'.gvt
  pub numbered : Numbered s.posted (post_told c a)
  pub posted : s'.posted ≡ s.posted + length (post_told c a)
  pub capped : s.posted ≤ W.plan.limits.most → s'.posted ≤ W.plan.limits.most
  pub buffers : lent s'.places + (annihilations_told a + length (lines_told a)) ≡
      lent s.places + (length (post_told c a) + sends_told a)

-- a refusal tells of no post
refused_post : (c : Call) (r : Refusal) → post_told c (Refused r) ≡ []
refused_post (Post p t x) r = refl
refused_post (Absorb w) r = refl
refused_post (Step w) r = refl
refused_post Round r = refl
refused_post (Report w) r = refl
refused_post (Collect k) r = refl

sent-gvt : (u : Plan) (b : ℕ) (e : Event) (s : Machine) → (sent u b e s).gvt ≡ s.gvt
unfolding sent enter
sent-gvt u b e s = refl

module _ (W : World) (P : Proper W) where
  -- nothing told
  same : {ps : List Event} {ls : List Line} {s : Machine} → History W ps ls s → History W (ps ++ []) (ls ++ []) s
  same {ps} {ls} H = rw (append-nil ps, append-nil ls) H

  -- nothing posted
  unmoved : {base : ℕ → Process} {s s' : Machine} → Steady base s s' → s'.posted ≡ s.posted + 0
  unmoved X = let e = X.posted in omega arith

  under : {base : ℕ → Process} {s s' : Machine} → Steady base s s' → s.posted ≤ W.plan.limits.most →
      s'.posted ≤ W.plan.limits.most
  under X l = let e = X.posted in omega arith

  module _ (ps : List Event) (ls : List Line) (s : Machine) (H : History W ps ls s) where
    Advance-post : (p t x : ℕ) (bs : List ℕ) → refusal W s (Post p t x) ≡ None →
        DrawnAll s.places (lanes_drawn W s (Post p t x)) bs →
        Advance W ps ls s (Post p t x) (answers W s (Post p t x)) (does W s (Post p t x) bs)
    unfolding lanes_drawn does answers
    Advance-post p t x bs r D = let d = DrawnAll-first D in rw d.2 (record {
      history = rw append-nil (History-post W P ps ls s H p t x d.0 _ f.0 f.1 f.2 d.3);
      gvt = let e = sent-gvt W.plan d.0 (post_of W s p t x) s in omega arith;
      numbered = (refl, tt);
      posted = refl;
      capped = λ l. let n = f.3 in omega arith;
      buffers = let e = sent_out W P W.plan d.0 _ (post_of W s p t x) s d.3 in omega arith;
    })
      where
        f : (p < W.model.size) × (s.gvt ≤ t) × (t < W.plan.limits.end) × (s.posted ≡ W.plan.limits.most → ⊥)
        f = post_passed W s p t x r

    Advance-absorb : (w : ℕ) → refusal W s (Absorb w) ≡ None → (bs : List ℕ) →
        Advance W ps ls s (Absorb w) (answers W s (Absorb w)) (does W s (Absorb w) bs)
    unfolding does answers
    Advance-absorb w r bs = let k = Kept-absorbed W P H.base W.lanes w s (absorb_passed W s w r) H.kept in record {
      history = same (History-Steady H k.0 k.1);
      gvt = k.1.gvt;
      numbered = tt;
      posted = unmoved k.1;
      capped = under k.1;
      buffers = let e = k.2 in omega arith;
    }

    Advance-step : (w : ℕ) (bs : List ℕ) → refusal W s (Step w) ≡ None →
        DrawnAll s.places (lanes_drawn W s (Step w)) bs →
        Advance W ps ls s (Step w) (answers W s (Step w)) (does W s (Step w) bs)
    unfolding lanes_drawn does answers
    Advance-step w bs r D = go f.1.0 f.1.1
      where
        f : (w < W.plan.workers) × ((b : ℕ) × (next W.plan w s ≡ Some b))
        f = step_passed W s w r

        go : (b : ℕ) → next W.plan w s ≡ Some b →
            Advance W ps ls s (Step w) (answers W s (Step w)) (does W s (Step w) bs)
        go b h = rw (h, does, answers) (record {
          history = same (History-Steady H (Kept-stepped W P H.base none w b (few bs) s f.0 h D' H.kept) steady);
          gvt = steady.gvt;
          numbered = tt;
          posted = unmoved steady;
          capped = under steady;
          buffers =
              let e = stepped-places W P w b (few bs) s in
              let q = sent_all_out W.plan w D' (listed (doing W.model W.plan s b).sends) s refl (length-map _ _) in
              let n = length-listed (doing W.model W.plan s b).sends in omega arith;
        })
          where
            D₀ : DrawnAll s.places (draw_lanes W w (listed (doing W.model W.plan s b).sends)) bs
            D₀ = rw (h, lanes_drawn) at D

            D' : DrawnAll s.places (draw_lanes W w (listed (doing W.model W.plan s b).sends)) (listed (few bs))
            D' = rw (DrawnAll-few W w (doing W.model W.plan s b).sends D₀) D₀

            steady : Steady H.base s (stepped W.model W.plan w b (few bs) s)
            steady = Steady-stepped W P H.base none w b (few bs) s f.0 h D' H.kept

    Advance-round : (bs : List ℕ) → Advance W ps ls s Round (answers W s Round) (does W s Round bs)
    unfolding does answers
    Advance-round bs = let X = Steady-opened W.plan H.base s in record {
      history = same (History-Steady H (Kept-opened W P H.base s H.kept) X);
      gvt = X.gvt;
      numbered = tt;
      posted = unmoved X;
      capped = under X;
      buffers = let e = opened-places W P s in omega arith;
    }

    Advance-report : (w : ℕ) (bs : List ℕ) → refusal W s (Report w) ≡ None →
        Advance W ps ls s (Report w) (answers W s (Report w)) (does W s (Report w) bs)
    unfolding does answers
    Advance-report w bs r =
        let f = report_passed W s w r in
        let X = Steady-reported W P H.base w s f.0 f.1 f.2 H.kept in record {
          history = same (History-Steady H (Kept-reported W P H.base w s f.0 f.1 f.2 H.kept) X);
          gvt = X.gvt;
          numbered = tt;
          posted = unmoved X;
          capped = under X;
          buffers = let e = ap lent (reported_places W P w s) in omega arith;
        }

    Advance-collect : (k : ℕ) (bs : List ℕ) →
        Advance W ps ls s (Collect k) (answers W s (Collect k)) (does W s (Collect k) bs)
    unfolding does answers
    Advance-collect k bs = record {
      history = rw append-nil (History-collect P k H);
      gvt =
          let e = (History-collected W P W.lanes k H.base s H.processes H.waiting H.kept H.waits H.stands).gvt_same in
          omega arith;
      numbered = tt;
      posted = let e = collected-posted W.lanes W.plan k s in omega arith;
      capped = λ l. let e = collected-posted W.lanes W.plan k s in omega arith;
      buffers = let e = collected_back W P k H.base s H.kept in omega arith;
    }

    Advance-does : (c : Call) (bs : List ℕ) → refusal W s c ≡ None → DrawnAll s.places (lanes_drawn W s c) bs →
        Advance W ps ls s c (answers W s c) (does W s c bs)
    Advance-does (Post p t x) bs r D = Advance-post p t x bs r D
    Advance-does (Absorb w) bs r D = Advance-absorb w r bs
    Advance-does (Step w) bs r D = Advance-step w bs r D
    Advance-does Round bs r D = Advance-round bs
    Advance-does (Report w) bs r D = Advance-report w bs r
    Advance-does (Collect k) bs r D = Advance-collect k bs

  pub advance : {ps : List Event} {ls : List Line} {s : Machine} {c : Call} {a : Answer (List Line)} {s' : Machine} →
      Does W s c a s' → History W ps ls s → Advance W ps ls s c a s'
  advance {ps} {ls} {s} {c} (refuses r h) H = record {
    history = rw (refused_post c r) (same H);
    gvt = omega arith;
    numbered = rw (refused_post c r) tt;
    posted = let e = ap length (refused_post c r) in omega arith;
    capped = λ l. l;
    buffers = let e = ap length (refused_post c r) in omega arith;
  }
  advance {ps} {ls} {s} {c} (acts bs r D) H = Advance-does ps ls s H c bs r D

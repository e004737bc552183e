-- Placing and playing item by item.
use Rattle.std.proofs.Common.{◌≡◌, ℕ, ◌+◌, ◌<◌, ◌≤◌, true, false, ◌&&◌, List, [], ◌∷◌, ◌++◌, length, get_or, take, drop}
use Rattle.std.proofs.Common.{Ok, Err, Bool, Result, String, Some, MatchBool, MatchOption, MatchResult, is_err}
use Rattle.std.proofs.Common.{string_bytes, sym, refl, ap, ◌∙◌, subst, append_assoc, append-nil, arith, true≢false}
use Rattle.std.specs.List.{flat_map}
use Rattle.std.specs.declared.alloc.Global.{Global}
use Rattle.std.proofs.lemmas.List.{drop_more, drop_all, map-append, take_more}
use Rattle.std.proofs.lemmas.Grind.{flat_map-append}
use Rattle.std.proofs.lemmas.Bool.Decides.{nat_tests}
use Rattle.model.specs.Formulas.{phold, service_fits, size_fits, switch}
use Rattle.model.specs.Meaning.{Meaning}
use Rattle.model.specs.declared.limits.OutsideLimits.{OutsideLimits}
use Rattle.model.specs.declared.switch.Switch.{Switch}
use Rattle.model.specs.declared.phold.Phold.{Phold}
use Rattle.model.specs.declared.Model.{Ghosts as OfModel}
use Rattle.pool.specs.Lanes.{Lanes}
use Rattle.pool.specs.declared.Pool.{Ghosts as OfPool}
use Rattle.sequential.specs.Text.{field_names, line_text}
use Rattle.sequential.specs.declared.event.Line.{Line}
use Rattle.machine.specs.declared.call.Answer.{Answer}
use Rattle.machine.specs.declared.call.Call.{Call}
use Rattle.machine.specs.declared.plan.Plan.{Plan}
use Rattle.machine.specs.declared.refusal.Refusal.{Refusal}
use Rattle.machine.specs.Calls.{Run, Transcript, World}
use Rattle.machine.specs.Calls.Run.{rests}
use Rattle.law.specs.Law.{collected_lines, lines_told}
use Rattle.law.specs.Law.{Proper, start}
use Rattle.law.proofs.Law.{law}
use Rattle.executive.specs.World.{world_of}
use Rattle.executive.specs.declared.Setup.{Setup}
use Rattle.executive.specs.declared.Executive.{Executive}
use Rattle.executive.specs.Running.{Goes, Sets, Starts, machine}
use Rattle.executive.proofs.Goings.{goes_more, went_first}
use Rattle.script.specs.Play.{PlaysItem, PlaysItems}
use Rattle.script.specs.Playing.{Heads, PlacedBy, Plays, Reads, Session, Settles, bad_text, end_text, calls_among}
use Rattle.script.specs.Playing.{is_third, kind_lanes, model_fits, model_means}
use Rattle.script.specs.Reading.{Reading}
use Rattle.script.specs.declared.heading.ModelKind.{ModelKind}
use Rattle.script.specs.declared.heading.ModelKind.TheVariants as kind
use Rattle.script.specs.declared.heading.Heading.{Heading}
use Rattle.script.specs.declared.item.Item.{Item}
use Rattle.script.specs.declared.item.Item.TheVariants.{Place, Make}

-- ---- placings

pub Settles-more : (m : Meaning) (u t v : Plan) (is : List Item) (i : ℕ) (d : Item) → i < length is →
    PlacedBy m u (get_or is i d) t → Settles m t (drop (i + 1) is) v → Settles m u (drop i is) v
Settles-more m u t v is i d l p s = subst (λ js. Settles m u js v) (sym (drop_more is i d l)) (t, p, s)

pub Settles-end : (m : Meaning) (u : Plan) (is : List Item) (i : ℕ) → length is ≤ i → Settles m u (drop i is) u
Settles-end m u is i l = subst (λ js. Settles m u js u) (sym (drop_all i is l)) refl

-- ---- calls

calls_among-append : (xs ys : List Item) → calls_among (xs ++ ys) ≡ calls_among xs ++ calls_among ys
calls_among-append [] ys = refl
calls_among-append (Place p w ∷ xs) ys = calls_among-append xs ys
calls_among-append (Make c ∷ xs) ys = ap (λ cs. c ∷ cs) (calls_among-append xs ys)

collected-push : (r : Transcript) (c : Call) (a : Answer (List Line)) →
    collected_lines (r ++ (c, a) ∷ []) ≡ collected_lines r ++ lines_told a
collected-push [] c a = append-nil (lines_told a)
collected-push (x ∷ r) c a =
    ap (λ ls. lines_told x.1 ++ ls) (collected-push r c a)
    ∙ sym (append_assoc (lines_told x.1) (collected_lines r) (lines_told a))

module _ {M P : Type 0} {m : OfModel M} {p : OfPool P} where
  pub plays_none : (x : Executive M P m p) (text : String Global) → PlaysItems x [] text text x
  plays_none x text = record {
    transcript = [];
    goes = record { model = refl; plan = refl; runs = rests };
    calls = refl;
    writes = sym (append-nil (string_bytes text));
  }

  -- one item more
  module _ (is : List Item) (i : ℕ) (d : Item) (b : i < length is) (text text₁ text₂ : String Global)
      (x y z : Executive M P m p) (so_far : PlaysItems x (take i is) text text₁ y) where
    more : calls_among (take (i + 1) is) ≡ calls_among (take i is) ++ calls_among (get_or is i d ∷ [])
    more = ap calls_among (take_more is i d b) ∙ calls_among-append (take i is) (get_or is i d ∷ [])

    pub plays_more : (item : Item) → get_or is i d ≡ item → PlaysItem y item text₁ text₂ z →
        PlaysItems x (take (i + 1) is) text text₂ z
    plays_more (Place q w) k played = record {
      transcript = so_far.transcript;
      goes = subst (λ v. Goes x so_far.transcript v) (sym played.0) so_far.goes;
      calls = so_far.calls
          ∙ sym (more ∙ ap (λ o. calls_among (take i is) ++ calls_among (o ∷ [])) k
          ∙ append-nil (calls_among (take i is)));
      writes = played.1 ∙ so_far.writes;
    }
    plays_more (Make c) k played =
        let r = so_far.transcript in
        let a = played.0 in
        record {
          transcript = r ++ (c, a) ∷ [];
          goes = goes_more so_far.goes played.1;
          calls = map-append (λ (x : Call × Answer (List Line)). x.0) r ((c, a) ∷ [])
              ∙ ap (λ cs. cs ++ c ∷ []) so_far.calls
              ∙ sym (more ∙ ap (λ o. calls_among (take i is) ++ calls_among (o ∷ [])) k);
          writes = played.2 ∙ ap (λ t. t ++ flat_map line_text (lines_told a)) so_far.writes
              ∙ append_assoc (string_bytes text) (flat_map line_text (collected_lines r))
              (flat_map line_text (lines_told a))
              ∙ ap (λ t. string_bytes text ++ t) (sym (flat_map-append line_text (collected_lines r) (lines_told a))
              ∙ ap (flat_map line_text) (sym (collected-push r c a)));
        }

-- ---- a whole script

module _ {M P : Type 0} {m : OfModel M} {p : OfPool P} where
  -- the placings, and then the calls as a run from the start, which keeps the law
  pub sessions : (r : Reading) (s v : Setup M P m p) (x y : Executive M P m p) (placed played : List Item)
      (t₁ t₂ : String Global) (text : List ℕ) → v.model ≡ s.model → Settles (m.meaning s.model) s.plan placed v.plan →
      Starts v x → PlaysItems x played t₁ t₂ y → placed ≡ r.items → played ≡ r.items → string_bytes t₁ ≡ field_names →
      text ≡ string_bytes t₂ ++ end_text r.bad → Session r (m.meaning s.model) p.lanes s.plan text
  sessions r s v x y placed played t₁ t₂ text same settles starts plays all all' names ends =
      let world_by : M → World = λ n. world_of (m.meaning n) p.lanes v.plan in
      let W = world_by s.model in
      let q = plays.transcript in
      let runs : Run W (start W) q (machine y) =
      subst (λ n. Run (world_by n) (start (world_by n)) q (machine y)) same (went_first starts plays.goes) in
      record {
        plan = v.plan;
        settles = subst (λ is. Settles (m.meaning s.model) s.plan is v.plan) all settles;
        transcript = q;
        last = machine y;
        runs = runs;
        calls = plays.calls ∙ ap calls_among all';
        prints =
            ends ∙ ap (λ t. t ++ end_text r.bad) (plays.writes
            ∙ ap (λ t. t ++ flat_map line_text (collected_lines q)) names);
        lawful = law W (subst (λ n. Proper (world_by n)) same v.proper) q (machine y) runs;
      }

-- ---- the setting, the pool and the model that a heading names

module _ (prints : Reading → Meaning → Lanes → Plan → List ℕ → Type 0) (h : Heading) (r : Reading) (text : List ℕ) where
  abbrev PlaysOver : Meaning → Lanes → Type 0
  PlaysOver m l = Plays prints m l h r text

  -- the setting was taken, and the third line is no bad one
  pub set_plays : {M P : Type 0} {m : OfModel M} {p : OfPool P} (x y : Setup M P m p) (n : M)
      (set : Result (Unit {0}) Refusal) → x.model ≡ n → Sets x h.end h.most h.workers set y → is_err set ≡ false →
      is_third r.bad ≡ false → prints r (m.meaning y.model) p.lanes y.plan text → PlaysOver (m.meaning n) p.lanes
  set_plays {m = m} {p = p} x y n (Ok _) e sets _ second printed =
      subst (λ k. PlaysOver (m.meaning k) p.lanes) (sets.1.model ∙ e)
      (rw (sets.0, second) (y.plan, sets.1.plan, printed))
  set_plays x y n (Err _) e sets f second printed = absurd (true≢false f)

  heads : (k : ModelKind) (b : Bool) → h.model ≡ k → model_fits k h.size h.setting ≡ b →
      MatchBool b (PlaysOver (model_means k h.size h.setting) (kind_lanes h.pool)) (text ≡ bad_text 2) →
      Heads prints h r text
  heads k b e fits plays = rw (e, fits) plays

  pub heads-switch : (made : Result Switch OutsideLimits) → h.model ≡ kind.Switch →
      MatchResult made (λ m. (m.size.value ≡ h.size)
      × (m.service ≡ h.setting)) (λ _. size_fits h.size && service_fits h.setting ≡ false) →
      MatchResult made (λ m. PlaysOver (switch m.size.value m.service) (kind_lanes h.pool)) (λ _. text ≡ bad_text 2) →
      Heads prints h r text
  heads-switch (Ok m) e is plays =
      heads kind.Switch true e fits (rw (← is.0, ← is.1) plays)
    where
      fits : size_fits h.size && service_fits h.setting ≡ true
      fits = grind (arith, nat_tests, is.0, is.1, m.size.fits, m.serves)
  heads-switch (Err _) e refused bad = heads kind.Switch false e refused bad

  pub heads-phold : (made : Result Phold OutsideLimits) → h.model ≡ kind.Phold →
      MatchResult made (λ m. (m.size.value ≡ h.size) × (m.seed ≡ h.setting)) (λ _. size_fits h.size ≡ false) →
      MatchResult made (λ m. PlaysOver (phold m.size.value m.seed) (kind_lanes h.pool)) (λ _. text ≡ bad_text 2) →
      Heads prints h r text
  heads-phold (Ok m) e is plays =
      heads kind.Phold true e fits (rw (← is.0, ← is.1) plays)
    where
      fits : size_fits h.size ≡ true
      fits = grind (arith, nat_tests, is.0, m.size.fits)
  heads-phold (Err _) e refused bad = heads kind.Phold false e refused bad

  -- with a heading
  pub reads : r.heading ≡ Some h → Heads prints h r text → Reads prints r text
  reads e heads = subst (λ o. MatchOption o (text ≡ end_text r.bad) (λ k. Heads prints k r text)) (sym e) heads

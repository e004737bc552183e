-- The law on what groups of calls return.
use Rattle.std.proofs.Common.{◌≡◌, ℕ, suc, ◌+◌, ◌<◌, Bool, true, false, cond, ◌⊎◌, List, [], ◌∷◌, ◌++◌, length, get_or}
use Rattle.std.proofs.Common.{vec_items, count_by, sym, refl, ◌∙◌, subst, arith}
use Rattle.std.proofs.Math.Logic.{∥∥₁_elim}
use Rattle.std.specs.Coded.{coded_ℕ}
use base.Stored.{Coded-set}
use Rattle.std.proofs.lemmas.List.Sums.{sum_by-cons}
use Rattle.pool.specs.Lanes.{is_out, lent, place_at}
use Rattle.pool.specs.declared.place.Place.{Place}
use Rattle.machine.specs.declared.call.Answer.TheVariants.{Collected}
use Rattle.machine.specs.declared.call.Call.{Call}
use Rattle.machine.specs.declared.call.Call.TheVariants.{Collect}
use Rattle.machine.specs.declared.message.Message.{Message}
use Rattle.machine.specs.declared.message.Phase.{Phase}
use Rattle.machine.specs.declared.message.Phase.TheVariants.{Free, Transit, Pending, Done}
use Rattle.machine.specs.Machine.{Machine, at, blank}
use Rattle.machine.specs.Calls.{World, Transcript, Run}
use Rattle.machine.specs.Calls.Run.{rests, goes}
use Rattle.law.specs.Law.{Proper, before, collected_lines, posts, start}
use Rattle.sequential.specs.Run.{run}
use Rattle.law.proofs.Invariant.{is_live}
use Rattle.law.proofs.Law.{law, gvt_never_falls}
use Rattle.law.proofs.Offered.{placed, Run-push, sizes}
use Rattle.law.proofs.Remain.{remains}
use Rattle.law.proofs.Runs.{Run-append}
use Rattle.executive.specs.Runs.{LawfulGroups, LawfulRun, Remains, is_in_use, group_transcript}
use Rattle.executive.specs.World.{IsReached}
use Rattle.executive.specs.declared.runs.Group.{Group}

-- ---- the buffers out are those in use

used_lives : (p : Phase) → is_in_use p ≡ is_live p
used_lives Free = refl
used_lives Transit = refl
used_lives Pending = refl
used_lives Done = refl

abbrev is_used : Message → Bool
is_used m = is_in_use m.phase

lent_counts : (pl : List Place) (ms : List Message) → length pl ≡ length ms →
    ((b : ℕ) → b < length pl → is_out (place_at pl b) ≡ is_used (get_or ms b blank)) → lent pl ≡ count_by is_used ms
unfolding lent
lent_counts [] [] n h = refl
lent_counts [] (m ∷ ms) n h = absurd (omega arith)
lent_counts (x ∷ pl) [] n h = absurd (omega arith)
lent_counts (x ∷ pl) (m ∷ ms) n h =
    let r = lent_counts pl ms (omega arith) (λ b l. h (suc b) (omega arith)) in
    go (is_out x) (is_used m) (h 0 (omega arith)) r ∙ sym (sum_by-cons (λ (y : Message). cond (is_used y) 1 0) m ms)
  where
    go : (a b : Bool) → a ≡ b → lent pl ≡ count_by is_used ms →
        cond a (suc (lent pl)) (lent pl) ≡ cond b 1 0 + count_by is_used ms
    go true true e r = omega arith
    go false false e r = omega arith
    go true false e r = absurd (grind arith)
    go false true e r = absurd (grind arith)

-- ---- a run split in two

Run-split : {W : World} {s'' : Machine} (q q' : Transcript) {s : Machine} → Run W s (q ++ q') s'' →
    (s' : Machine) × Run W s q s' × Run W s' q' s''
Run-split [] q' R = (_, rests, R)
Run-split (_ ∷ q) q' (goes {s₁ = s₁} d R) = let r = Run-split q q' {s = s₁} R in (r.0, goes d r.1, r.2)

module _ (W : World) (P : Proper W) where
  -- the buffers out are those in use
  pub out_counts : {r : Transcript} {s : Machine} → Run W (start W) r s → lent s.places ≡ count_by is_used s.messages
  out_counts {r} {s} R =
      let z = sizes W P R in
      lent_counts s.places s.messages (z.places ∙ sym z.messages)
      (λ b l. let i : b < 256 = omega (arith, z.places) in placed W P R b i ∙ sym (used_lives (at s b).phase))

  -- the same in a machine that calls have led to
  pub reached_out : {s : Machine} → ∥ IsReached W s ∥₁ → lent s.places ≡ count_by is_used s.messages
  reached_out h = ∥∥₁_elim h (Coded-set coded_ℕ _ _) (λ x. out_counts x.1)

  -- a collection anywhere in a run told what remained
  pub remains_in : {r : Transcript} {s : Machine} → Run W (start W) r s → Remains W r
  remains_in {r} {s} R q q' k n ls e =
      let a = Run-split q ((Collect k, Collected ls n) ∷ q') (subst (λ t. Run W (start W) t s) e R) in
      go a.1 a.2
    where
      go : {s₁ s₂ : Machine} → Run W (start W) q s₁ → Run W s₁ ((Collect k, Collected ls n) ∷ q') s₂ →
          (t : Machine) × Run W (start W) (q ++ (Collect k, Collected ls n) ∷ []) t ×
          (n + length (collected_lines q ++ ls) ≡ before t.gvt (run W.model W.plan.limits (posts q))) ×
          ((n ≡ 0) ⊎ (length ls ≡ k))
      go {s₁ = s₁} Q (goes {s₁ = t} d _) =
          (t, Run-push Q d, (remains W P q k n ls s₁ t Q d).0, (remains W P q k n ls s₁ t Q d).1)

  module _ (cs : List Call) (g : Group) (s₁ : Machine) (came : Run W (start W) (group_transcript cs g) s₁)
      (n : length (vec_items g.answers) ≡ length cs) (v : g.gvt ≡ s₁.gvt) (o : g.out ≡ lent s₁.places) where
    -- one group from the start
    pub run_lawful : LawfulRun W cs g
    run_lawful = record {
      last = s₁;
      runs = came;
      answered = n;
      gvt_is = v;
      out_is = o;
      holds = law W P _ s₁ came;
      remains = remains_in came;
    }

    -- and a second group after it
    pub groups_lawful : (ds : List Call) (h : Group) (s₂ : Machine) → Run W s₁ (group_transcript ds h) s₂ →
        length (vec_items h.answers) ≡ length ds → h.gvt ≡ s₂.gvt → h.out ≡ lent s₂.places → LawfulGroups W cs ds g h
    groups_lawful ds h s₂ went n₂ v₂ o₂ =
        let all = Run-append came went in
        record {
          middle = s₁;
          last = s₂;
          first_runs = came;
          second_runs = went;
          first_answered = n;
          second_answered = n₂;
          first_gvt = v;
          second_gvt = v₂;
          first_out = o;
          second_out = o₂;
          first_holds = law W P _ s₁ came;
          second_holds = law W P _ s₂ all;
          rises = let r = gvt_never_falls W P came went in omega arith;
          remains = remains_in all;
        }

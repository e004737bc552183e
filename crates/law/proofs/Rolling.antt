-- What a rollback comes to: the invariant is kept, every message stays where it is, and those that are cancelled are
-- later than what set it off, and none of them is ready.
use Rattle.std.proofs.Common.{◌≡◌, ℕ, ◌≤◌, Bool, true, false, List, [], sym, refl, ◌∙◌, inl, inr, arith}
use Rattle.std.proofs.lemmas.Bool.{cases_Bool, both_ways}
use Rattle.sequential.specs.declared.event.Event.{Event}
use Rattle.sequential.specs.declared.event.Process.{Process}
use Rattle.machine.specs.Calls.{World}
use Rattle.machine.specs.Machine.{Machine, is_done, counted}
use Rattle.law.specs.Law.{Proper}
use Rattle.law.proofs.Invariant.{lives, transits, dones, flags, events, floors, reports, Ready, Steady, Kept, Covered}
use Rattle.law.proofs.Parts.{agree}

abbrev pub Covers : World → ℕ → ℕ → Machine → Type 0
Covers W w t s = Covered W.plan.workers s.floor (floors s) (reports s) s.rounding s.gvt w t

abbrev pub tally : Machine → ℕ
tally s = counted (λ m. is_done m.phase) s.messages

-- no done event of the process p passes the test
abbrev pub Over : ℕ → (Event → Bool) → Machine → Type 0
Over p test s = (c : ℕ) → dones s c ≡ true → (events s c).process ≡ p → test (events s c) ≡ false

-- what a rollback that cancels only messages later than t leaves as it was
pub record Frame (t : ℕ) (s s' : Machine) : Type 0 where
  pub live : lives s' ≡ lives s
  pub moving : transits s' ≡ transits s
  pub event : events s' ≡ events s
  pub gone : (c : ℕ) → flags s c ≡ true → flags s' c ≡ true
  pub early : (c : ℕ) → (events s c).time ≤ t → flags s' c ≡ flags s c
  pub tally : tally s' ≤ tally s
  pub places : s'.places ≡ s.places
  pub posted : s'.posted ≡ s.posted
  pub gvt : s'.gvt ≡ s.gvt

pub Frame-none : {t : ℕ} {s : Machine} → Frame t s s
Frame-none = record {
  live = refl;
  moving = refl;
  event = refl;
  gone = λ c g. g;
  early = λ c l. refl;
  tally = omega arith;
  places = refl;
  posted = refl;
  gvt = refl;
}

pub Frame-more : {t : ℕ} {s s' s'' : Machine} → Frame t s s' → Frame t s' s'' → Frame t s s''
Frame-more {t} F G = record {
  live = G.live ∙ F.live;
  moving = G.moving ∙ F.moving;
  event = G.event ∙ F.event;
  gone = λ c g. G.gone c (F.gone c g);
  early = λ c l. G.early c (rw F.event l) ∙ F.early c l;
  tally = let i = F.tally in let j = G.tally in omega arith;
  places = G.places ∙ F.places;
  posted = G.posted ∙ F.posted;
  gvt = G.gvt ∙ F.gvt;
}

module _ (W : World) (P : Proper W) (base : ℕ → Process) (held : ℕ → List ℕ) where
  -- what a rollback by the worker w, set off by a message of the time t, comes to
  pub record Rolling (w t : ℕ) (s s' : Machine) : Type 0 where
    pub kept : Kept W base held [] s'
    pub covers : Covers W w t s'
    pub frame : Frame t s s'
    pub ready : (c : ℕ) → flags s c ≡ false → Ready base (events s c) → flags s' c ≡ false

  pub Steady-rolled : {w t : ℕ} {s s' : Machine} → Rolling w t s s' → Steady base s s'
  Steady-rolled {w} {t} {s} {s'} R = record {
    gvt = let i = R.frame.gvt in omega arith;
    posted = R.frame.posted;
    stays = λ b l g r. (agree R.frame.live b ∙ l, R.ready b g r, agree R.frame.event b);
    comes =
        λ b l g r. (
          sym (agree R.frame.live b) ∙ l,
          elim (cases_Bool (flags s b)) [ inr f ↦ f | inl t ↦ absurd (both_ways _ g (R.frame.gone b t)) ],
          agree R.frame.event b,
        );
  }

  pub Rolling-more : {w t : ℕ} {s s' s'' : Machine} → Frame t s s' →
      ((c : ℕ) → flags s c ≡ false → Ready base (events s c) → flags s' c ≡ false) → Rolling w t s' s'' →
      Rolling w t s s''
  Rolling-more F g R = record {
    kept = R.kept;
    covers = R.covers;
    frame = Frame-more F R.frame;
    ready = λ c f r. R.ready c (g c f r) (rw F.event r);
  }

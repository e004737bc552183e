-- Rolling back keeps the invariant: each undoing leaves one done event fewer, so none that passes the test is left.
use Rattle.std.proofs.Common.{◌≡◌, ℕ, zero, suc, ◌≤◌, Bool, true, false, List, [], Some, None, Option, refl, ◌∙◌, inl}
use Rattle.std.proofs.Common.{inr, arith}
use Rattle.std.proofs.lemmas.Bool.{cases_Bool, both_ways}
use Rattle.sequential.specs.Events.{earlier}
use Rattle.sequential.specs.declared.event.Event.{Event}
use Rattle.sequential.specs.declared.event.Process.{Process}
use Rattle.machine.specs.Calls.{World}
use Rattle.machine.specs.Machine.{Machine, blank, at, home, is_done, undone, rolled, latest, later}
use Rattle.law.specs.Law.{Proper}
use Rattle.law.proofs.Invariant.{dones, events, Kept}
use Rattle.law.proofs.Parts.{live_within}
use Rattle.law.proofs.Picks.{passing, passing-parts, passing_from, latest_picks, done_lives}
use Rattle.law.proofs.Rolling.{Covers, Over, Frame-none, tally, Rolling, Rolling-more}
use Rattle.law.proofs.Search.{IsStrictWeakOrder-later, Foremost, foremost_none, counted_none}
use Rattle.law.proofs.Undone.{Kept-undone}

module _ (W : World) (P : Proper W) (base : ℕ → Process) (held : ℕ → List ℕ) where
  module _ (w p t : ℕ) (test : Event → Bool) (homed : home W.plan p ≡ w)
      (upward : (e f : Event) → test e ≡ true → earlier e f ≡ true → test f ≡ true)
      (after : (e : Event) → test e ≡ true → t ≤ e.time) where
    rolled_none : (k : ℕ) (s : Machine) → latest p test s ≡ None → (rolled (suc k) W.plan w p test s).machine ≡ s
    unfolding rolled
    rolled_none k s h = rw (h, rolled)

    rolled_some : (k : ℕ) (s : Machine) (d : ℕ) → latest p test s ≡ Some d →
        (rolled (suc k) W.plan w p test s).machine ≡ (rolled k W.plan w p test (undone W.plan w d s)).machine
    unfolding rolled
    rolled_some k s d h = rw (h, rolled)

    -- nothing is left to undo
    over : (s : Machine) → ((c : ℕ) → passing p test (at s c) ≡ false) → Over p test s
    over s n c h e = elim (cases_Bool (test (events s c))) [
      | inl t ↦ absurd (both_ways _ (n c) (passing_from p test (at s c) h e t))
      | inr f ↦ f
    ]

    none_done : (s : Machine) → tally s ≤ 0 → (c : ℕ) → passing p test (at s c) ≡ false
    none_done s l c = elim (cases_Bool (passing p test (at s c))) [
      | inr f ↦ f
      | inl t ↦ (let h : dones s c ≡ true = (passing-parts p test (at s c) t).0 in
          absurd (both_ways _ (counted_none (λ m. is_done m.phase) s.messages blank (omega arith) c
          (live_within s c (done_lives s c h))) h))
    ]

    -- what `latest` picks is the last of its process
    last : (s : Machine) (d : ℕ) → Foremost (passing p test) later IsStrictWeakOrder-later s d → (c : ℕ) →
        dones s c ≡ true → (events s c).process ≡ (events s d).process → earlier (events s d) (events s c) ≡ false
    last s d F c h e = elim (cases_Bool (earlier (events s d) (events s c))) [
      | inr f ↦ f
      | inl t ↦
          (let x = passing-parts p test (at s d) F.passes in
          F.least c (passing_from p test (at s c) h (e ∙ x.1) (upward _ _ x.2 t)))
    ]

    pub Kept-rolled : (k : ℕ) (s : Machine) → tally s ≤ k → Covers W w t s → Kept W base held [] s →
        Rolling W P base held w t s (rolled k W.plan w p test s).machine ×
        Over p test (rolled k W.plan w p test s).machine
    unfolding rolled
    Kept-rolled zero s l C K =
        (record { kept = K; covers = C; frame = Frame-none; ready = λ c f r. f }, over s (none_done s l))
    Kept-rolled (suc k) s l C K = go (latest p test s) refl (Kept-rolled k)
      where
        Goal : Machine → Type 0
        Goal s' = Rolling W P base held w t s s' × Over p test s'

        go : (o : Option ℕ) → latest p test s ≡ o →
            ((s : Machine) → tally s ≤ k → Covers W w t s → Kept W base held [] s →
            Rolling W P base held w t s (rolled k W.plan w p test s).machine ×
            Over p test (rolled k W.plan w p test s).machine) →
            Goal (rolled (suc k) W.plan w p test s).machine
        go None h f =
            rw (rolled_none k s h) (
              record { kept = K; covers = C; frame = Frame-none; ready = λ c f r. f },
              over s (foremost_none (passing p test) later IsStrictWeakOrder-later s refl h),
            )
        go (Some d) h f =
            rw (rolled_some k s d h) (let R = U.0.kept in
            let r = f (undone W.plan w d s) (let i = U.1 in omega arith) U.0.covers R in
            (Rolling-more W P base held U.0.frame U.0.ready r.0, r.1))
          where
            F : Foremost (passing p test) later IsStrictWeakOrder-later s d
            F = latest_picks p test s d h

            x : (dones s d ≡ true) × ((events s d).process ≡ p) × (test (events s d) ≡ true)
            x = passing-parts p test (at s d) F.passes

            U : Rolling W P base held w t s (undone W.plan w d s) × (suc (tally (undone W.plan w d s)) ≤ tally s)
            U = Kept-undone W P base held s d x.0 K (last s d F) (rw x.1 homed) (after _ x.2) C

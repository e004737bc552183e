-- Emptying the buffer of the oldest done event earlier than GVT keeps the invariant, with its process moved on by one
-- event.
use Rattle.std.proofs.Common.{◌≡◌, ℕ, ◌<◌, ◌≤◌, true, false, [], map, length, Some, refl, ap, inl, inr, arith}
use Rattle.std.proofs.lemmas.List.{length-map}
use Rattle.std.proofs.lemmas.Bool.{cases_Bool, cases_eq, both_ways, and_from, lt-ltb}
use Rattle.pool.specs.Lanes.{Lanes}
use Rattle.sequential.proofs.Keys.{IsStrictWeakOrder-earlier, earlier_time, time_earlier}
use Rattle.sequential.proofs.Sends.{Fits, Numbered, applied-sends, length-listed}
use Rattle.sequential.specs.Events.{outside, earlier, process_after}
use Rattle.sequential.specs.declared.event.Process.{Process}
use Rattle.machine.specs.Calls.{World}
use Rattle.machine.specs.Machine.{Machine, at, freed, oldest}
use Rattle.law.specs.Law.{Proper}
use Rattle.law.proofs.Absorb.{none}
use Rattle.law.proofs.Collect.{Boxed-drop, Keyed-drop, began, Chained-collect, Sending-collect}
use Rattle.law.proofs.Freed.{Empties, empties, Sized-free, fit_free, Placed-free}
use Rattle.law.proofs.Invariant.{transits, dones, flags, events, snapshots, outcomes, sents, Kept, applying}
use Rattle.law.proofs.Invariant.Active.{ends}
use Rattle.law.proofs.Members.{In}
use Rattle.law.proofs.Numbers.{Numbered-in}
use Rattle.law.proofs.Parts.{live_within}
use Rattle.law.proofs.Picks.{ripe, ripe-parts, oldest_picks, done_stands, done_lives}
use Rattle.law.proofs.Search.{Foremost}
use Rattle.law.proofs.Take.{Timed-end}
use Rattle.law.proofs.Undo.{put, put_same, put_other}
use Rattle.law.proofs.Undone.{sent-fits}

-- each process after one more collected event
abbrev pub onward : (ℕ → Process) → Machine → ℕ → ℕ → Process
onward base s d = put base (events s d).process (process_after (outcomes s d) (snapshots s d))

module _ (W : World) (P : Proper W) (base : ℕ → Process) where
  module _ (l : Lanes) (d : ℕ) (s : Machine) (K : Kept W base none [] s) (is : oldest s ≡ Some d) where
    F : Foremost (ripe s.gvt) earlier IsStrictWeakOrder-earlier s d
    F = oldest_picks s d is

    pub ripened : (dones s d ≡ true) × ((events s d).time < s.gvt)
    ripened = ripe-parts s.gvt (at s d) F.passes

    -- no done event is earlier
    pub least : (c : ℕ) → dones s c ≡ true → earlier (events s c) (events s d) ≡ false
    least c h = elim (cases_Bool (earlier (events s c) (events s d))) [
      | inr f ↦ f
      | inl t ↦
          F.least c (and_from _ _ h (lt-ltb _ _
          (let i = earlier_time (events s c) (events s d) t in let j = ripened.1 in omega arith)))
    ]

    -- it is not cancelled: what is cancelled is not before GVT
    pub stands : flags s d ≡ false
    stands =
        elim (cases_Bool (flags s d)) [
          | inr f ↦ f
          | inl g ↦
              (let i = (K.timed.covers d (ends g)).low in let j = ripened.1 in absurd (omega arith))
        ]

    still : transits s d ≡ false
    still = (done_stands (at s d) ripened.0).1

    pub within : d < length s.messages
    within = live_within s d (done_lives s d ripened.0)

    pub E : Empties s (freed l W.plan d s) d
    E = empties l W.plan d s within

    pub begun : (outcomes s d ≡ applying W (events s d) (snapshots s d)) × (snapshots s d ≡ base (events s d).process)
    begun =
        began E ripened.0 (λ c h _. least c h) (put_same base _ _ _ refl)
        (λ p n. put_other base _ (process_after (outcomes s d) (snapshots s d)) p n) K.chained

    -- its sender is not among the done: it would be earlier
    pub unsent : (c : ℕ) → dones s c ≡ true → In d (sents s c) → ⊥
    unsent c h i =
        both_ways _ (least c h) (time_earlier (events s c) (events s d) (sent-fits W P base none K c h d i).later)

    pub grows : (p : ℕ) → (base p).count ≤ (onward base s d p).count
    grows p = elim (cases_eq p (events s d).process) [
      | inl e ↦
          rw (
            e,
            put_same base (events s d).process (process_after (outcomes s d) (snapshots s d)) (events s d).process
                refl,
          )
          (let i = ap (λ (q : Process). q.count) begun.1 in omega arith)
      | inr n ↦ rw (put_other base (events s d).process (process_after (outcomes s d) (snapshots s d)) p n)
          (omega arith)
    ]

    pub settles : (c : ℕ) → In c (sents s d) →
        ((events s c).sender ≡ outside → ⊥) × ((events s c).number < (onward base s d (events s c).sender).count)
    settles c i = (
      λ e. let f = fits.sender in
          let g = (K.fit.fits d (done_lives s d ripened.0)).process in
          let k = P.sized.1 in
          omega arith,
      rw (
        fits.sender,
        put_same base (events s d).process (process_after (outcomes s d) (snapshots s d))
            (events s d).process refl,
      )
          (let k = (Numbered-in (events s) (sents s d) (snapshots s d).count numbered c i).1 in
          let j = ap length (K.sending.events d ripened.0) in let j' = length-map (sents s d) (events s) in
          let n = length-listed (outcomes s d).sends in omega arith),
    )
      where
        fits : Fits W.model.size W.plan.limits.end (events s d) (events s c)
        fits = sent-fits W P base none K d ripened.0 c i

        numbered : Numbered (snapshots s d).count (map (events s) (sents s d))
        numbered =
            rw (K.sending.events d ripened.0, begun.0)
            (applied-sends W.model W.plan.limits (events s d) (snapshots s d)).numbered

    pub Kept-one : Kept W (onward base s d) none [] (freed l W.plan d s)
    unfolding freed
    Kept-one = record {
      sized = Sized-free l W.plan d s within K.sized;
      ended = K.ended;
      fit = fit_free l W.plan d s within K.fit;
      placed = Placed-free l W.plan d s within K.sized K.placed;
      boxed = Boxed-drop E still stands K.boxed;
      keyed = Keyed-drop E still stands K.boxed K.keyed;
      chained =
          Chained-collect E ripened.0 (λ c h _. least c h) (put_same base _ _ _ refl)
          (λ p n. put_other base _ (process_after (outcomes s d) (snapshots s d)) p n) K.chained;
      sending = Sending-collect E ripened.0 unsent grows settles K.sending;
      timed = Timed-end E K.timed;
    }

-- The machine's three searches: a worker's least pending event, a process's latest done event that passes a test, and
-- the oldest done event earlier than GVT. What is picked passes, and nothing that passes comes before it.
use Rattle.std.proofs.Common.{◌≡◌, ℕ, suc, ◌<◌, Bool, true, false, ◌&&◌, eqb, ltb, Some, None, refl}
use Rattle.std.proofs.lemmas.Bool.{and_parts, and_from, eqb-true, eq-eqb, ltb-true}
use Rattle.pool.specs.Lanes.{Lanes}
use Rattle.sequential.proofs.Keys.{IsStrictWeakOrder-earlier}
use Rattle.sequential.specs.Events.{earlier}
use Rattle.sequential.specs.declared.event.Event.{Event}
use Rattle.machine.specs.Machine.{Machine, blank, home, at, is_transit, is_pending, is_done, later, next, latest}
use Rattle.machine.specs.Machine.{oldest, remaining, freed}
use Rattle.machine.specs.declared.message.Message.{Message}
use Rattle.machine.specs.declared.plan.Plan.{Plan}
use Rattle.law.proofs.Invariant.{is_live, is_pending_lem, is_done_lem, lives, dones}
use Rattle.law.proofs.Parts.{live_within}
use Rattle.law.proofs.Search.{Foremost, foremost_some, foremost_none, IsStrictWeakOrder-later, counted_zero}
use Rattle.law.proofs.Search.{counted-set_less}

-- pending for a process of the worker w
abbrev pub ready : Plan → ℕ → Message → Bool
ready u w m = is_pending m.phase && eqb (home u m.event.process) w

-- done by the process p, and it passes the test
abbrev pub passing : ℕ → (Event → Bool) → Message → Bool
passing p test m = is_done m.phase && (eqb m.event.process p && test m.event)

-- done, and earlier than v
abbrev pub ripe : ℕ → Message → Bool
ripe v m = is_done m.phase && ltb m.event.time v

-- ---- what a test says

pub Ready-parts : (u : Plan) (w : ℕ) (m : Message) → ready u w m ≡ true →
    (is_pending m.phase ≡ true) × (home u m.event.process ≡ w)
Ready-parts u w m h =
    let x = and_parts (is_pending m.phase) (eqb (home u m.event.process) w) h in (x.0, eqb-true _ _ x.1)

pub Ready-from : (u : Plan) (w : ℕ) (m : Message) → is_pending m.phase ≡ true → home u m.event.process ≡ w →
    ready u w m ≡ true
Ready-from u w m h e = and_from _ _ h (eq-eqb _ _ e)

pub passing-parts : (p : ℕ) (test : Event → Bool) (m : Message) → passing p test m ≡ true →
    (is_done m.phase ≡ true) × (m.event.process ≡ p) × (test m.event ≡ true)
passing-parts p test m h =
    let x = and_parts (is_done m.phase) (eqb m.event.process p && test m.event) h in
    let y = and_parts (eqb m.event.process p) (test m.event) x.1 in
    (x.0, eqb-true _ _ y.0, y.1)

pub passing_from : (p : ℕ) (test : Event → Bool) (m : Message) → is_done m.phase ≡ true → m.event.process ≡ p →
    test m.event ≡ true → passing p test m ≡ true
passing_from p test m h e t = and_from _ _ h (and_from _ _ (eq-eqb _ _ e) t)

pub ripe-parts : (v : ℕ) (m : Message) → ripe v m ≡ true → (is_done m.phase ≡ true) × (m.event.time < v)
ripe-parts v m h = let x = and_parts (is_done m.phase) (ltb m.event.time v) h in (x.0, ltb-true _ _ x.1)

-- what is pending or done is there, and not in transit
pub pending_stands : (m : Message) → is_pending m.phase ≡ true → (is_live m.phase ≡ true) × (is_transit m.phase ≡ false)
pending_stands m h = let e = is_pending_lem m.phase h in (rw e refl, rw e refl)

pub done_stands : (m : Message) → is_done m.phase ≡ true → (is_live m.phase ≡ true) × (is_transit m.phase ≡ false)
done_stands m h = let e = is_done_lem m.phase h in (rw e refl, rw e refl)

pub done_lives : (s : Machine) (d : ℕ) → dones s d ≡ true → lives s d ≡ true
done_lives s d h = (done_stands (at s d) h).0

-- ---- what is picked

pub next_picks : (u : Plan) (w : ℕ) (s : Machine) (b : ℕ) → next u w s ≡ Some b →
    Foremost (ready u w) earlier IsStrictWeakOrder-earlier s b
next_picks u w s b h = foremost_some (ready u w) earlier IsStrictWeakOrder-earlier s refl b h

pub latest_picks : (p : ℕ) (test : Event → Bool) (s : Machine) (d : ℕ) → latest p test s ≡ Some d →
    Foremost (passing p test) later IsStrictWeakOrder-later s d
latest_picks p test s d h = foremost_some (passing p test) later IsStrictWeakOrder-later s refl d h

pub oldest_picks : (s : Machine) (d : ℕ) → oldest s ≡ Some d →
    Foremost (ripe s.gvt) earlier IsStrictWeakOrder-earlier s d
oldest_picks s d h = foremost_some (ripe s.gvt) earlier IsStrictWeakOrder-earlier s refl d h

-- ---- how many remain

pub remaining_none : (s : Machine) → oldest s ≡ None → remaining s ≡ 0
unfolding remaining
remaining_none s h =
    counted_zero (ripe s.gvt) s.messages
    (λ b _. foremost_none (ripe s.gvt) earlier IsStrictWeakOrder-earlier s refl h b)

-- one fewer once the oldest is emptied
pub remaining_some : (l : Lanes) (u : Plan) (s : Machine) (d : ℕ) → oldest s ≡ Some d →
    suc (remaining (freed l u d s)) ≡ remaining s
unfolding freed remaining
remaining_some l u s d h =
    let F = oldest_picks s d h in
    counted-set_less (ripe s.gvt) s.messages d blank blank
    (live_within s d (done_lives s d (ripe-parts s.gvt (at s d) F.passes).0)) F.passes refl

-- What code that carries a run may use of any machine of it: its sizes, which messages are there and where their
-- buffers are, what stands in the inboxes, and how far the counts have gone.
use Rattle.std.proofs.Common.{◌≡◌, ℕ, ◌<◌, ◌≤◌, Bool, true, false, ◌⊎◌, List, [], ◌∷◌, ◌++◌, length, refl, inl, inr}
use Rattle.std.proofs.Common.{arith}
use Rattle.std.proofs.lemmas.Bool.{both_ways}
use Rattle.model.specs.Meaning.{listed}
use Rattle.pool.specs.Lanes.{place_at, is_out}
use Rattle.pool.specs.declared.place.Place.{Place}
use Rattle.pool.specs.declared.place.Place.TheVariants.{Out, Lane}
use Rattle.sequential.specs.declared.event.Line.{Line}
use Rattle.machine.specs.Calls.{World, Transcript, Does, Run}
use Rattle.machine.specs.Calls.Run.{rests, goes}
use Rattle.machine.specs.Machine.{Machine, at, worker, process, home, is_transit, is_done}
use Rattle.machine.specs.declared.call.Answer.{Answer}
use Rattle.machine.specs.declared.call.Call.{Call}
use Rattle.machine.specs.declared.message.Phase.{Phase}
use Rattle.machine.specs.declared.message.Phase.TheVariants.{Free, Transit, Pending, Done}
use Rattle.law.specs.Law.{posts, Proper, start}
use Rattle.law.proofs.Absorb.{none}
use Rattle.law.proofs.Invariant.{is_live, Kept, Sized, Fitting}
use Rattle.law.proofs.Members.{In, Apart}
use Rattle.law.proofs.Parts.{live_within}
use Rattle.law.proofs.Room.{dead_room, Kept-room, Apart-short}
use Rattle.law.proofs.Runs.{Kept-run, from_start, Run-append}
use Rattle.law.proofs.Sent.{Drawn-dead}
use Rattle.law.proofs.Start.{none_posted}
use Rattle.law.proofs.World.{homes}

-- a run goes on by one call
pub Run-push : {W : World} {s s₁ s₂ : Machine} {r : Transcript} {c : Call} {a : Answer (List Line)} → Run W s r s₁ →
    Does W s₁ c a s₂ → Run W s (r ++ (c, a) ∷ []) s₂
Run-push R d = Run-append R (goes d rests)

not_live : (p : Phase) → is_live p ≡ false → p ≡ Free
not_live Free h = refl
not_live Transit h = absurd (both_ways _ h refl)
not_live Pending h = absurd (both_ways _ h refl)
not_live Done h = absurd (both_ways _ h refl)

module _ (W : World) (P : Proper W) {r : Transcript} {s : Machine} (R : Run W (start W) r s) where
  kept : Kept W (Kept-run W P R).0 none [] s
  kept = (Kept-run W P R).1

  -- 256 messages and places, 8 workers and 32 processes
  pub sizes : Sized s
  sizes = kept.sized

  -- ---- messages

  -- the receiver of a message is a process, its sender the outside or a process, and its time before the end
  pub live_fits : (b : ℕ) → is_live (at s b).phase ≡ true → Fitting W.model.size W.plan.limits.end (at s b).event
  live_fits = kept.fit.fits

  -- it is at home with one of the workers
  pub live_home : (b : ℕ) → is_live (at s b).phase ≡ true → home W.plan (at s b).event.process < W.plan.workers
  live_home b l = homes W P (at s b).event.process (live_fits b l).process

  -- the messages that a done event has sent are there, and not cancelled
  pub sent_lives : (d b : ℕ) → is_done (at s d).phase ≡ true → In b (listed (at s d).sent) →
      (is_live (at s b).phase ≡ true) × ((at s b).cancelled ≡ false)
  sent_lives d b h i = kept.sending.lasting d b h i

  -- no two done events have sent the same message, and none of them one twice
  pub sent_parted : (d e b : ℕ) → is_done (at s d).phase ≡ true → is_done (at s e).phase ≡ true →
      In b (listed (at s d).sent) → In b (listed (at s e).sent) → d ≡ e
  sent_parted d e b = kept.sending.parted d e b

  pub sent_once : (d : ℕ) → is_done (at s d).phase ≡ true → Apart (listed (at s d).sent)
  sent_once = kept.sending.once

  -- ---- places

  -- a buffer is out exactly where it holds a message
  pub placed : (b : ℕ) → b < 256 → is_out (place_at s.places b) ≡ is_live (at s b).phase
  placed b l = go (place_at s.places b) refl (is_live (at s b).phase) refl
    where
      go : (p : Place) → place_at s.places b ≡ p → (t : Bool) → is_live (at s b).phase ≡ t → is_out p ≡ t
      go Out e true h = refl
      go Out e false h = absurd (kept.placed.rests b h l e)
      go (Lane m) e true h = absurd (both_ways _ (Drawn-dead W _ none kept b m e).1 h)
      go (Lane m) e false h = refl

  pub live_out : (b : ℕ) → is_live (at s b).phase ≡ true → place_at s.places b ≡ Out
  live_out = kept.placed.out

  -- a buffer that lies in a lane is empty
  pub lane_free : (b l : ℕ) → place_at s.places b ≡ Lane l → (b < 256) × ((at s b).phase ≡ Free)
  lane_free b l h = let d = Drawn-dead W _ none kept b l h in (d.0, not_live (at s b).phase d.1)

  -- ---- inboxes

  -- no buffer stands twice in an inbox
  pub inbox_once : (w : ℕ) → Apart (worker s w).inbox
  inbox_once = kept.boxed.once

  -- what stands in an inbox is there, in transit or cancelled, for a process of that worker
  pub inbox_lives : (w b : ℕ) → In b (worker s w).inbox → is_live (at s b).phase ≡ true
  inbox_lives w b i = elim (kept.boxed.due w b i) [ inl t ↦ kept.boxed.moves b t | inr g ↦ kept.boxed.ends b g ]

  pub inbox-due : (w b : ℕ) → In b (worker s w).inbox → (is_transit (at s b).phase ≡ true) ⊎ ((at s b).cancelled ≡ true)
  inbox-due = kept.boxed.due

  pub inbox-home : (w b : ℕ) → In b (worker s w).inbox → home W.plan (at s b).event.process ≡ w
  inbox-home = kept.boxed.homed

  pub inbox_below : (w b : ℕ) → In b (worker s w).inbox → b < 256
  inbox_below w b i = let h = kept.sized.messages in let j = live_within s b (inbox_lives w b i) in omega arith

  -- an inbox holds at most the 256 buffers that there are
  pub inbox_bounded : (w : ℕ) → length (worker s w).inbox ≤ 256
  inbox_bounded w = Apart-short 256 (worker s w).inbox (inbox_once w) (inbox_below w)

  -- it is not full while a buffer lies in a lane, nor while a message is neither in transit nor cancelled
  pub inbox_room : (b l w : ℕ) → place_at s.places b ≡ Lane l → length (worker s w).inbox < 256
  inbox_room b l w h = let d = Drawn-dead W _ none kept b l h in dead_room kept b w d.0 d.1

  pub inbox_room_standing : (b w : ℕ) → is_live (at s b).phase ≡ true → is_transit (at s b).phase ≡ false →
      (at s b).cancelled ≡ false → length (worker s w).inbox < 256
  inbox_room_standing b w l t g =
      Kept-room kept b w (let h = kept.sized.messages in let j = live_within s b l in omega arith)
      (λ i. elim (kept.boxed.due w b i) [ inl m ↦ both_ways _ t m | inr e ↦ both_ways _ g e ])

  -- ---- counts and times

  -- no process has sent more messages than the cap
  pub count-capped : (p : ℕ) → (process s p).count ≤ W.plan.limits.most
  count-capped = kept.chained.capped

  -- as many posts were accepted as the transcript tells, and no more than the cap
  pub posted-counted : s.posted ≡ length (posts r)
  posted-counted = let e = (from_start W P R).posted in let z = none_posted W P in omega arith

  pub posted-capped : s.posted ≤ W.plan.limits.most
  posted-capped = (from_start W P R).capped (let z = none_posted W P in omega arith)

  -- neither GVT nor the outside floor passes the end
  pub gvt_ends : s.gvt ≤ W.plan.limits.end
  gvt_ends = kept.ended.gvt_ends

  pub floor_ends : s.floor ≤ W.plan.limits.end
  floor_ends = kept.ended.floor_ends

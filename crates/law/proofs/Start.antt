-- The machine before any call keeps the invariant: it has no message, every inbox is empty, and no buffer is out.
use Rattle.std.proofs.Common.{◌≡◌, ℕ, Bool, true, false, ◌⊎◌, [], replicate, None, refl, ap, inl, inr, arith}
use Rattle.std.proofs.lemmas.List.{get_or-replicate, get_or_past, length-replicate}
use Rattle.std.proofs.lemmas.Bool.{cases_lt, both_ways}
use Rattle.pool.specs.Lanes.{lent}
use Rattle.sequential.proofs.Budget.{fresh-count}
use Rattle.sequential.specs.Run.{fresh}
use Rattle.machine.specs.Calls.{World}
use Rattle.machine.specs.Machine.{Machine, Worker, blank, idle, at, worker, process, started, started_with, is_transit}
use Rattle.machine.specs.Machine.{is_pending, is_done}
use Rattle.machine.specs.declared.message.Message.{Message}
use Rattle.law.specs.Law.{Proper, start}
use Rattle.law.proofs.Absorb.{none}
use Rattle.law.proofs.History.{History}
use Rattle.law.proofs.Invariant.{is_live, Active, boxes, Kept}
use Rattle.law.proofs.Steps.Steps.{rests as no_steps}
use Rattle.law.proofs.World.{none_out_at}

module _ (W : World) (P : Proper W) where
  abbrev first : Machine
  first = started W.model W.lanes W.plan

  empty : (b : ℕ) → at first b ≡ blank
  unfolding started started_with
  empty b =
      elim (cases_lt b 256) [
        | inl l ↦ get_or-replicate 256 b blank blank l
        | inr g ↦ get_or_past (replicate 256 blank) b blank g
      ]

  at_rest : Worker
  at_rest = record { inbox = []; floor = W.plan.limits.end; report = None }

  worker_cases : (w : ℕ) → (worker first w ≡ at_rest) ⊎ (worker first w ≡ idle)
  unfolding started started_with at_rest
  worker_cases w =
      elim (cases_lt w 8) [
        | inl l ↦ inl (get_or-replicate 8 w at_rest idle l)
        | inr g ↦
            inr (get_or_past (replicate 8 at_rest) w idle g)
      ]

  no_mail : (w : ℕ) → boxes none first w ≡ []
  unfolding at_rest
  no_mail w = elim (worker_cases w) [ inl e ↦ ap (λ (x : Worker). x.inbox) e | inr e ↦ ap (λ (x : Worker). x.inbox) e ]

  pub off : (f : Message → Bool) → f blank ≡ false → (b : ℕ) → f (at first b) ≡ true → ⊥
  off f h b t = both_ways _ h (rw (empty b) at t)

  pub Kept-started : Kept W (process first) none [] first
  unfolding started started_with fresh
  Kept-started = record {
    sized = record {
      messages = length-replicate 256 blank;
      places = P.full_sized;
      workers = length-replicate 8 at_rest;
      processes = refl;
    };
    ended = record { gvt_ends = omega arith; floor_ends = omega arith };
    fit = record { fits = λ b h. absurd (off (λ m. is_live m.phase) refl b h) };
    placed = record {
      out = λ b h. absurd (off (λ m. is_live m.phase) refl b h);
      rests = λ b h l. none_out_at W.lanes.full P.none_out b (let i = P.full_sized in omega arith);
    };
    boxed = record {
      moves = λ b h. absurd (off (λ m. is_transit m.phase) refl b h);
      ends = λ b h. absurd (off (λ m. m.cancelled) refl b h);
      due = λ w b i. absurd (rw (no_mail w) at i);
      homed = λ w b i. absurd (rw (no_mail w) at i);
      once = λ w. rw (no_mail w) tt;
      reached =
          λ b. elim [
            | inl h ↦ absurd (off (λ m. is_transit m.phase) refl b h)
            | inr h ↦
                absurd (off (λ m. m.cancelled) refl b h)
          ];
    };
    keyed = record {
      queues = λ w. rw (no_mail w) tt;
      arriving = λ b c h. absurd (off (λ m. is_transit m.phase) refl b h);
      arrived = λ b c h. absurd (off (λ m. is_live m.phase) refl b h);
    };
    chained = record {
      past = λ p. [];
      only = λ p b i. absurd i;
      lists = λ b h. absurd (off (λ m. is_done m.phase) refl b h);
      latest = λ p. tt;
      chain = λ p. refl;
      capped = λ p. let e = fresh-count W.model p in omega arith;
      ahead = λ d b h. absurd (off (λ m. is_done m.phase) refl d h);
    };
    sending = record {
      events = λ d h. absurd (off (λ m. is_done m.phase) refl d h);
      lasting = λ d b h. absurd (off (λ m. is_done m.phase) refl d h);
      once = λ d h. absurd (off (λ m. is_done m.phase) refl d h);
      parted = λ d d' b h. absurd (off (λ m. is_done m.phase) refl d h);
      owed_once = tt;
      owed_lasting = λ b i. absurd i;
      owed_inner = λ b i. absurd i;
      owed_parted = λ d b h i. absurd i;
      origin = λ b h. absurd (off (λ m. is_live m.phase) refl b h);
      outer_stays = λ b e. ap (λ (m : Message). m.cancelled) (empty b);
    };
    timed = record {
      lowest = λ o. absurd (both_ways _ refl o);
      covers = λ b. elim [
        | Active.moves h ↦ absurd (off (λ m. is_transit m.phase) refl b h)
        | Active.waits h ↦ absurd (off (λ m. is_pending m.phase) refl b h)
        | Active.ends h ↦ absurd (off (λ m. m.cancelled) refl b h)
      ];
    };
  }

  pub History-started : History W [] [] (start W)
  unfolding started started_with fresh
  History-started = record {
    base = process first;
    processes = fresh W.model;
    waiting = [];
    kept = Kept-started;
    waits = record { sorted = tt; there = λ b h. absurd (off (λ m. is_live m.phase) refl b h); held = λ e i. absurd i };
    stands = record { many = refl; are = λ p. refl };
    steps = no_steps;
    within = λ e i. absurd i;
    early = tt;
  }

  pub none_posted : (start W).posted ≡ 0
  unfolding started started_with
  none_posted = refl

  pub none_lent : lent (start W).places ≡ 0
  unfolding started started_with
  none_lent = P.none_out

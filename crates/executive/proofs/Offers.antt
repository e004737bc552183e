-- What the law of runs gives the calls: in every machine of a run the buffers that calls return are out of the pool.
use Rattle.std.proofs.Common.{◌≡◌, ℕ, zero, suc, ◌+◌, ◌<◌, true, List, [], ◌∷◌, ◌++◌, length, get_or, take, Some, Vec}
use Rattle.std.proofs.Common.{refl, ap, inl, add-one, arith}
use Rattle.std.proofs.lemmas.Bool.{both_ways}
use Rattle.machine.specs.declared.message.Phase.{Phase}
use Rattle.machine.specs.declared.message.Phase.TheVariants.{Free, Transit, Pending, Done}
use Rattle.machine.specs.Machine.{Machine, at, first, is_done, worker}
use Rattle.std.specs.declared.alloc.Global.{Global}
use Rattle.sequential.specs.declared.event.Line.{Line}
use Rattle.machine.specs.declared.call.Answer.{Answer}
use Rattle.machine.specs.declared.call.Call.{Call}
use Rattle.machine.specs.Calls.{World, Transcript, Run}
use Rattle.law.specs.Law.{Proper, start}
use Rattle.law.proofs.Invariant.{is_live}
use Rattle.law.proofs.Members.{In}
use Rattle.law.proofs.Offered.{inbox_lives, live_out}
use Rattle.executive.specs.Runs.{answer_of, transcript_of}
use Rattle.executive.specs.World.{Lent}

first_in : (b : ℕ) (bs : List ℕ) → first bs ≡ Some b → In b bs
first_in b [] h = absurd (grind arith)
first_in b (c ∷ cs) h = inl (cc h)

done_lives : (p : Phase) → is_done p ≡ true → is_live p ≡ true
done_lives Free h = absurd (both_ways _ refl h)
done_lives Transit h = refl
done_lives Pending h = refl
done_lives Done h = refl

pub lent_in_runs : (W : World) → Proper W → {r : Transcript} {s : Machine} → Run W (start W) r s → Lent s
lent_in_runs W P {r} {s} R = record {
  heads = λ w b h. live_out W P R b (inbox_lives W P R w b (first_in b (worker s w).inbox h));
  dones = λ b h. live_out W P R b (done_lives (at s b).phase h);
}

-- ---- transcripts

pub transcript_more : (cs : List Call) (xs : List (Answer (Vec Line Global))) (i : ℕ) (d : Call)
    (a : Answer (Vec Line Global)) → i < length cs → length xs ≡ i →
    transcript_of (take (i + 1) cs) (xs ++ a ∷ []) ≡ transcript_of (take i cs) xs ++ (get_or cs i d, answer_of a) ∷ []
transcript_more cs xs i d a l n = rw (add-one i) (go cs xs i l n)
  where
    go : (cs : List Call) (xs : List (Answer (Vec Line Global))) (i : ℕ) → i < length cs → length xs ≡ i →
        transcript_of (take (suc i) cs) (xs ++ a ∷ []) ≡ transcript_of (take i cs) xs ++
        (get_or cs i d, answer_of a) ∷ []
    go [] xs i l n = absurd (omega arith)
    go (c ∷ cs) [] zero l n = refl
    go (c ∷ cs) [] (suc i) l n = absurd (omega arith)
    go (c ∷ cs) (x ∷ xs) zero l n = absurd (omega arith)
    go (c ∷ cs) (x ∷ xs) (suc i) l n = ap (λ r. (c, answer_of x) ∷ r) (go cs xs i (omega arith) (omega arith))

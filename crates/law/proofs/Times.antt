-- The least of times and reports: what `least_time`, `inbox_time` and `least_report` answer is no later than any of
-- what they look at, and no earlier than what all of that is no earlier than.
use Rattle.std.proofs.Common.{◌≡◌, ℕ, zero, suc, ◌<◌, ◌≤◌, min, Bool, true, false, cond, List, [], ◌∷◌, length, get_or}
use Rattle.std.proofs.Common.{Some, None, Option, refl, inl, inr, arith}
use Rattle.std.proofs.lemmas.Bool.{both_ways, cond_both}
use Rattle.machine.specs.Machine.{Machine, Worker, blank, idle, least_time, inbox_time, missing, least_report}
use Rattle.machine.specs.declared.message.Message.{Message}
use Rattle.law.proofs.Invariant.{events}
use Rattle.law.proofs.Members.{In}

pub least_time_least : (ok : Message → Bool) (ms : List Message) (t : ℕ) →
    (least_time ok ms t ≤ t) × ((b : ℕ) (d : Message) → b < length ms → ok (get_or ms b d) ≡ true →
    least_time ok ms t ≤ (get_or ms b d).event.time)
least_time_least ok [] t = (omega arith, λ b d l. absurd (omega arith))
least_time_least ok (m ∷ ms) t = go (ok m) refl (least_time_least ok ms)
  where
    go : (v : Bool) → ok m ≡ v → ((t : ℕ) →
        (least_time ok ms t ≤ t) × ((b : ℕ) (d : Message) → b < length ms → ok (get_or ms b d) ≡ true →
        least_time ok ms t ≤ (get_or ms b d).event.time)) →
        (least_time ok (m ∷ ms) t ≤ t) ×
        ((b : ℕ) (d : Message) → b < length (m ∷ ms) → ok (get_or (m ∷ ms) b d) ≡ true →
        least_time ok (m ∷ ms) t ≤ (get_or (m ∷ ms) b d).event.time)
    go true h f =
        let r = f (min t m.event.time) in
        rw (h, least_time) (
          omega (arith, r.0),
          elim [ zero ↦ λ d l k. omega (arith, r.0) | suc b ↦ λ d l k. r.1 b d (omega arith) k ],
        )
    go false h f =
        let r = f t in
        rw (h, least_time) (
          r.0,
          elim [
            | zero ↦ λ d l k. absurd (both_ways _ h k)
            | suc b ↦
                λ d l k. r.1 b d (omega arith) k
          ],
        )

pub least_time_from : (ok : Message → Bool) (ms : List Message) (t x : ℕ) → x ≤ t →
    ((b : ℕ) → b < length ms → ok (get_or ms b blank) ≡ true → x ≤ (get_or ms b blank).event.time) →
    x ≤ least_time ok ms t
least_time_from ok [] t x l h = l
least_time_from ok (m ∷ ms) t x l h = least_time_from ok ms (cond (ok m) (min t m.event.time) t) x
    (cond_both (ok m) _ _ (λ y. x ≤ y) (λ k. let i = h 0 (omega arith) k in omega arith) (λ _. l))
    (λ b i k. h (suc b) (omega arith) k)

pub inbox_time_least : (s : Machine) (bs : List ℕ) (t : ℕ) →
    (inbox_time s.messages bs t ≤ t) × ((b : ℕ) → In b bs → inbox_time s.messages bs t ≤ (events s b).time)
inbox_time_least s [] t = (omega arith, λ b i. absurd i)
inbox_time_least s (c ∷ cs) t =
    let r = inbox_time_least s cs (min t (events s c).time) in
    (omega (arith, r.0), λ b. elim [ inl e ↦ rw e (omega (arith, r.0)) | inr i ↦ r.1 b i ])

pub inbox_time_from : (s : Machine) (bs : List ℕ) (t x : ℕ) → x ≤ t → ((b : ℕ) → In b bs → x ≤ (events s b).time) →
    x ≤ inbox_time s.messages bs t
inbox_time_from s [] t x l h = l
inbox_time_from s (c ∷ cs) t x l h =
    inbox_time_from s cs (min t (events s c).time) x (let i = h c (inl refl) in omega arith) (λ b i. h b (inr i))

-- ---- reports

-- once no report is missing, every worker has reported
pub missing_none : (xs : List Worker) (k : ℕ) → missing xs k ≡ 0 → (v : ℕ) → v < k → v < length xs →
    (get_or xs v idle).report ≡ None → ⊥
missing_none xs zero h v l i e = omega arith
missing_none [] (suc k) h v l i e = omega arith
missing_none (x ∷ xs) (suc k) h v l i e = go x.report refl v l i e (missing_none xs k)
  where
    go : (o : Option ℕ) → x.report ≡ o → (v : ℕ) → v < suc k → v < length (x ∷ xs) →
        (get_or (x ∷ xs) v idle).report ≡ None →
        (missing xs k ≡ 0 → (v : ℕ) → v < k → v < length xs → (get_or xs v idle).report ≡ None → ⊥) → ⊥
    go None q v l i e f = let z : suc (missing xs k) ≡ 0 = rw (q, missing) at h in omega arith
    go (Some t) q zero l i e f = grind arith
    go (Some t) q (suc v) l i e f = f (rw (q, missing) at h) v (omega arith) (omega arith) e

pub least_report_least : (xs : List Worker) (k t : ℕ) →
    (least_report xs k t ≤ t) × ((v r : ℕ) → v < k → v < length xs → (get_or xs v idle).report ≡ Some r →
    least_report xs k t ≤ r)
least_report_least xs zero t = (omega arith, λ v r l. absurd (omega arith))
least_report_least [] (suc k) t = (omega arith, λ v r l i. absurd (omega arith))
least_report_least (x ∷ xs) (suc k) t = go x.report refl (least_report_least xs k)
  where
    Goal : ℕ → Type 0
    Goal y = (y ≤ t) × ((v r : ℕ) → v < suc k → v < length (x ∷ xs) → (get_or (x ∷ xs) v idle).report ≡ Some r → y ≤ r)

    go : (o : Option ℕ) → x.report ≡ o →
        ((t : ℕ) → (least_report xs k t ≤ t) ×
        ((v r : ℕ) → v < k → v < length xs → (get_or xs v idle).report ≡ Some r → least_report xs k t ≤ r)) →
        Goal (least_report (x ∷ xs) (suc k) t)
    go None h f =
        rw (h, least_report) ((
          (f t).0,
          elim [
            | zero ↦ λ r l i e. absurd (grind arith)
            | suc v ↦ λ r l i e. (f t).1 v r (omega arith) (omega arith) e
          ],
        ))
    go (Some n) h f =
        rw (h, least_report) ((
          omega (arith, (f (min t n)).0),
          elim [
            | zero ↦ λ r l i e. let q : n ≡ r = cc in
                omega (arith, (f (min t n)).0)
            | suc v ↦ λ r l i e. (f (min t n)).1 v r (omega arith) (omega arith) e
          ],
        ))

pub least_report_from : (xs : List Worker) (k t x : ℕ) → x ≤ t →
    ((v r : ℕ) → v < k → (get_or xs v idle).report ≡ Some r → x ≤ r) → x ≤ least_report xs k t
least_report_from xs zero t x l h = l
least_report_from [] (suc k) t x l h = l
least_report_from (y ∷ ys) (suc k) t x l h = go y.report refl (least_report_from ys k)
  where
    go : (o : Option ℕ) → y.report ≡ o →
        ((t x : ℕ) → x ≤ t → ((v r : ℕ) → v < k → (get_or ys v idle).report ≡ Some r → x ≤ r) →
        x ≤ least_report ys k t) → x ≤ least_report (y ∷ ys) (suc k) t
    go None e f = rw (e, least_report) (f t x l (λ v r i q. h (suc v) r (omega arith) q))
    go (Some n) e f =
        rw (e, least_report) (f (min t n) x (let i = h 0 n (omega arith) e in omega arith)
        (λ v r i q. h (suc v) r (omega arith) q))

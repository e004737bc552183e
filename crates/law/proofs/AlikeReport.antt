-- Two machines that differ in the names of their buffers open rounds and report alike: times do not depend on names.
use Rattle.std.proofs.Common.{◌≡◌, ℕ, zero, suc, ◌≤◌, min, Bool, true, List, [], ◌∷◌, map, Some, None, Option, sym}
use Rattle.std.proofs.Common.{refl, ap, ◌∙◌, subst, ap₂, inl, inr, arith}
use Rattle.machine.specs.Machine.{Machine, Worker, blank, at, worker, least_time, inbox_time, report_of, missing}
use Rattle.machine.specs.Machine.{least_report, telling, with_report, closed, reported, opened, clearing}
use Rattle.machine.specs.declared.message.Message.{Message}
use Rattle.machine.specs.declared.plan.Plan.{Plan}
use Rattle.law.proofs.Alike.{renamed, relabelled, Alike, live_there, worker_there, Alike-worker}
use Rattle.law.proofs.Invariant.{is_live, lives, events}
use Rattle.law.proofs.Members.{In}
use Rattle.law.proofs.Parts.{live_within}
use Rattle.law.proofs.Picks.{ready, Ready-parts, pending_stands}
use Rattle.law.proofs.Times.{least_time_least, least_time_from}

cleared_relabelled : (f : ℕ → ℕ) (end : ℕ) (xs : List Worker) →
    map (clearing end) (map (relabelled f) xs) ≡ map (relabelled f) (map (clearing end) xs)
cleared_relabelled f end [] = refl
cleared_relabelled f end (x ∷ xs) = rw (cleared_relabelled f end xs) refl

missing-relabelled : (f : ℕ → ℕ) (xs : List Worker) (k : ℕ) → missing (map (relabelled f) xs) k ≡ missing xs k
missing-relabelled f xs zero = refl
missing-relabelled f [] (suc k) = refl
missing-relabelled f (x ∷ xs) (suc k) = go x.report refl (missing-relabelled f xs k)
  where
    go : (o : Option ℕ) → x.report ≡ o → missing (map (relabelled f) xs) k ≡ missing xs k →
        missing (map (relabelled f) (x ∷ xs)) (suc k) ≡ missing (x ∷ xs) (suc k)
    go None h r = rw (h, missing) (ap suc r)
    go (Some t) h r = rw (h, missing) r

least_report-relabelled : (f : ℕ → ℕ) (xs : List Worker) (k t : ℕ) →
    least_report (map (relabelled f) xs) k t ≡ least_report xs k t
least_report-relabelled f xs zero t = refl
least_report-relabelled f [] (suc k) t = refl
least_report-relabelled f (x ∷ xs) (suc k) t = go x.report refl (least_report-relabelled f xs k)
  where
    go : (o : Option ℕ) → x.report ≡ o → ((t : ℕ) → least_report (map (relabelled f) xs) k t ≡ least_report xs k t) →
        least_report (map (relabelled f) (x ∷ xs)) (suc k) t ≡ least_report (x ∷ xs) (suc k) t
    go None h r = rw (h, least_report) (r t)
    go (Some n) h r = rw (h, least_report) (r (min t n))

module _ {f g : ℕ → ℕ} {s s' : Machine} (A : Alike f g s s') where
  pub opened-Alike : (u : Plan) → Alike f g (opened u s) (opened u s')
  unfolding opened
  opened-Alike u = record {
    named = A.named;
    pooled = A.pooled;
    workers = ap (map (clearing u.limits.end)) A.workers ∙ cleared_relabelled f u.limits.end s.workers;
    sized = A.sized;
    sized' = A.sized';
    processes = A.processes;
    posted = A.posted;
    floor = refl;
    rounding = refl;
    gvt = A.gvt;
  }

  pub missing-Alike : (k : ℕ) → missing s'.workers k ≡ missing s.workers k
  missing-Alike k = ap (λ (xs : List Worker). missing xs k) A.workers ∙ missing-relabelled f s.workers k

  least_report-Alike : (k : ℕ) → least_report s'.workers k s'.floor ≡ least_report s.workers k s.floor
  least_report-Alike k = ap₂ (λ (xs : List Worker) (t : ℕ). least_report xs k t) A.workers A.floor ∙
      least_report-relabelled f s.workers k s.floor

  inbox_time-Alike : (bs : List ℕ) (t : ℕ) → ((c : ℕ) → In c bs → lives s c ≡ true) →
      inbox_time s'.messages (map f bs) t ≡ inbox_time s.messages bs t
  inbox_time-Alike [] t l = refl
  inbox_time-Alike (b ∷ bs) t l =
      ap (λ (m : Message). inbox_time s'.messages (map f bs) (min t m.event.time)) (A.named.is b (l b (inl refl))) ∙
      inbox_time-Alike bs (min t (events s b).time) (λ c i. l c (inr i))

  least_time-Alike : (ok : Message → Bool) (t : ℕ) → ((m : Message) → ok (renamed f m) ≡ ok m) →
      ((m : Message) → ok m ≡ true → is_live m.phase ≡ true) → least_time ok s'.messages t ≡ least_time ok s.messages t
  least_time-Alike ok t blind live = omega (arith, under, over)
    where
      under : least_time ok s.messages t ≤ least_time ok s'.messages t
      under = least_time_from ok s'.messages t _ (least_time_least ok s.messages t).0 (λ b _ k.
          let x = A.named.back b (live _ k) in
          let e : at s' b ≡ renamed f (at s (g b)) = subst (λ (c : ℕ). at s' c ≡ renamed f (at s (g b))) x.1
          (A.named.is (g b) x.0) in
          let y = (least_time_least ok s.messages t).1 (g b) blank (live_within s (g b) x.0)
          (sym (blind (at s (g b))) ∙ (sym (ap ok e) ∙ k)) in
          let z = ap (λ (m : Message). m.event.time) e in omega arith)

      over : least_time ok s'.messages t ≤ least_time ok s.messages t
      over = least_time_from ok s.messages t _ (least_time_least ok s'.messages t).0 (λ b _ k.
          let e = A.named.is b (live _ k) in
          let y = (least_time_least ok s'.messages t).1 (f b) blank (live_within s' (f b) (live_there A b (live _ k)))
          (ap ok e ∙ (blind (at s b) ∙ k)) in
          let z = ap (λ (m : Message). m.event.time) e in omega arith)

  module _ (u : Plan) (w : ℕ) (mail : (c : ℕ) → In c (worker s w).inbox → lives s c ≡ true) where
    report_of-Alike : report_of u w s' ≡ report_of u w s
    unfolding report_of
    report_of-Alike =
        ap (λ (x : Worker). inbox_time s'.messages x.inbox
        (least_time (ready u w) s'.messages (min u.limits.end x.floor))) (worker_there A w)
        ∙ (ap (inbox_time s'.messages (map f (worker s w).inbox))
        (least_time-Alike (ready u w) _ (λ m. refl) (λ m h. (pending_stands m (Ready-parts u w m h).0).0)) ∙
        inbox_time-Alike (worker s w).inbox _ mail)

    with_report-Alike : Alike f g (with_report u w s) (with_report u w s')
    unfolding with_report
    with_report-Alike =
        Alike-worker A w (telling (report_of u w s) (worker s w)) (telling (report_of u w s') (worker s' w))
        (ap₂ telling report_of-Alike (worker_there A w))

abbrev over : Plan → Machine → Machine
over u s = closed (least_report s.workers u.workers s.floor) s

reported_last : (u : Plan) (w : ℕ) (s : Machine) → missing (with_report u w s).workers u.workers ≡ 0 →
    reported u w s ≡ over u (with_report u w s)
unfolding reported
reported_last u w s h = rw (h, reported) refl

reported_more : (u : Plan) (w : ℕ) (s : Machine) (k : ℕ) → missing (with_report u w s).workers u.workers ≡ suc k →
    reported u w s ≡ with_report u w s
unfolding reported
reported_more u w s k h = rw (h, reported) refl

over-Alike : {f g : ℕ → ℕ} {s s' : Machine} (u : Plan) → Alike f g s s' → Alike f g (over u s) (over u s')
over-Alike u A = record {
  named = A.named;
  pooled = A.pooled;
  workers = A.workers;
  sized = A.sized;
  sized' = A.sized';
  processes = A.processes;
  posted = A.posted;
  floor = A.floor;
  rounding = refl;
  gvt = least_report-Alike A u.workers;
}

pub reported-Alike : {f g : ℕ → ℕ} {s s' : Machine} (u : Plan) (w : ℕ) →
    ((c : ℕ) → In c (worker s w).inbox → lives s c ≡ true) → Alike f g s s' →
    Alike f g (reported u w s) (reported u w s')
reported-Alike {f} {g} {s} {s'} u w mail A = go (missing (with_report u w s).workers u.workers) refl
  where
    T : Alike f g (with_report u w s) (with_report u w s')
    T = with_report-Alike A u w mail

    go : (k : ℕ) → missing (with_report u w s).workers u.workers ≡ k → Alike f g (reported u w s) (reported u w s')
    go zero h = rw (reported_last u w s h, reported_last u w s' (missing-Alike T u.workers ∙ h)) (over-Alike u T)
    go (suc k) h = rw (reported_more u w s k h, reported_more u w s' k (missing-Alike T u.workers ∙ h)) T

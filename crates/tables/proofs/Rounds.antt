-- The first workers counted, and the turns of the loop over an inbox.
-- All four are about definitions of the machine's own, `missing`, `least_report` and `inbox_time`: the library has none.
use Rattle.std.specs.List.{fold, filter_map}
use Rattle.std.proofs.lemmas.List.Sums.{sum_by-cons}
use Rattle.tables.specs.Reports.{is_missing}
use Rattle.std.proofs.Common.{zero, [], ◌∷◌, Option, refl, cond, count_by, ◌≡◌, ℕ, suc, ◌+◌, ◌<◌, ◌≤◌, min, List}
use Rattle.std.proofs.Common.{length, get_or, take, drop, Some, None, arith}
use Rattle.std.proofs.lemmas.List.{drop_more, drop_all}
use Rattle.machine.specs.declared.message.Message.{Message}
use Rattle.machine.specs.Machine.{Worker, blank, missing, least_report, inbox_time}

-- the first k workers counted, and their least report found, by the library's words
pub missing_first : (ws : List Worker) (k : ℕ) → count_by is_missing (take k ws) ≡ missing ws k
missing_first [] zero = refl
missing_first [] (suc k) = refl
missing_first (x ∷ ws) zero = refl
missing_first (x ∷ ws) (suc k) = go (missing_first ws k) x.report refl
  where
    go : count_by is_missing (take k ws) ≡ missing ws k → (o : Option ℕ) → x.report ≡ o →
        count_by is_missing (x ∷ take k ws) ≡ missing (x ∷ ws) (suc k)
    go r None e = rw (sum_by-cons (λ (y : Worker). cond (is_missing y) 1 0) x (take k ws), e, missing)
        (omega (arith, r))
    go r (Some t) e = rw (sum_by-cons (λ (y : Worker). cond (is_missing y) 1 0) x (take k ws), e, missing)
        (omega (arith, r))

pub least_first : (ws : List Worker) (k t : ℕ) → fold min t (filter_map (λ (x : Worker). x.report) (take k ws))
    ≡ least_report ws k t
least_first [] zero t = refl
least_first [] (suc k) t = refl
least_first (x ∷ ws) zero t = refl
least_first (x ∷ ws) (suc k) t = go (least_first ws k) x.report refl
  where
    go : ((u : ℕ) → fold min u (filter_map (λ (y : Worker). y.report) (take k ws)) ≡ least_report ws k u) →
        (o : Option ℕ) → x.report ≡ o → fold min t (filter_map (λ (y : Worker). y.report) (x ∷ take k ws))
        ≡ least_report (x ∷ ws) (suc k) t
    go r None e = rw (e, least_report) (r t)
    go r (Some u) e = rw (e, least_report) (r (min t u))

pub inbox_more : (ms : List Message) (bs : List ℕ) (i x t : ℕ) → i < length bs → x ≡ get_or bs i 0 →
    inbox_time ms (drop i bs) t ≡ inbox_time ms (drop (i + 1) bs) (min t (get_or ms x blank).event.time)
inbox_more ms bs i x t h e = rw (drop_more bs i 0 h, ← e)

pub inbox_all : (ms : List Message) (bs : List ℕ) (i t : ℕ) → length bs ≤ i → inbox_time ms (drop i bs) t ≡ t
inbox_all ms bs i t h = rw (drop_all i bs h)

-- What is closed stays so, and with it the order of what was opened.
use Rattle.std.proofs.Common.{◌≡◌, ◌⊎◌, inl, inr, ℕ, ◌+◌, ◌<◌, ◌≤◌, true, false, length, sym, ap, ◌∙◌, arith}
use Rattle.std.specs.Prelude.{◌&&◌, not}
use Rattle.std.proofs.lemmas.Bool.{cases_eq, cases_lt}
use Rattle.base.specs.Machine.{is_closed, precedes}
use Rattle.taskgraph.specs.declared.Stage.{Stage}
use Rattle.taskgraph.specs.Board.{Board, plan_in, condition_of, stage_at}
use Rattle.taskgraph.specs.Waiting.{AreClosed, IsOrdered, is_barrier, is_begun, is_deferred}
use Rattle.taskgraph.proofs.Counts.{closed_in, set_at, stage_kept, stage_set}
use Rattle.taskgraph.proofs.Readiness.{freed}

pub closed_stays : (b : Board) (i k : ℕ) (st : Stage) (place : ℕ) → closed_in b i ≡ false → closed_in b k ≡ true →
    closed_in (set_at b i st place) k ≡ true
closed_stays b i k st place not_yet e = go (cases_eq k i)
  where
    go : (k ≡ i) ⊎ (k ≡ i → ⊥) → closed_in (set_at b i st place) k ≡ true
    go (inl same) = absurd (let bad : closed_in b i ≡ true = ap (closed_in b) (sym same) ∙ e in cc)
    go (inr ne) = ap (λ x. is_closed (condition_of x)) (stage_kept b i k st place ne) ∙ e

pub all_stay : (b : Board) (i n : ℕ) (st : Stage) (place : ℕ) → closed_in b i ≡ false → AreClosed b n →
    AreClosed (set_at b i st place) n
all_stay b i n st place not_yet h = λ k lt d. closed_stays b i k st place not_yet (h k lt d)

pub ordered : (b : Board) (i : ℕ) (st : Stage) (place : ℕ) → IsOrdered b → i < length b.stages → closed_in b i ≡ false →
    place ≤ length b.tasks →
    (is_begun st ≡ true → (k : ℕ) → precedes (plan_in b) k i ≡ true → closed_in b k ≡ true) →
    ((w : ℕ) → b.place ≤ w → w < place → is_barrier (plan_in b) w ≡ true → AreClosed b w) →
    IsOrdered (set_at b i st place)
ordered b i st place h lt not_yet within here passed =
    record {
      inside = within;
      begun = λ k j e p. closed_stays b i k st place not_yet (begun k j (cases_eq j i) e p);
      barred = λ w less e. all_stay b i w st place not_yet (barred w less e (cases_lt w b.place));
    }
  where
    begun : (k j : ℕ) → (j ≡ i) ⊎ (j ≡ i → ⊥) → is_begun (stage_at (set_at b i st place) j) ≡ true →
        precedes (plan_in b) k j ≡ true → closed_in b k ≡ true
    begun k j (inl same) e p =
        here (ap is_begun (sym (stage_set b i st place lt) ∙ ap (stage_at (set_at b i st place)) (sym same)) ∙ e) k
        (ap (precedes (plan_in b) k) (sym same) ∙ p)
    begun k j (inr ne) e p = h.begun k j (ap is_begun (sym (stage_kept b i j st place ne)) ∙ e) p

    barred : (w : ℕ) → w < place → is_barrier (plan_in b) w ≡ true → (w < b.place) ⊎ (b.place ≤ w) → AreClosed b w
    barred w less e (inl below) = h.barred w below e
    barred w less e (inr above) = passed w above less e

-- one item more is closed where it is deferred
pub one_closed : (b : Board) (n : ℕ) → AreClosed b n → (is_deferred (plan_in b) n && not (closed_in b n)) ≡ false →
    AreClosed b (n + 1)
one_closed b n h e = λ i lt d. go i (cases_eq i n) lt d
  where
    go : (i : ℕ) → (i ≡ n) ⊎ (i ≡ n → ⊥) → i < n + 1 → is_deferred (plan_in b) i ≡ true → closed_in b i ≡ true
    go i (inl same) lt d =
        ap (closed_in b) same
        ∙ freed (is_deferred (plan_in b) n) (closed_in b n) e (ap (is_deferred (plan_in b)) (sym same) ∙ d)
    go i (inr ne) lt d = h i (omega (arith, lt, ne)) d

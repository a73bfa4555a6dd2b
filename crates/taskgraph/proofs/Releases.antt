-- A task that is released: the counts that lose it, and those that keep.
use Rattle.std.proofs.Common.{◌≡◌, ◌⊎◌, inl, inr, ℕ, ◌+◌, ◌-◌, ◌<◌, ◌≤◌, Bool, true, false, List, length, Some, refl, sym, ap, subst, ◌∙◌, arith}
use Rattle.std.specs.Prelude.{◌&&◌, nat_le, nat_lt, slice_get, slice_index}
use Rattle.std.specs.List.{slice_set}
use Rattle.std.proofs.lemmas.Bool.{cases_eq, cases_lt}
use Rattle.std.proofs.lemmas.Bool.Decides.{nat_tests}
use Rattle.std.proofs.lemmas.List.{get_or-set_same, get_or-set_other, length-set}
use Rattle.std.proofs.Math.Bool.{and-false}
use Rattle.base.specs.Machine.{is_predecessor, precedes, on_item}
use Rattle.taskgraph.specs.declared.Task.{Task}
use Rattle.taskgraph.specs.Board.{Board, work_of, task_facts, plan_in, untouched}
use Rattle.taskgraph.specs.Waiting.{counted_in, is_counted, one_if, plan_for}
use Rattle.taskgraph.proofs.Pairs.{facts_in, precedes_is}

-- an item precedes none before it
pub none_before : (b : Board) (i j : ℕ) → j ≤ i → precedes (plan_in b) i j ≡ false
none_before b i j le =
    let late : nat_lt i j ≡ false = grind (arith, nat_tests) in
    ap (λ x. x && on_item (plan_in b) i false (λ v. on_item (plan_in b) j false (λ w. is_predecessor v w))) late

-- nor is it counted for one
pub uncounted : (b : Board) (s i j : ℕ) → j ≤ i → is_counted (plan_in b) s i j ≡ false
uncounted b s i j le = ap (λ x. nat_le s i && x) (none_before b i j le) ∙ and-false (nat_le s i)

pub precedes_tasks : (ts : List Task) (i j : ℕ) (t u : Task) → slice_get ts i ≡ Some t → slice_get ts j ≡ Some u → i < j →
    precedes (plan_for ts) i j ≡ is_predecessor (work_of (task_facts t)) (work_of (task_facts u))
precedes_tasks ts i j t u e f lt = precedes_is (untouched (facts_in ts)) ts i j t u refl e f lt

-- what the counts before and after one step of the loop are to each other
pub record Loop (ts : List Task) (starts : List ℕ) (item later : ℕ) (old now : List ℕ) : Type 0 where
  pub same : length now ≡ length ts
  pub past : (j : ℕ) → j < later → j < length ts →
      slice_index now j + one_if (counted_in ts starts item j) ≡ slice_index old j
  pub ahead : (j : ℕ) → later ≤ j → j < length ts → slice_index now j ≡ slice_index old j

-- one count is taken down
pub down : (ts : List Task) (starts : List ℕ) (item later : ℕ) (old now : List ℕ) → Loop ts starts item later old now → later < length ts →
    counted_in ts starts item later ≡ true → 1 ≤ slice_index now later →
    Loop ts starts item (later + 1) old (slice_set now later (slice_index now later - 1))
down ts starts item later old now h lt e pos =
    let set = slice_set now later (slice_index now later - 1) in
    let here : slice_index set later ≡ slice_index now later - 1 =
    get_or-set_same now later (slice_index now later - 1) 0 (omega (arith, lt, h.same)) in
    let one : one_if (counted_in ts starts item later) ≡ 1 = ap one_if e in
    let now_is : slice_index now later ≡ slice_index old later = h.ahead later (omega arith) lt in
    let at : slice_index set later + one_if (counted_in ts starts item later) ≡ slice_index old later =
    omega (arith, here, one, now_is, pos) in
    record {
      same = length-set now later (slice_index now later - 1) ∙ h.same;
      past = λ j below inside. elim (cases_eq j later) [
        | inl q ↦ subst (λ k. slice_index set k + one_if (counted_in ts starts item k) ≡ slice_index old k) (sym q) at
        | inr ne ↦
            let kept : slice_index set j ≡ slice_index now j =
            get_or-set_other now later j (slice_index now later - 1) 0 ne in
            let before = h.past j (omega (arith, below, ne)) inside in omega (arith, kept, before)
      ];
      ahead = λ j above inside.
          let kept : slice_index set j ≡ slice_index now j =
          get_or-set_other now later j (slice_index now later - 1) 0 (λ q. omega (arith, above, q)) in
          kept ∙ h.ahead j (omega (arith, above)) inside;
    }

-- and one is not
pub skip : (ts : List Task) (starts : List ℕ) (item later : ℕ) (old now : List ℕ) → Loop ts starts item later old now →
    counted_in ts starts item later ≡ false → Loop ts starts item (later + 1) old now
skip ts starts item later old now h e =
    let none : one_if (counted_in ts starts item later) ≡ 0 = ap one_if e in
    record {
      same = h.same;
      past = λ j below inside. elim (cases_eq j later) [
        | inl q ↦
            let now_is : slice_index now later ≡ slice_index old later =
            h.ahead later (omega arith) (subst (λ k. k < length ts) q inside) in
            subst (λ k. slice_index now k + one_if (counted_in ts starts item k) ≡ slice_index old k) (sym q)
            (omega (arith, none, now_is))
        | inr ne ↦ h.past j (omega (arith, below, ne)) inside
      ];
      ahead = λ j above inside. h.ahead j (omega (arith, above)) inside;
    }

-- before the first step
pub begins : (ts : List Task) (starts : List ℕ) (item : ℕ) (old : List ℕ) → length old ≡ length ts →
    Loop ts starts item (item + 1) old old
begins ts starts item old same =
    record {
      same = same;
      past = λ j below inside.
          let none : one_if (counted_in ts starts item j) ≡ 0 =
          ap one_if (uncounted (untouched (facts_in ts)) (slice_index starts j) item j (omega (arith, below))) in
          omega (arith, none);
      ahead = λ j above inside. refl;
    }

-- no item that lies past the end has it in its count
pub beyond : (ts : List Task) (starts : List ℕ) (item end later : ℕ) (old now : List ℕ) → Loop ts starts item later old now →
    ((j : ℕ) → j < length ts → counted_in ts starts item j ≡ true → j < end) → end ≤ later → (j : ℕ) → j < length ts →
    slice_index now j + one_if (counted_in ts starts item j) ≡ slice_index old j
beyond ts starts item end later old now h all le j inside = go (cases_lt j later)
  where
    none : later ≤ j → (x : Bool) → counted_in ts starts item j ≡ x → one_if x ≡ 0
    none above false e = refl
    none above true e = let lt = all j inside e in absurd (omega (arith, lt, le, above))

    go : (j < later) ⊎ (later ≤ j) → slice_index now j + one_if (counted_in ts starts item j) ≡ slice_index old j
    go (inl below) = h.past j below inside
    go (inr above) =
        let zero = none above (counted_in ts starts item j) refl in
        let same = h.ahead j above inside in
        omega (arith, zero, same)

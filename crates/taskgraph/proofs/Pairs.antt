-- Which tasks precede which.
use Rattle.std.proofs.Common.{◌≡◌, ℕ, zero, suc, ◌+◌, ◌<◌, ◌≤◌, Bool, true, false, List, map, Option, Some, None, refl, ap, ◌∙◌, arith, add-one}
use Rattle.std.specs.Prelude.{◌&&◌, not, nat_le, nat_lt, slice_get, option_map}
use Rattle.std.proofs.lemmas.Bool.{le-leb, lt-ltb}
use Rattle.std.proofs.lemmas.Bool.Decides.{nat_tests}
use Rattle.std.proofs.lemmas.Option.{slice_get-map}
use Rattle.std.proofs.Math.Bool.{and-true}
use Rattle.base.specs.Items.{Work}
use Rattle.base.specs.Machine.{is_closed, is_predecessor, precedes}
use Rattle.taskgraph.specs.declared.Task.{Task}
use Rattle.taskgraph.specs.Board.{Facts, Board, task_facts, work_of, untouched, plan_in, state_in}
use Rattle.taskgraph.specs.Waiting.{is_counted, one_if, held_by}

abbrev pub facts_in : List Task → List Facts
facts_in ts = map task_facts ts

pub work_at : (ts : List Task) (i : ℕ) (t : Task) → slice_get ts i ≡ Some t →
    slice_get (map work_of (facts_in ts)) i ≡ Some (work_of (task_facts t))
work_at ts i t e =
    slice_get-map work_of (facts_in ts) i ∙ ap (option_map work_of) (slice_get-map task_facts ts i)
    ∙ ap (λ o. option_map work_of (option_map task_facts o)) e

abbrev asked : ℕ → ℕ → Option Work → Option Work → Bool
asked k j o p =
    nat_lt k j && elim o [ None ↦ false | Some v ↦ elim p [ None ↦ false | Some w ↦ is_predecessor v w ] ]

-- of two tasks the earlier precedes the later where it is its predecessor
pub precedes_is : (b : Board) (ts : List Task) (k j : ℕ) (t u : Task) → b.tasks ≡ facts_in ts → slice_get ts k ≡ Some t →
    slice_get ts j ≡ Some u → k < j →
    precedes (plan_in b) k j ≡ is_predecessor (work_of (task_facts t)) (work_of (task_facts u))
precedes_is b ts k j t u same e f lt =
    ap (λ fs. asked k j (slice_get (map work_of fs) k) (slice_get (map work_of fs) j)) same
    ∙ ap (λ o. asked k j o (slice_get (map work_of (facts_in ts)) j)) (work_at ts k t e)
    ∙ ap (asked k j (Some (work_of (task_facts t)))) (work_at ts j u f)
    ∙ ap (λ x. x && is_predecessor (work_of (task_facts t)) (work_of (task_facts u))) (lt-ltb k j lt)

-- counting one task more
one_more : (ts : List Task) (s k j : ℕ) (t u : Task) → slice_get ts k ≡ Some t → slice_get ts j ≡ Some u → s ≤ k → k < j →
    held_by (untouched (facts_in ts)) s j (suc k)
    ≡ held_by (untouched (facts_in ts)) s j k + one_if (is_predecessor (work_of (task_facts t)) (work_of (task_facts u)))
unfolding held_by
one_more ts s k j t u e f le lt =
    ap (λ x. held_by (untouched (facts_in ts)) s j k + one_if x)
    (and-true (is_counted (plan_in (untouched (facts_in ts))) s k j)
    ∙ ap (λ x. x && precedes (plan_in (untouched (facts_in ts))) k j) (le-leb s k le)
    ∙ precedes_is (untouched (facts_in ts)) ts k j t u refl e f lt)

pub counted : (ts : List Task) (s k j : ℕ) (t u : Task) → slice_get ts k ≡ Some t → slice_get ts j ≡ Some u → s ≤ k → k < j →
    is_predecessor (work_of (task_facts t)) (work_of (task_facts u)) ≡ true →
    held_by (untouched (facts_in ts)) s j (k + 1) ≡ held_by (untouched (facts_in ts)) s j k + 1
counted ts s k j t u e f le lt p =
    ap (held_by (untouched (facts_in ts)) s j) (add-one k) ∙ one_more ts s k j t u e f le lt ∙ ap (λ x. held_by (untouched (facts_in ts)) s j k + one_if x) p

pub passed : (ts : List Task) (s k j : ℕ) (t u : Task) → slice_get ts k ≡ Some t → slice_get ts j ≡ Some u → s ≤ k → k < j →
    is_predecessor (work_of (task_facts t)) (work_of (task_facts u)) ≡ false →
    held_by (untouched (facts_in ts)) s j (k + 1) ≡ held_by (untouched (facts_in ts)) s j k + 0
passed ts s k j t u e f le lt p =
    ap (held_by (untouched (facts_in ts)) s j) (add-one k) ∙ one_more ts s k j t u e f le lt ∙ ap (λ x. held_by (untouched (facts_in ts)) s j k + one_if x) p

-- none is counted before the start
before : (b : Board) (s j n : ℕ) → n ≤ s → 0 ≡ held_by b s j n
unfolding held_by
before b s j zero le = refl
before b s j (suc n) le =
    let late : nat_le s n ≡ false = grind (arith, nat_tests) in
    let none : one_if ((nat_le s n && precedes (plan_in b) n j) && not (is_closed ((state_in b).condition n))) ≡ 0 =
    ap (λ x. one_if ((x && precedes (plan_in b) n j) && not (is_closed ((state_in b).condition n)))) late in
    let rest = before b s j n (omega (arith, le)) in
    omega (arith, none, rest)

pub none_yet : (fs : List Facts) (s j : ℕ) → 0 ≡ held_by (untouched fs) s j s
none_yet fs s j = before (untouched fs) s j s (omega arith)

-- Marks, where the answer for one item changes.
use Rattle.std.proofs.Common.{◌≡◌, ◌⊎◌, inl, inr, ℕ, ◌<◌, ◌≤◌, Bool, true, false, List, length, Option, Some, None, replicate, refl, sym, ap, ◌∙◌, arith}
use Rattle.std.specs.Prelude.{◌==◌, ◌&&◌, not, slice_get, slice_index}
use Rattle.std.specs.List.{slice_index_or, slice_set}
use Rattle.std.proofs.lemmas.Bool.{cases_eq, cases_lt, ne_eqb}
use Rattle.std.proofs.lemmas.List.{get_or-replicate, get_or-set_same, get_or-set_other, length-replicate, length-set}
use Rattle.std.proofs.Math.Bool.{and-false}
use Rattle.base.specs.Machine.{is_wait, is_waiting}
use Rattle.taskgraph.specs.declared.Stage.{Stage}
use Rattle.taskgraph.specs.declared.Stage.TheVariants as stage
use Rattle.taskgraph.specs.Board.{Facts, condition_of}
use Rattle.taskgraph.specs.Marks.{is_marked}
use Rattle.taskgraph.specs.Waiting.{AreFree, AreMarks, is_free, is_free_at}
use Rattle.taskgraph.proofs.Rows.{past}

-- where the answers are the same, the marks are
pub marks_same : (n : ℕ) (p q : ℕ → Bool) (marks : List Bool) → AreMarks n p marks → ((i : ℕ) → p i ≡ q i) → AreMarks n q marks
marks_same n p q marks h e = record { long = h.long; each = λ i. h.each i ∙ e i }

-- where one answer changes, its mark is set
pub marks_set : (n i : ℕ) (p q : ℕ → Bool) (marks : List Bool) (x : Bool) → AreMarks n p marks → i < n → q i ≡ x →
    ((k : ℕ) → (k ≡ i → ⊥) → p k ≡ q k) → AreMarks n q (slice_set marks i x)
marks_set n i p q marks x h lt here others =
    record { long = length-set marks i x ∙ h.long; each = λ k. go k (cases_eq k i) }
  where
    go : (k : ℕ) → (k ≡ i) ⊎ (k ≡ i → ⊥) → is_marked (slice_set marks i x) k ≡ q k
    go k (inl e) =
        ap (is_marked (slice_set marks i x)) e ∙ get_or-set_same marks i x false (omega (arith, lt, h.long))
        ∙ sym here ∙ ap q (sym e)
    go k (inr ne) = get_or-set_other marks i k x false ne ∙ h.each k ∙ others k ne

-- no item is marked where each answer is no
pub marks_none : (n : ℕ) (p : ℕ → Bool) → ((i : ℕ) → p i ≡ false) → AreMarks n p (replicate n false)
marks_none n p none = record { long = length-replicate n false; each = λ i. go i (cases_lt i n) ∙ sym (none i) }
  where
    go : (i : ℕ) → (i < n) ⊎ (n ≤ i) → is_marked (replicate n false) i ≡ false
    go i (inl lt) = get_or-replicate n i false false lt
    go i (inr le) = past (replicate n false) i (omega (arith, le, length-replicate n false))

-- ---- the deferred items that may be opened

abbrev pub free_in : List Stage → List ℕ → ℕ → Option Facts → Bool
free_in stages counts i o =
    elim o [ None ↦ false | Some f ↦ is_free f (slice_index_or stages i stage.Untouched) (slice_index counts i) ]

-- one whose stage and count are the same
pub free_same : (tasks : List Facts) (ss ts : List Stage) (ns ms : List ℕ) (i : ℕ) →
    slice_index_or ss i stage.Untouched ≡ slice_index_or ts i stage.Untouched → slice_index ns i ≡ slice_index ms i →
    is_free_at tasks ss ns i ≡ is_free_at tasks ts ms i
free_same tasks ss ts ns ms i e f = go (slice_get tasks i)
  where
    go : (o : Option Facts) → free_in ss ns i o ≡ free_in ts ms i o
    go None = refl
    go (Some t) =
        ap (λ st. is_free t st (slice_index ns i)) e ∙ ap (is_free t (slice_index_or ts i stage.Untouched)) f

-- one whose facts, stage and count are known
pub free_here : (tasks : List Facts) (ss : List Stage) (ns : List ℕ) (i n : ℕ) (f : Facts) (st : Stage) →
    slice_get tasks i ≡ Some f → slice_index_or ss i stage.Untouched ≡ st → slice_index ns i ≡ n →
    is_free_at tasks ss ns i ≡ is_free f st n
free_here tasks ss ns i n f st is at count =
    ap (free_in ss ns i) is ∙ ap (λ st. is_free f st (slice_index ns i)) at ∙ ap (is_free f st) count

-- one that is not at the stage for it
pub free_stage : (tasks : List Facts) (ss : List Stage) (ns : List ℕ) (i : ℕ) (st : Stage) →
    slice_index_or ss i stage.Untouched ≡ st → is_waiting true (condition_of st) ≡ false → is_free_at tasks ss ns i ≡ false
free_stage tasks ss ns i st e f = go (slice_get tasks i)
  where
    go : (o : Option Facts) → free_in ss ns i o ≡ false
    go None = refl
    go (Some t) =
        ap (λ st. is_free t st (slice_index ns i)) e
        ∙ ap (λ x. (t.deferred && not (is_wait t.kind)) && (x && (slice_index ns i == 0))) f
        ∙ and-false (t.deferred && not (is_wait t.kind))

-- and one that has a predecessor left
pub free_held : (tasks : List Facts) (ss : List Stage) (ns : List ℕ) (i : ℕ) → 1 ≤ slice_index ns i →
    is_free_at tasks ss ns i ≡ false
free_held tasks ss ns i pos = go (slice_get tasks i)
  where
    go : (o : Option Facts) → free_in ss ns i o ≡ false
    go None = refl
    go (Some t) =
        let at = slice_index_or ss i stage.Untouched in
        ap (λ x. (t.deferred && not (is_wait t.kind)) && (is_waiting true (condition_of at) && x))
        (ne_eqb (slice_index ns i) 0 (λ e. omega (arith, pos, e)))
        ∙ ap (λ x. (t.deferred && not (is_wait t.kind)) && x) (and-false (is_waiting true (condition_of at)))
        ∙ and-false (t.deferred && not (is_wait t.kind))

-- ---- one stage or count is set

-- the stage of an item that is not generated is set to another such
pub stage_set_free : (tasks : List Facts) (ss : List Stage) (ns : List ℕ) (i : ℕ) (st was : Stage) (marks : List Bool) →
    i < length ss → slice_index_or ss i stage.Untouched ≡ was → is_waiting true (condition_of was) ≡ false →
    is_waiting true (condition_of st) ≡ false → AreFree tasks ss ns marks → AreFree tasks (slice_set ss i st) ns marks
stage_set_free tasks ss ns i st was marks lt at before after h =
    marks_same (length tasks) (is_free_at tasks ss ns) (is_free_at tasks (slice_set ss i st) ns) marks h (λ k. go k (cases_eq k i))
  where
    go : (k : ℕ) → (k ≡ i) ⊎ (k ≡ i → ⊥) → is_free_at tasks ss ns k ≡ is_free_at tasks (slice_set ss i st) ns k
    go k (inr ne) = free_same tasks ss (slice_set ss i st) ns ns k (sym (get_or-set_other ss i k st stage.Untouched ne)) refl
    go k (inl e) =
        ap (is_free_at tasks ss ns) e ∙ free_stage tasks ss ns i was at before
        ∙ sym (free_stage tasks (slice_set ss i st) ns i st (get_or-set_same ss i st stage.Untouched lt) after)
        ∙ ap (is_free_at tasks (slice_set ss i st) ns) (sym e)

-- a stage is set, and the mark with it
pub stage_set_mark : (tasks : List Facts) (ss : List Stage) (ns : List ℕ) (i n : ℕ) (st : Stage) (f : Facts) (marks : List Bool) →
    i < length ss → slice_get tasks i ≡ Some f → i < length tasks → slice_index ns i ≡ n → AreFree tasks ss ns marks →
    AreFree tasks (slice_set ss i st) ns (slice_set marks i (is_free f st n))
stage_set_mark tasks ss ns i n st f marks lt is inside count h =
    marks_set (length tasks) i (is_free_at tasks ss ns) (is_free_at tasks (slice_set ss i st) ns) marks (is_free f st n) h inside
    (free_here tasks (slice_set ss i st) ns i n f st is (get_or-set_same ss i st stage.Untouched lt) count)
    (λ k ne. free_same tasks ss (slice_set ss i st) ns ns k (sym (get_or-set_other ss i k st stage.Untouched ne)) refl)

-- a count is set, and the mark with it
pub count_set_mark : (tasks : List Facts) (ss : List Stage) (ns : List ℕ) (i v : ℕ) (st : Stage) (f : Facts) (marks : List Bool) →
    i < length ns → slice_get tasks i ≡ Some f → i < length tasks → slice_index_or ss i stage.Untouched ≡ st →
    AreFree tasks ss ns marks → AreFree tasks ss (slice_set ns i v) (slice_set marks i (is_free f st v))
count_set_mark tasks ss ns i v st f marks lt is inside at h =
    marks_set (length tasks) i (is_free_at tasks ss ns) (is_free_at tasks ss (slice_set ns i v)) marks (is_free f st v) h inside
    (free_here tasks ss (slice_set ns i v) i v f st is at (get_or-set_same ns i v 0 lt))
    (λ k ne. free_same tasks ss ss ns (slice_set ns i v) k refl (sym (get_or-set_other ns i k v 0 ne)))

use Rattle.std.proofs.Common.{◌≡◌, ◌+◌, ◌-◌, ◌≤◌, ℕ, List, length, sym, ◌∙◌, ap, subst, arith, take_all}
use Rattle.std.specs.Prelude.{slice_index, slice_range}
use Rattle.std.proofs.lemmas.List.Edits.{length-between}
use Rattle.base.specs.declared.item.Cell.{Cell}
use Rattle.base.specs.declared.tree.ArrayId.{ArrayId}
use Rattle.base.specs.Memory.{Memory, within}
use Rattle.host_memory.specs.Arrays.{memory_of}
use Rattle.shared_row.specs.Rows.{lent_numbers, numbers_in}
use Rattle.frames.specs.Rows.{run_from}
use Rattle.frames.proofs.host.store_part.Goals as goal

-- what these numbers leave in so many cells of an array from an index on
abbrev Leaves : ArrayId → ℕ → ℕ → List ℕ → Memory → Memory → Type 0
Leaves a first n numbers old new =
    new ≡ within (run_from a first n) (λ (x : Cell). slice_index numbers (x.index - first)) old

-- a part of equal numbers, which is counted
part_of : (a : ArrayId) (first from end : ℕ) (xs ys : List ℕ) (old new : Memory) → xs ≡ ys → end ≤ length ys →
    Leaves a (first + from) (length (slice_range xs from end)) (slice_range xs from end) old new →
    Leaves a (first + from) (end - from) (slice_range ys from end) old new
part_of a first from end xs ys old new e bound h =
    subst (λ n. Leaves a (first + from) n (slice_range ys from end) old new) (length-between ys from end bound)
    (subst (λ zs. Leaves a (first + from) (length (slice_range zs from end)) (slice_range zs from end) old new) e h)

whole_range : (xs : List ℕ) (from end : ℕ) → from ≡ 0 → length xs ≤ end → slice_range xs from end ≡ xs
whole_range xs from end none le =
    ap (λ k. slice_range xs k end) none ∙ take_all (end - 0) xs (omega (arith, le))

-- all of equal numbers
all_of : (a : ArrayId) (first from end : ℕ) (xs ys : List ℕ) (old new : Memory) → xs ≡ ys → from ≡ 0 → end ≡ length xs →
    Leaves a first (length xs) xs old new → Leaves a (first + from) (end - from) (slice_range ys from end) old new
all_of a first from end xs ys old new e none all h =
    let long : length xs ≡ length ys = ap length e in
    let part : xs ≡ slice_range ys from end = e ∙ sym (whole_range ys from end none (omega (arith, all, long))) in
    let count : length xs ≡ end - from = omega (arith, all, none) in
    let begin : first ≡ first + from = omega (arith, none) in
    subst (λ k. Leaves a k (end - from) (slice_range ys from end) old new) begin
    (subst (λ n. Leaves a first n (slice_range ys from end) old new) count
    (subst (λ zs. Leaves a first (length xs) zs old new) part h))

pub returns-in-Own-clause-stored : goal.returns-in-Own-clause-stored
returns-in-Own-clause-stored c =
    part_of c.args.array c.args.first c.args.from c.args.end c.deref.result.now (numbers_in c.args.cells.now)
    (memory_of c.args.host.now) (memory_of c.store_run.new.host) (c.deref.ensures.value ∙ sym (ap numbers_in c.in-Own.is))
    c.requires.part c.store_run.ensures.stored

pub returns-then-end-lent-clause-stored : goal.returns-then-end-lent-clause-stored
returns-then-end-lent-clause-stored c =
    let lent = c.in-Lent.lent in
    let inside = lent.inside in
    let long : length (lent_numbers lent) ≡ lent.first + lent.count - lent.first =
    length-between lent.row.value.items lent.first (lent.first + lent.count) inside in
    let end = c.if-end-lent.true in
    all_of c.args.array c.args.first c.args.from c.args.end (lent_numbers lent) (numbers_in c.args.cells.now)
    (memory_of c.args.host.now) (memory_of c.store_lent.new.host) (sym (ap numbers_in c.in-Lent.is)) c.if-from-eq0.true
    (omega (arith, end, long)) c.store_lent.ensures.stored

pub returns-else-from-eq0-clause-stored : goal.returns-else-from-eq0-clause-stored
returns-else-from-eq0-clause-stored c =
    part_of c.args.array c.args.first c.args.from c.args.end c.numbers.result.now (numbers_in c.args.cells.now)
    (memory_of c.args.host.now) (memory_of c.store_run-else-from-eq0.new.host)
    (c.numbers.ensures ∙ sym (ap numbers_in c.in-Lent.is)) c.requires.part c.store_run-else-from-eq0.ensures.stored

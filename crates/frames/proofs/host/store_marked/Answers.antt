use Rattle.std.proofs.Common.{◌≡◌, ◌+◌, ◌-◌, ◌≤◌, false, length, Some, sym, ◌∙◌, ap, refl, subst, arith}
use Rattle.std.specs.Prelude.{slice_index, slice_range}
use Rattle.std.proofs.lemmas.List.Edits.{length-between}
use Rattle.std.proofs.lemmas.Option.{slice_get-get_or}
use mathlib.Core.Path.{fun_ext}
use Rattle.base.specs.declared.item.Cell.{Cell}
use Rattle.host_memory.specs.Arrays.{lengths_of, memory_of, row_of}
use Rattle.frames.specs.Rows.{run_from}
use Rattle.frames.specs.Views.{with_stored}
use Rattle.host_memory.proofs.HostRows.{row_length}
use Rattle.frames.proofs.Stores.{below_all, below_run, below_skip, place_there, row_small}
use Rattle.frames.proofs.host.store_marked.Goals as goal

pub overflow_add-first : goal.overflow_add-first
overflow_add-first c =
    let marks = c.args.marks.now in
    let host = c.args.host.now in
    let within = c.places-test.true in
    let on = slice_get-get_or marks c.places.i false (omega (arith, within)) ∙ ap Some c.if-marks-i.true in
    let there = place_there c.args.array c.args.first c.args.numbers.now marks (lengths_of host) c.places.i
    c.requires.count on c.requires.cells in
    omega (arith, there, row_length host c.args.array.0, row_small host c.args.array.0)

pub store_run-requires-clause-some : goal.store_run-requires-clause-some
store_run-requires-clause-some c =
    let end = c.marked_end-end.result in
    let from = c.marked_end-end.ensures.from in
    let bound = c.marked_end-end.ensures.bound in
    let count = c.requires.count in
    let part : length (slice_range c.args.numbers.now c.places.i end) ≡ end - c.places.i =
    length-between c.args.numbers.now c.places.i end (omega (arith, bound, count)) in
    subst (λ n. 1 ≤ n) (sym part) (omega (arith, from))

pub store_run-requires-clause-cells : goal.store_run-requires-clause-cells
store_run-requires-clause-cells c =
    let host = c.args.host.now in
    let a = c.args.array.0 in
    let end = c.marked_end-end.result in
    let from = c.marked_end-end.ensures.from in
    let bound = c.marked_end-end.ensures.bound in
    let count = c.requires.count in
    let part : length (slice_range c.args.numbers.now c.places.i end) ≡ end - c.places.i =
    length-between c.args.numbers.now c.places.i end (omega (arith, bound, count)) in
    let last = c.marked_end-end.ensures.marked (end - 1) (omega (arith, from)) (omega (arith, from)) in
    let there = place_there c.args.array c.args.first c.args.numbers.now c.args.marks.now (lengths_of host) (end - 1)
    c.requires.count last c.requires.cells in
    let now = sym (row_length c.places.host a) ∙ ap (λ l. slice_index l a) c.places.invariant.lengths in
    subst (λ n. c.args.first + c.places.i + n ≤ length (row_of c.places.host a)) (sym part)
    (omega (arith, there, now, from))

pub places-preserved-then-marks-i : goal.places-preserved-then-marks-i
places-preserved-then-marks-i c =
    let end = c.marked_end-end.result in
    let from = c.marked_end-end.ensures.from in
    let bound = c.marked_end-end.ensures.bound in
    let count = c.requires.count in
    let part : length (slice_range c.args.numbers.now c.places.i end) ≡ end - c.places.i =
    length-between c.args.numbers.now c.places.i end (omega (arith, bound, count)) in
    record {
      bound = omega (arith, bound);
      stored = below_run c.args.array c.args.first c.args.numbers.now c.args.marks.now c.places.i end from bound
          c.requires.count c.marked_end-end.ensures.marked
          (run_from c.args.array (c.args.first + c.places.i) (length (slice_range c.args.numbers.now c.places.i end)))
          refl refl part (memory_of c.args.host.now) (memory_of c.places.host) (memory_of c.store_run.new.host)
          c.places.invariant.stored c.store_run.ensures.stored;
      lengths = c.store_run.ensures.lengths ∙ c.places.invariant.lengths;
    }

pub places-preserved : goal.places-preserved
places-preserved c =
    let marks = c.args.marks.now in
    let within = c.places-test.true in
    let off = slice_get-get_or marks c.places.i false (omega (arith, within)) ∙ ap Some c.if-marks-i.false in
    record {
      bound = omega (arith, within);
      stored = c.places.invariant.stored
          ∙ ap (λ v. with_stored v (memory_of c.args.host.now))
          (fun_ext (λ (x : Cell). below_skip c.args.array c.args.first c.args.numbers.now marks c.places.i off x));
      lengths = c.places.invariant.lengths;
    }

pub returns-clause-stored : goal.returns-clause-stored
returns-clause-stored c =
    c.places.invariant.stored
    ∙ ap (λ v. with_stored v (memory_of c.args.host.now))
    (fun_ext (λ (x : Cell). below_all c.args.array c.args.first c.args.numbers.now c.args.marks.now c.places.i
    (omega arith) x))

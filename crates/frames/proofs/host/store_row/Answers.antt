use Rattle.std.proofs.Common.{◌≡◌, ◌+◌, ◌-◌, ◌≤◌, length, sym, ◌∙◌, ap, subst, refl, arith}
use Rattle.host_memory.specs.Arrays.{lengths_of, memory_of}
use Rattle.shared_row.specs.Rows.{marks_of, numbers_in}
use Rattle.shared_row.specs.declared.marks.Marks.TheVariants as marks
use Rattle.present.specs.Rows.{marked_in}
use Rattle.present.proofs.RunMarks.{mark_in, run_bound}
use Rattle.frames.specs.Rows.{run_from}
use Rattle.frames.specs.Views.{AreCells, with_stored}
use Rattle.host_memory.proofs.HostRows.{row_length}
use Rattle.frames.proofs.Stores.{place_there}
use Rattle.frames.proofs.RunStores.{none_stored, run_stored}
use Rattle.frames.proofs.host.store_row.Goals as goal

pub store_part-requires-clause-part : goal.store_part-requires-clause-part
store_part-requires-clause-part c =
    let row = c.args.row.now in
    let n = length (numbers_in row.cells) in
    let long = ap (λ m. length (marks_of n m)) (sym c.in-Run.is) ∙ row.one_mark_each in
    run_bound n c.in-Run.from c.in-Run.end long

pub store_part-requires-clause-cells : goal.store_part-requires-clause-cells
store_part-requires-clause-cells c =
    let row = c.args.row.now in
    let host = c.args.host.now in
    let numbers = numbers_in row.cells in
    let n = length numbers in
    let from = c.in-Run.from in
    let end = c.in-Run.end in
    let long = ap (λ m. length (marks_of n m)) (sym c.in-Run.is) ∙ row.one_mark_each in
    let cells = subst (λ m. AreCells (lengths_of host) (marked_in c.args.array row.first numbers (marks_of n m)))
    c.in-Run.is c.requires in
    let some = c.if-from-end.true in
    let there = place_there c.args.array row.first numbers (marks_of n (marks.Run from end)) (lengths_of host) (end - 1)
    long (mark_in n from end long (end - 1) (omega (arith, some)) (omega (arith, some))) cells in
    omega (arith, there, row_length host c.args.array.0, some)

pub returns-then-from-end-clause-stored : goal.returns-then-from-end-clause-stored
returns-then-from-end-clause-stored c =
    let row = c.args.row.now in
    let old = memory_of c.args.host.now in
    let numbers = numbers_in row.cells in
    let n = length numbers in
    let from = c.in-Run.from in
    let end = c.in-Run.end in
    let long = ap (λ m. length (marks_of n m)) (sym c.in-Run.is) ∙ row.one_mark_each in
    subst (λ m. memory_of c.store_part.new.host ≡ with_stored (marked_in c.args.array row.first numbers (marks_of n m)) old)
    (sym c.in-Run.is)
    (run_stored c.args.array row.first numbers from end long c.if-from-end.true
    (run_from c.args.array (row.first + from) (end - from)) refl refl refl old (memory_of c.store_part.new.host)
    c.store_part.ensures.stored)

pub returns-else-from-end-clause-stored : goal.returns-else-from-end-clause-stored
returns-else-from-end-clause-stored c =
    let row = c.args.row.now in
    let old = memory_of c.args.host.now in
    let numbers = numbers_in row.cells in
    let n = length numbers in
    let long = ap (λ m. length (marks_of n m)) (sym c.in-Run.is) ∙ row.one_mark_each in
    subst (λ m. old ≡ with_stored (marked_in c.args.array row.first numbers (marks_of n m)) old) (sym c.in-Run.is)
    (none_stored c.args.array row.first numbers c.in-Run.from c.in-Run.end long c.if-from-end.false old)

use Rattle.std.proofs.Common.{◌≡◌, ◌≤◌, ◌^◌, ℕ, Some, sym, ◌∙◌, ap, subst, arith}
use Rattle.std.proofs.lemmas.Option.{slice_get-get_or}
use mathlib.Core.Path.{fun_ext}
use Rattle.host_memory.specs.Arrays.{lengths_of, memory_of}
use Rattle.present.specs.Rows.{marked_in}
use Rattle.shared_row.specs.Rows.{numbers_in}
use Rattle.kernel.specs.Rows.{marks_kept}
use Rattle.frames.specs.Views.{AreCells, with_stored}
use Rattle.frames.proofs.StoredRows.{array_there, host_more, none_behind, none_high, row_cells, upto_all}
use Rattle.frames.proofs.host.store_host.Goals as goal

pub returns-in_default-clause-stored : goal.returns-in_default-clause-stored
returns-in_default-clause-stored c =
    let rows = c.args.rows.now in
    let lengths = lengths_of c.args.host.now in
    let few = c.requires.few in
    let high : 2 ^ 32 ≤ c.each.a = omega (arith, c.in_default.ensures) in
    let none = none_high rows c.each.a
    (λ x k e. (let l = array_there lengths x (c.requires.cells x k e) in omega (arith, l, few, high))) in
    c.each.invariant.stored
    ∙ ap (λ v. with_stored v (memory_of c.args.host.now)) (fun_ext (upto_all rows c.each.a none))

pub store_row-requires : goal.store_row-requires
store_row-requires c =
    let rows = c.args.rows.now in
    let row = c.index-rows-a.result in
    let e = slice_get-get_or rows c.each.a row (omega arith) ∙ ap Some (sym c.index-rows-a.is) in
    let same : c.each.a ≡ c.in-Ok.array = omega (arith, c.in-Ok.ensures) in
    subst (λ (n : ℕ). AreCells (lengths_of c.each.host) (marked_in (record { 0 = n }) row.first (numbers_in row.cells) (marks_kept row))) same
    (subst (λ l. AreCells l (marked_in (record { 0 = c.each.a }) row.first (numbers_in row.cells) (marks_kept row)))
    (sym c.each.invariant.lengths) (row_cells rows (lengths_of c.args.host.now) c.each.a row e c.requires.cells))

pub each-preserved : goal.each-preserved
each-preserved c =
    let rows = c.args.rows.now in
    let row = c.index-rows-a.result in
    let e = slice_get-get_or rows c.each.a row (omega arith) ∙ ap Some (sym c.index-rows-a.is) in
    let same : c.in-Ok.array ≡ c.each.a = omega (arith, c.in-Ok.ensures) in
    record {
      stored = host_more rows c.each.a row e (memory_of c.args.host.now) (memory_of c.each.host)
          (memory_of c.store_row.new.host) c.each.invariant.stored
          (c.store_row.ensures.stored
          ∙ ap (λ (n : ℕ). with_stored (marked_in (record { 0 = n }) row.first (numbers_in row.cells) (marks_kept row))
          (memory_of c.each.host)) same);
      lengths = c.store_row.ensures.lengths ∙ c.each.invariant.lengths;
    }

pub returns-clause-stored : goal.returns-clause-stored
returns-clause-stored c =
    let rows = c.args.rows.now in
    c.each.invariant.stored
    ∙ ap (λ v. with_stored v (memory_of c.args.host.now))
    (fun_ext (upto_all rows c.each.a (none_behind rows c.each.a (omega arith))))

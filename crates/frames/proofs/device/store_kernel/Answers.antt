use Rattle.std.proofs.Common.{◌≡◌, Some, sym, ◌∙◌, ap, subst, arith}
use Rattle.std.proofs.lemmas.Option.{slice_get-get_or}
use mathlib.Core.Path.{fun_ext}
use Rattle.present.specs.Rows.{marked_in, with_numbers}
use Rattle.present.specs.Table.{Shows}
use Rattle.shared_row.specs.Rows.{numbers_in}
use Rattle.kernel.specs.Rows.{marks_kept}
use Rattle.frames.proofs.StoredRows.{device_more, none_behind, stored_upto, upto_all}
use Rattle.frames.proofs.device.store_kernel.Goals as goal

pub each-preserved : goal.each-preserved
each-preserved c =
    let rows = c.args.rows.now in
    let row = c.index-rows-a.result in
    let e = slice_get-get_or rows c.each.a row (omega arith) ∙ ap Some (sym c.index-rows-a.is) in
    let same : c.in-Ok.array ≡ c.each.a = omega (arith, c.in-Ok.ensures) in
    record {
      stored = λ d h. subst (Shows c.store_row.new.self)
          ((λ i. with_numbers (marked_in (record { 0 = same i }) row.first (numbers_in row.cells) (marks_kept row)) (with_numbers (stored_upto rows c.each.a) d))
          ∙ device_more rows c.each.a row e d)
          (c.store_row.ensures.stored (with_numbers (stored_upto rows c.each.a) d) (c.each.invariant.stored d h));
      kept = record {
        capacity = c.store_row.ensures.kept.capacity ∙ c.each.invariant.kept.capacity;
        fill = c.store_row.ensures.kept.fill ∙ c.each.invariant.kept.fill;
      };
    }

pub returns-clause-stored : goal.returns-clause-stored
returns-clause-stored c d h =
    let rows = c.args.rows.now in
    subst (λ v. Shows c.each.table (with_numbers v d))
    (fun_ext (upto_all rows c.each.a (none_behind rows c.each.a (omega arith)))) (c.each.invariant.stored d h)

use Rattle.std.proofs.Common.{◌≡◌, ◌∙◌, Some, sym, ap, arith}
use Rattle.std.specs.Prelude.{option_map, slice_get, slice_index_or}
use Rattle.std.proofs.lemmas.Option.{slice_get-get_or, slice_get-map}
use Rattle.std.proofs.lemmas.List.{length-map}
use Rattle.kernel.specs.declared.frames.Row.{Row}
use Rattle.device.specs.Standing.{row_parts}
use Rattle.device.proofs.Blanks.{all_filled, filled_more}
use Rattle.device.proofs.blank.fill_rows.Goals as goal

pub fill_row-requires : goal.fill_row-requires
fill_row-requires c =
    let rows = c.args.rows.now in
    let i = c.each.i in
    let count = c.requires.count in
    let size = length-map rows row_parts in
    let at_x : slice_get rows i ≡ Some c.index-rows-i.result =
    slice_get-get_or rows i c.index-rows-i.result (omega (arith, count, size)) ∙ ap (λ (x : Row). Some x) (sym c.index-rows-i.is) in
    c.requires.each i (row_parts c.index-rows-i.result) (slice_index_or c.each.blank i c.index-blank-i.result)
    (slice_get-map row_parts rows i ∙ ap (option_map row_parts) at_x)
    (sym (c.each.invariant.rest i (omega arith)) ∙ slice_get-get_or c.each.blank i c.index-blank-i.result (omega arith))

pub each-preserved : goal.each-preserved
each-preserved c =
    let rows = c.args.rows.now in
    let i = c.each.i in
    let count = c.requires.count in
    let size = length-map rows row_parts in
    filled_more i rows c.args.blank.now c.each.blank c.index-rows-i.result c.fill_row.new.blank (omega arith)
    (slice_get-get_or rows i c.index-rows-i.result (omega (arith, count, size)) ∙ ap (λ (x : Row). Some x) (sym c.index-rows-i.is))
    c.fill_row.ensures c.each.invariant

pub returns : goal.returns
returns c =
    let count = c.requires.count in
    let size = length-map c.args.rows.now row_parts in
    all_filled c.each.i c.args.rows.now c.args.blank.now c.each.blank (omega (arith, count, size)) (omega arith) c.each.invariant

use Rattle.std.proofs.Common.{◌≡◌, ◌∙◌, Some, ap, sym, arith}
use Rattle.std.specs.Prelude.{option_map, slice_get}
use Rattle.std.proofs.lemmas.Option.{same_Some, slice_get-get_or, slice_get-map}
use Rattle.kernel.specs.declared.frames.Row.{Row}
use Rattle.device.specs.Standing.{row_parts}
use Rattle.device.proofs.same_frame.are_same_rows.Goals as goal

pub returns-then-not-is_same_row-clause-no : goal.returns-then-not-is_same_row-clause-no
returns-then-not-is_same_row-clause-no c h e =
    let xs = c.args.left.now in
    let ys = c.args.right.now in
    let i = c.each.i in
    let x = c.index-left-i.result in
    let y = c.index-right-i.result in
    let at_x : slice_get xs i ≡ Some x = slice_get-get_or xs i x (omega arith) ∙ ap (λ (r : Row). Some r) (sym c.index-left-i.is) in
    let at_y : slice_get ys i ≡ Some y = slice_get-get_or ys i y (omega arith) ∙ ap (λ (r : Row). Some r) (sym c.index-right-i.is) in
    c.is_same_row.ensures.no c.if-not-is_same_row.true
    (same_Some (row_parts x) (row_parts y)
    (sym (slice_get-map row_parts xs i ∙ ap (option_map row_parts) at_x) ∙ ap (λ rs. slice_get rs i) e
    ∙ slice_get-map row_parts ys i ∙ ap (option_map row_parts) at_y))

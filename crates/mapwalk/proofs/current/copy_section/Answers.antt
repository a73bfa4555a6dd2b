use Rattle.std.proofs.Common.{◌≡◌, ◌<◌, length, sym, ap, ◌∙◌, arith}
use Rattle.std.specs.Prelude.{slice_index}
use Rattle.mapwalk.specs.Current.{marks_at, marks_in}
use Rattle.mapwalk.specs.Marks.{has_mark}
use Rattle.mapwalk.proofs.SideRows.{changed_side, length_row, lengths_count, lengths_set, no_row, row_get, unchanged_side}
use Rattle.mapwalk.proofs.current.copy_section.Goals as goal

pub copy-requires : goal.copy-requires
copy-requires c =
    let a = c.args.section.now.array.0 in
    let same : length c.args.side.now ≡ length c.args.from.now = sym (lengths_count c.args.side.now) ∙ ap
    (λ ls. length ls) c.requires ∙ lengths_count c.args.from.now in
    let there : a < length c.args.from.now = omega (arith, c.if-array-side.true) in
    sym (length_row c.args.side.now a c.index-side-array.result c.if-array-side.true)
    ∙ ap (λ ls. slice_index ls a) c.requires
    ∙ length_row c.args.from.now a c.index-from-array.result there
    ∙ ap (λ m. m.length) (sym c.index-from-array.is)

pub returns-then-array-side-clause-marks : goal.returns-then-array-side-clause-marks
returns-then-array-side-clause-marks c =
    let a = c.args.section.now.array.0 in
    let same : length c.args.side.now ≡ length c.args.from.now = sym (lengths_count c.args.side.now) ∙ ap
    (λ ls. length ls) c.requires ∙ lengths_count c.args.from.now in
    let there : a < length c.args.from.now = omega (arith, c.if-array-side.true) in
    changed_side c.args.side.now c.args.section.now c.copy.new.self c.index-side-array.result (marks_in c.args.from.now)
    (has_mark c.index-from-array.result) c.if-array-side.true c.copy.ensures.marks
    (λ d e. ap (λ m. has_mark m d.index) c.index-from-array.is
    ∙ sym (row_get c.args.from.now a c.index-from-array.result there d.index)
    ∙ ap (λ k. marks_at c.args.from.now k d.index) (sym e))

pub returns-then-array-side-clause-lengths : goal.returns-then-array-side-clause-lengths
returns-then-array-side-clause-lengths c =
    lengths_set c.args.side.now c.args.section.now.array.0 c.copy.new.self c.index-side-array.result c.copy.ensures.length

pub returns-else-array-side-clause-marks : goal.returns-else-array-side-clause-marks
returns-else-array-side-clause-marks c =
    let same : length c.args.side.now ≡ length c.args.from.now = sym (lengths_count c.args.side.now) ∙ ap
    (λ ls. length ls) c.requires ∙ lengths_count c.args.from.now in
    unchanged_side c.args.side.now c.args.section.now (marks_in c.args.from.now) c.if-array-side.false
    (λ d e. no_row c.args.from.now d.array.0 (omega (arith, c.if-array-side.false)) d.index)

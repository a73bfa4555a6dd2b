use Rattle.std.proofs.Common.{◌+◌, ◌-◌, length, ap, sym, ◌∙◌, subst, arith, List, ℕ}
use Rattle.std.specs.Prelude.{slice_range}
use Rattle.present.specs.Rows.{AreRead, numbers_at}
use Rattle.present.proofs.Copies.{offset_fits}
use Rattle.present.proofs.Orders.{stored_each}
use Rattle.present.proofs.WholeRows.{inside_read, part_is_read, read_length}
use Rattle.present.proofs.rows.whole.Goals as goal

pub part-requires : goal.part-requires
part-requires c =
    let bs = c.args.blocks.now in
    let s = c.args.section.now in
    let b = c.index-blocks-at.result in
    let r = inside_read bs s c.in-Inside.at b c.in-Inside.ensures c.index-blocks-at.is in
    let fits = offset_fits b s (stored_each bs c.requires.stored c.in-Inside.at b r.0) r.1 in
    let items = ap length c.numbers.ensures in
    omega (arith, fits, items)

pub returns-in-Inside-clause-read : goal.returns-in-Inside-clause-read
returns-in-Inside-clause-read c =
    let bs = c.args.blocks.now in
    let s = c.args.section.now in
    let b = c.index-blocks-at.result in
    let r = inside_read bs s c.in-Inside.at b c.in-Inside.ensures c.index-blocks-at.is in
    subst (AreRead (numbers_at bs) s)
    (sym (c.part.ensures ∙ ap (λ (xs : List ℕ). slice_range xs (s.first - b.section.first) (s.first - b.section.first + s.length))
    c.numbers.ensures))
    (part_is_read bs c.requires.stored c.in-Inside.at b r.0 s r.1)

pub returns-in-Inside-clause-count : goal.returns-in-Inside-clause-count
returns-in-Inside-clause-count c =
    let bs = c.args.blocks.now in
    let s = c.args.section.now in
    let b = c.index-blocks-at.result in
    let r = inside_read bs s c.in-Inside.at b c.in-Inside.ensures c.index-blocks-at.is in
    ap length
    (c.part.ensures ∙ ap (λ (xs : List ℕ). slice_range xs (s.first - b.section.first) (s.first - b.section.first + s.length))
    c.numbers.ensures)
    ∙ read_length bs c.requires.stored c.in-Inside.at b r.0 s r.1

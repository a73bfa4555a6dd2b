use Rattle.std.proofs.Common.{length, get_or, sym, ◌∙◌, arith}
use Rattle.std.proofs.lemmas.Option.{slice_get-get_or}
use Rattle.shared_row.specs.Rows.{marks_of, numbers_in}
use Rattle.present.specs.Rows.{marked_in}
use Rattle.present.proofs.Orders.{stored_each, stored_from}
use Rattle.present.proofs.BlockRows.{stored_more, stored_all}
use Rattle.present.proofs.rows.store_blocks.Goals as goal

pub store_block-requires-clause-stored : goal.store_block-requires-clause-stored
store_block-requires-clause-stored c =
    let now = c.each.blocks in
    let n = c.each.block-index in
    let b = get_or now n c.block-item.result in
    let e = sym (c.each.invariant.rest n (omega arith))
    ∙ slice_get-get_or now n c.block-item.result (omega arith) in
    stored_from b (stored_each c.args.blocks.now c.requires.stored n b e)

pub each-preserved : goal.each-preserved
each-preserved c =
    let now = c.each.blocks in
    let n = c.each.block-index in
    stored_more (marked_in c.args.array c.args.first (numbers_in c.args.cells.now)
    (marks_of (length (numbers_in c.args.cells.now)) c.args.marks.now)) n c.args.blocks.now now
    (get_or now n c.block-item.result) c.store_block.new.block (slice_get-get_or now n c.block-item.result (omega arith))
    c.store_block.ensures c.each.invariant

pub returns : goal.returns
returns c =
    stored_all (marked_in c.args.array c.args.first (numbers_in c.args.cells.now)
    (marks_of (length (numbers_in c.args.cells.now)) c.args.marks.now)) c.each.block-index
    c.args.blocks.now c.each.blocks (omega arith) (omega arith) c.each.invariant

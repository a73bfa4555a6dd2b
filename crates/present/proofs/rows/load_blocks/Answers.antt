use Rattle.std.proofs.Common.{subst, arith}
use Rattle.std.proofs.lemmas.List.{take_all}
use Rattle.present.specs.Rows.{IsLoaded, numbers_at}
use Rattle.present.proofs.Orders.{stored_each, stored_from}
use Rattle.present.proofs.BlockReads.{read_block}
use Rattle.present.proofs.BlockRows.{loaded_more}
use Rattle.present.proofs.rows.load_blocks.Goals as goal

pub load_block-requires : goal.load_block-requires
load_block-requires c =
    let bs = c.args.blocks.now in
    let e = read_block bs c.each.block-index c.block-item.result (omega arith) c.block-item.is in
    stored_from c.block-item.result (stored_each bs c.requires c.each.block-index c.block-item.result e)

pub each-preserved : goal.each-preserved
each-preserved c =
    let bs = c.args.blocks.now in
    let e = read_block bs c.each.block-index c.block-item.result (omega arith) c.block-item.is in
    loaded_more bs c.requires c.each.block-index c.block-item.result e c.args.array c.args.first c.args.numbers.now
    c.each.numbers c.load_block.new.numbers c.each.invariant c.load_block.ensures

pub returns : goal.returns
returns c =
    let bs = c.args.blocks.now in
    subst (λ xs. IsLoaded (numbers_at xs) c.args.array c.args.first c.args.numbers.now c.each.numbers)
    (take_all c.each.block-index bs (omega arith)) c.each.invariant

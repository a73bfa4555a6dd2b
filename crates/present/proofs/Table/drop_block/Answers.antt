use Rattle.std.proofs.Common.{ap, ◌∙◌, arith}
use Rattle.present.specs.Blocks.{are_stored, cells_in}
use Rattle.present.proofs.Orders.{stored_remove, cells_remove}
use Rattle.present.proofs.BlockReads.{read_block}
use Rattle.present.proofs.Table.drop_block.Goals as goal

pub overflow_sub-self : goal.overflow_sub-self
overflow_sub-self c =
    let t = c.args.self.now in
    let e = read_block t.blocks.items c.args.at c.remove-block.result c.requires c.remove-block.ensures.value in
    let less = cells_remove t.blocks.items c.args.at c.remove-block.result e in
    omega (arith, less, t.counted)

pub invariant_of-self : goal.invariant_of-self
invariant_of-self c =
    let t = c.args.self.now in
    let e = read_block t.blocks.items c.args.at c.remove-block.result c.requires c.remove-block.ensures.value in
    let less = cells_remove t.blocks.items c.args.at c.remove-block.result e in
    let now = ap cells_in c.remove-block.ensures.items in
    let room = t.room in
    record {
      stored = ap are_stored c.remove-block.ensures.items ∙ stored_remove t.blocks.items c.args.at t.stored;
      counted = omega (arith, less, now, t.counted);
      room = omega (arith, room);
    }

pub returns-clause-removed : goal.returns-clause-removed
returns-clause-removed c = record {
  before = c.remove-block.result;
  is = read_block c.args.self.now.blocks.items c.args.at c.remove-block.result c.requires
      c.remove-block.ensures.value;
  blocks = c.remove-block.ensures.items;
}

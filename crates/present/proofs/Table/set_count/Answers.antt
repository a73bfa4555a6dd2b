use Rattle.std.proofs.Common.{refl, sym, ◌∙◌}
use Rattle.present.specs.Change.{with_count}
use Rattle.present.proofs.Orders.{stored_each, stored_from, stored_set, cells_set}
use Rattle.present.proofs.BlockReads.{read_block}
use Rattle.present.proofs.Table.set_count.Goals as goal

pub invariant_of-self : goal.invariant_of-self
invariant_of-self c =
    let t = c.args.self.now in
    let bs = t.blocks.items in
    let b = c.index_mut-block.result.now in
    let e = read_block bs c.args.at b c.requires c.index_mut-block.ensures.value in
    let w = stored_each bs t.stored c.args.at b e in
    let one = stored_from (with_count b c.args.count)
    (record { has_cells = w.has_cells; end = w.end; numbers = w.numbers }) in
    record {
      stored = stored_set bs c.args.at b (with_count b c.args.count) t.stored e refl one;
      counted = t.counted ∙ sym (cells_set bs c.args.at b (with_count b c.args.count) e refl);
      room = t.room;
    }

pub returns-clause-counted : goal.returns-clause-counted
returns-clause-counted c = record {
  before = c.index_mut-block.result.now;
  is = read_block c.args.self.now.blocks.items c.args.at c.index_mut-block.result.now c.requires
      c.index_mut-block.ensures.value;
  blocks = refl;
}

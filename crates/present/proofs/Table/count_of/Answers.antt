use Rattle.std.proofs.Common.{refl}
use Rattle.present.proofs.BlockReads.{read_block}
use Rattle.present.proofs.Table.count_of.Goals as goal

pub returns : goal.returns
returns c = record {
  block = c.index-block.result.now;
  is = read_block c.args.self.now.blocks.items c.args.at c.index-block.result.now c.requires c.index-block.ensures;
  count' = refl;
}

use Rattle.kernel.proofs.BlockLanes.{stored_block}
use Rattle.kernel.proofs.Offsets.{run_there}
use Rattle.kernel.specs.Lanes.{takes_part}
use Rattle.kernel.specs.Rows.{cells_kept}
use Rattle.kernel.proofs.block.put.Goals as goal

pub store_lanes-requires-clause-there : goal.store_lanes-requires-clause-there
store_lanes-requires-clause-there c =
    run_there (takes_part c.args.at.now) c.args.at.now.offset c.args.at.now.first c.args.at.now.count c.args.array (cells_kept c.args.rows.now)
    c.args.at.now.no_wrap c.requires.cells

pub returns : goal.returns
returns c = record {
  block =
      stored_block c.args.at.now c.args.lanes.now c.args.rows.now c.store_lanes.new.rows c.args.array c.args.e.now _
      c.in_ok-numbers.numbers.items c.deref.ensures.value c.in_ok-numbers.ensures.values c.in_ok-store_lanes.ensures.cells
      c.in_ok-store_lanes.ensures.stored;
}

use Rattle.std.proofs.Common.{◌≡◌, length}
use Rattle.c_grammar.specs.Blocks.{without_block}
use Rattle.c_written.specs.Stack.{held}
use Rattle.c_written.specs.Passes.{IsRead, levels_of}
use Rattle.c_written.proofs.blocks.Blocks.leave_block.Given as goal

abbrev pub invariant-levels : goal.invariant-levels
invariant-levels l = record {
  levels : without_block (levels_of l.self.levels) ≡ without_block (levels_of l.fn.self.levels);
  done : l.self.done.items ≡ l.fn.self.done.items;
  same : IsRead l.fn.self l.self;
}

abbrev pub decreases-levels : goal.decreases-levels
decreases-levels l = length (held l.self.levels)

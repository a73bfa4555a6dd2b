use Rattle.std.proofs.Common.{◌≡◌, ◌++◌, length}
use Rattle.c_grammar.specs.Blocks.{braces_at, ends}
use Rattle.c_terminals.specs.Seen.{seen, seen_all}
use Rattle.c_written.specs.Stack.{held}
use Rattle.c_written.specs.Passes.{IsRead, levels_of}
use Rattle.c_written.proofs.blocks.Blocks.end_statement.Given as goal

abbrev pub invariant-levels : goal.invariant-levels
invariant-levels l = record {
  done : seen_all l.self.done.items ++ braces_at (ends l.other (levels_of l.self.levels)).braces (seen l.token) ≡
      seen_all l.fn.self.done.items ++ braces_at (ends l.other (levels_of l.fn.self.levels)).braces (seen l.token);
  levels : (ends l.other (levels_of l.self.levels)).levels ≡ (ends l.other (levels_of l.fn.self.levels)).levels;
  same : IsRead l.fn.self l.self;
}

abbrev pub decreases-levels : goal.decreases-levels
decreases-levels l = length (held l.self.levels)

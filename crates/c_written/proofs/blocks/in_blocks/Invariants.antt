use Rattle.std.proofs.Common.{◌≡◌, length, take}
use Rattle.c_grammar.specs.Blocks.{bare, in_blocks, nothing_read}
use Rattle.c_terminals.specs.Ahead.{next_of}
use Rattle.c_terminals.specs.Seen.{seen_all}
use Rattle.c_written.specs.Passes.{with_blocks}
use Rattle.c_written.proofs.blocks.in_blocks.Given as goal

abbrev pub invariant-tokens : goal.invariant-tokens
invariant-tokens l = record {
  done : with_blocks l.blocks (seen_all l.rest) ≡ in_blocks nothing_read (seen_all l.fn.tokens);
  next : next_of l.next ≡ take 1 (bare (seen_all l.rest));
}

abbrev pub decreases-tokens : goal.decreases-tokens
decreases-tokens l = length l.rest

use Rattle.std.proofs.Common.{◌≡◌, [], length}
use Rattle.c_grammar.specs.Blocks.{bare}
use Rattle.c_grammar.specs.Shared.{block_arrays}
use Rattle.c_terminals.specs.Ahead.{ahead}
use Rattle.c_terminals.specs.Seen.{seen_all}
use Rattle.c_written.specs.Boxes.{texts}
use Rattle.c_written.proofs.shared.block_arrays.Given as goal

abbrev pub invariant-tokens : goal.invariant-tokens
invariant-tokens l =
    block_arrays l.depth (texts l.names.items) (ahead l.ahead) ≡ block_arrays 0 [] (bare (seen_all l.tokens))

abbrev pub decreases-tokens : goal.decreases-tokens
decreases-tokens l = length (ahead l.ahead)

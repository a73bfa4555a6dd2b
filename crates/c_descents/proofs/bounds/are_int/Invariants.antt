use Rattle.std.proofs.Common.{◌≡◌, length}
use Rattle.c_grammar.specs.Descents.{are_int}
use Rattle.c_terminals.specs.Seen.{seen_all}
use Rattle.c_descents.specs.Blocks.{open_blocks}
use Rattle.c_descents.proofs.bounds.are_int.Given as goal

abbrev pub invariant-tokens : goal.invariant-tokens
invariant-tokens l =
    are_int (open_blocks l.blocks) (seen_all l.rest) ≡ are_int (open_blocks l.fn.blocks) (seen_all l.fn.tokens)

abbrev pub decreases-tokens : goal.decreases-tokens
decreases-tokens l = length l.rest

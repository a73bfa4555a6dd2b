use Rattle.std.proofs.Common.{◌≡◌, ◌≤◌, length}
use Rattle.c_grammar.specs.Locals.{has_array}
use Rattle.c_locals.specs.Blocks.{blocks_of}
use Rattle.c_locals.proofs.blocks.has_array_among.Given as goal

abbrev pub invariant-open : goal.invariant-open
invariant-open l =
    (has_array (blocks_of l.rest) ≡ has_array (blocks_of l.fn.blocks)) × (length l.rest ≤ length l.fn.blocks)

abbrev pub decreases-open : goal.decreases-open
decreases-open l = length l.rest

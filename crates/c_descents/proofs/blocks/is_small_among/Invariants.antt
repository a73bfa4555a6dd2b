use Rattle.std.proofs.Common.{◌≡◌, ◌≤◌, length}
use Rattle.c_grammar.specs.Descents.{is_small}
use Rattle.c_descents.specs.Blocks.{blocks_of}
use Rattle.c_descents.proofs.blocks.is_small_among.Given as goal

abbrev pub invariant-open : goal.invariant-open
invariant-open l =
    (is_small (blocks_of l.rest) l.fn.name ≡ is_small (blocks_of l.fn.blocks) l.fn.name) × (length l.rest ≤ length l.fn.blocks)

abbrev pub decreases-open : goal.decreases-open
decreases-open l = length l.rest

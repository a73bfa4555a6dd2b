use Rattle.std.proofs.Common.{◌≡◌, ◌≤◌, length}
use Rattle.c_grammar.specs.Descents.{stands_in}
use Rattle.c_descents.specs.Blocks.{blocks_of}
use Rattle.c_descents.proofs.blocks.stands_among.Given as goal

abbrev pub invariant-open : goal.invariant-open
invariant-open l =
    (stands_in (blocks_of l.rest) l.fn.name ≡ stands_in (blocks_of l.fn.blocks) l.fn.name) × (length l.rest ≤ length l.fn.blocks)

abbrev pub decreases-open : goal.decreases-open
decreases-open l = length l.rest

use Rattle.std.proofs.Common.{length}
use Rattle.shared_row.specs.Rows.{marks_of, numbers_in}
use Rattle.present.specs.Rows.{marked_in}
use Rattle.present.proofs.BlockRows.{StoredUpTo}
use Rattle.present.proofs.rows.store_blocks.Given as goal

abbrev pub invariant-each : goal.invariant-each
invariant-each l =
    StoredUpTo (marked_in l.array l.first (numbers_in l.cells) (marks_of (length (numbers_in l.cells)) l.marks))
    l.block-index l.fn.blocks l.blocks

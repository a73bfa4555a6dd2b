use Rattle.std.proofs.Common.{take}
use Rattle.present.specs.Rows.{IsLoaded, numbers_at}
use Rattle.present.proofs.rows.load_blocks.Given as goal

abbrev pub invariant-each : goal.invariant-each
invariant-each l = IsLoaded (numbers_at (take l.block-index l.blocks)) l.array l.first l.fn.numbers l.numbers

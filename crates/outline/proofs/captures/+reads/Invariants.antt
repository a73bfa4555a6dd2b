use Rattle.std.proofs.Common.{◌≡◌, false, take}
use Rattle.std.specs.List.{list_any}
use Rattle.outline.specs.Captures.{stmt_reads}
use Rattle.outline.proofs.captures.+reads.Given as goal

abbrev pub invariant-one_reads-all : goal.invariant-one_reads-all
invariant-one_reads-all l = list_any (stmt_reads l.scalar) (take l.s-index l.all) ≡ false

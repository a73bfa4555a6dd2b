use Rattle.std.proofs.Common.{take}
use Rattle.std.specs.Io.KnownBytes.{Appends}
use Rattle.outline.specs.Regions.{entries_of}
use Rattle.report.proofs.Lines.{item_lines}
use Rattle.report.proofs.listing.list_text.Given as goal

abbrev pub invariant-items : goal.invariant-items
invariant-items g l = Appends (g.W.Write.contents l.initial.out) (g.W.Write.contents l.out)
    (item_lines (entries_of l.outlined) l.program 0 (take l.number l.item-items))

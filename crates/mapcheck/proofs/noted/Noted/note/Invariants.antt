use Rattle.std.proofs.Common.{take}
use Rattle.base.specs.Items.{plan}
use Rattle.mapcheck.specs.Noted.{IsAccessed, IsSeen}
use Rattle.mapcheck.proofs.noted.Noted.note.Given as goal

abbrev pub invariant-accesses : goal.invariant-accesses
invariant-accesses l =
    IsSeen (plan l.order) l.fn.self l.self l.item (IsAccessed (take l.access-index l.access-items)) l.clear

use Rattle.std.proofs.Common.{◌≡◌, count_by, take}
use Rattle.host.specs.Handing.{is_handed}
use Rattle.host.proofs.board.handed_count.Given as goal

abbrev pub invariant-loop-item : goal.invariant-loop-item
invariant-loop-item l = l.count ≡ count_by is_handed (take l.item-index l.items)

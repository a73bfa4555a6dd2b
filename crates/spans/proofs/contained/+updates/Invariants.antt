use Rattle.std.proofs.Common.{◌≡◌, drop}
use Rattle.spans.specs.Spans.{list_updates}
use Rattle.spans.proofs.contained.+updates.Given as goal

abbrev pub invariant-any_update-loop-s : goal.invariant-any_update-loop-s
invariant-any_update-loop-s l = list_updates (drop l.s-index l.all) ≡ list_updates l.all

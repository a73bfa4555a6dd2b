use Rattle.std.proofs.Common.{◌≡◌, drop}
use Rattle.spans.specs.Spans.{list_sure}
use Rattle.spans.proofs.scalars.+sure.Given as goal

abbrev pub invariant-any_sure-loop-s : goal.invariant-any_sure-loop-s
invariant-any_sure-loop-s l = list_sure l.x.0 (drop l.s-index l.all) ≡ list_sure l.x.0 l.all

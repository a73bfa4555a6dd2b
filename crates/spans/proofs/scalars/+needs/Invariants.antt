use Rattle.std.proofs.Common.{◌≡◌, drop}
use Rattle.base.specs.ScalarUse.{list_needs}
use Rattle.spans.proofs.scalars.+needs.Given as goal

abbrev pub invariant-all_need-loop-s : goal.invariant-all_need-loop-s
invariant-all_need-loop-s l = list_needs l.x.0 (drop l.s-index l.all) ≡ list_needs l.x.0 l.all

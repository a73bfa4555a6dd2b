use Rattle.std.proofs.Common.{◌≡◌, ◌-◌, ◌^◌, min, take, sum_by}
use Rattle.base.specs.Items.{term_value}
use Rattle.outline.proofs.bounds.sum.Given as goal

abbrev pub invariant-terms : goal.invariant-terms
invariant-terms l = l.total ≡ min (sum_by (term_value l.loops) (take l.term-index l.terms)) (2 ^ 64 - 1)

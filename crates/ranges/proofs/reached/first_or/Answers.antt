use Rattle.std.proofs.Common.{sym, subst}
use Rattle.bits.specs.Sets.{has}
use Rattle.ranges.specs.Reach.{IsFirstOr}
use Rattle.ranges.proofs.LeastRuns.{first_or}
use Rattle.ranges.proofs.reached.first_or.Goals as goal

pub returns : goal.returns
returns c =
    subst (λ n. IsFirstOr (has c.args.set.now) c.args.end n) (sym c.unwrap_or.ensures)
    (first_or (has c.args.set.now) c.args.end c.first_from.result c.first_from.ensures c.requires)

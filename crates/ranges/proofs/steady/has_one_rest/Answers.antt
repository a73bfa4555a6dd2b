use Rattle.std.proofs.Common.{◌%◌, eqb-true}
use Rattle.ranges.proofs.SteadyRests.{steady_rest}
use Rattle.ranges.proofs.steady.has_one_rest.Goals as goal

pub returns-in-Some : goal.returns-in-Some
returns-in-Some c holds v turn =
    steady_rest c.args.e.now c.args.loops.now c.args.bounds c.in-Some.field-0 c.args.n.value c.requires c.in-Some.ensures
    (eqb-true (c.args.bounds.step % c.args.n.value) 0 holds) v turn

use Rattle.std.proofs.Common.{ap, length, arith}
use Rattle.c_grammar.specs.Blocks.{Items}
use Rattle.c_written.proofs.targets.closes_index.Goals as goal

pub overflow_add-open : goal.overflow_add-open
overflow_add-open c =
    let more = ap (λ (is : Items). length is) c.in-Some.ensures in
    omega (arith, more, c.tokens.invariant.few, c.requires)

use Rattle.std.proofs.Common.{◌∙◌, sym}
use Rattle.c_written.proofs.Counting.{numbered_more}
use Rattle.c_written.proofs.allocations.numbered.Goals as goal

pub numbers-preserved : goal.numbers-preserved
numbers-preserved c =
    sym (numbered_more _ _ _ _ _ _ _ c.in-Some.ensures c.in-Some-next.ensures (sym c.is_sign.ensures ∙ c.if-not-is_sign.false)
    (sym c.times.ensures ∙ c.in-Some-times.is) (sym c.ends_call.ensures ∙ c.if-ends_call.false)) ∙ c.numbers.invariant

use Rattle.std.proofs.Common.{sym, subst}
use Rattle.base.specs.declared.tree.DivideOp.{DivideOp}
use Rattle.base.specs.Value.{divided}
use Rattle.lanes.specs.Numbers.{Became}
use Rattle.lanes.proofs.Powers.{by_mask, by_shift}
use Rattle.lanes.proofs.numbers.divide_by_power.Goals as goal

pub returns-in-Quotient : goal.returns-in-Quotient
returns-in-Quotient c =
    subst (λ (o : DivideOp). Became (λ j x. divided o x c.args.n.value) c.args.d.now c.shift.new.d) (sym c.in-Quotient.is)
    (by_shift c.args.n.value c.args.k.count _ _ c.requires c.shift.ensures)

pub returns-in-Remainder : goal.returns-in-Remainder
returns-in-Remainder c =
    subst (λ (o : DivideOp). Became (λ j x. divided o x c.args.n.value) c.args.d.now c.with_number.new.d)
    (sym c.in-Remainder.is)
    (by_mask c.args.n.value c.args.k.count _ _ c.requires c.with_number.ensures)

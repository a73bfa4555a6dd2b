use Rattle.std.proofs.Common.{subst}
use Rattle.base.specs.Items.{plan}
use Rattle.mapcheck.specs.Passes.{IsCheckFault}
use Rattle.witness.proofs.Sources.{order_shown, refused_shown}
use Rattle.witness.proofs.search.judge.Goals as goal

pub returns-in-Err-Range : goal.returns-in-Err-Range
returns-in-Err-Range c =
    subst (IsCheckFault (plan c.args.outlined.now)) c.in-Err-Range.field-0-is c.in-Err-Range.ensures.fault

pub returns-in-Err-Order : goal.returns-in-Err-Order
returns-in-Err-Order c =
    order_shown _ c.in-Err-Order.field-0 c.in-Err-Order.field-0-0 c.in-Err-Order.field-0-is c.in-Err-Order.ensures.fault

pub returns-in-Err-Refused : goal.returns-in-Err-Refused
returns-in-Err-Refused c =
    refused_shown _ c.in-Err-Refused.field-0 c.in-Err-Refused.refusal c.in-Err-Refused.field-0-is c.in-Err-Refused.ensures.fault

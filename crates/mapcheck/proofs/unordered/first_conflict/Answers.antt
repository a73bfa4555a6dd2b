use Rattle.std.proofs.Common.{sym, ◌∙◌, length, arith}
use Rattle.base.specs.Items.{plan}
use Rattle.mapcheck.proofs.Clearance.{one_before}
use Rattle.mapcheck.proofs.Firsts.{first_with, none_below_more, not_some}
use Rattle.mapcheck.proofs.unordered.first_conflict.Goals as goal

pub items-preserved : goal.items-preserved
items-preserved c =
    let p = plan c.args.order.now in
    let item = c.items.item in
    let o = c.in_ok-conflict.conflict in
    record {
      none = none_below_more p item o c.items.invariant.none c.in_ok-conflict.ensures.conflict
          (not_some o (sym c.is_some.ensures ∙ c.if-is_some.false));
      before = one_before p item c.items.place c.after_all-after.result c.max-place.result
          (omega (arith, c.max-place.ensures)) (omega (arith, c.max-place.ensures)) c.items.invariant.before
          c.after_all-after.ensures.all;
      noted = c.in_ok-conflict.ensures.noted;
    }

pub returns-then-is_some : goal.returns-then-is_some
returns-then-is_some c =
    first_with (plan c.args.order.now) (length c.args.accesses.now) c.items.item c.in_ok-conflict.conflict
    c.items.invariant.none c.items-test.true (sym c.is_some.ensures ∙ c.if-is_some.true) c.in_ok-conflict.ensures.conflict

pub returns : goal.returns
returns c = λ j lt. c.items.invariant.none j (omega (arith, lt, c.items-test.false))

use Rattle.std.proofs.Common.{subst}
use Rattle.std.proofs.lemmas.List.{take_all}
use Rattle.order.specs.Touches.{HasTouchesOf}
use Rattle.order.proofs.Turns.{touches_more}
use Rattle.order.proofs.touches.add_touches.Goals as goal

pub returns-clause-added : goal.returns-clause-added
returns-clause-added c =
    subst (λ ds. HasTouchesOf c.args.written ds c.args.item c.loop-depend.touches.items)
    (take_all c.loop-depend.depend-index c.args.depends.now c.loop-depend-test.false) c.loop-depend.invariant.added

pub loop-depend-preserved : goal.loop-depend-preserved
loop-depend-preserved c =
    let h = c.loop-depend.invariant in
    let more = c.in_ok-add_touch.ensures in
    record {
      kept = λ t has. more.kept t (h.kept t has);
      added = touches_more c.args.written c.args.depends.now c.loop-depend.depend-index _ c.args.item c.loop-depend.touches.items
          c.add_touch.new.touches.items c.loop-depend-test.true more.kept h.added more.added;
      inside = λ n lt all. more.inside n lt (h.inside n lt all);
    }

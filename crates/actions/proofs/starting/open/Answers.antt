use Rattle.std.proofs.Common.{Option, Some}
use Rattle.base.specs.declared.tree.Region.{Region}
use Rattle.actions.specs.declared.control.Control.{Control}
use Rattle.actions.specs.Opening.{IsOpened, IsRegion}
use Rattle.actions.proofs.NextTurns.{no_turns}
use Rattle.actions.proofs.Opened.{opened_inside, opened_none, opened_of}
use Rattle.actions.proofs.starting.open.Goals.{In_ok-begin}
use Rattle.actions.proofs.starting.open.Goals as goal

pub returns-then-not-branch-clause-opened : goal.returns-then-not-branch-clause-opened
returns-then-not-branch-clause-opened c r is =
    opened_none c.args.it.now r c.args.order.now c.args.scalars.now c.args.input.now c.args.table.now
    c.in_ok-put_parts.field-0 c.kernel_of-kernel.result _ c.if-not-branch.true
    (c.in_ok-put_parts.ensures r c.args.order.now is (c.kernel_of-kernel.ensures r is))

-- the item before its first action
abbrev first : In_ok-begin → Control
first c = record {
  alloc = c.args.alloc;
  turns = c.new.result;
  order = c.args.order;
  strand = c.in_ok-begun.field-0;
  kernel = c.kernel_of-kernel.result;
}

opened : (c : In_ok-begin) (r : Option Region) → IsRegion c.args.region r →
    IsOpened c.args.it.now r c.args.order.now c.args.scalars.now c.args.input.now c.args.table.now (Some c.begin.new.self)
opened c r is =
    opened_of c.args.it.now r c.args.order.now c.args.scalars.now c.args.input.now c.args.table.now
    c.in_ok-put_parts.field-0 _ c.in_ok-begun.field-0 (first c) c.begin.new.self c.if-not-branch.false
    (c.in_ok-put_parts.ensures r c.args.order.now is (c.kernel_of-kernel.ensures r is)) c.in_ok-begun.ensures
    (no_turns (first c) c.new.ensures.items) c.in_ok-begin.ensures.same c.in_ok-begin.ensures.stopped

pub returns-clause-opened : goal.returns-clause-opened
returns-clause-opened c = opened (goal.at.returns-clause-opened c).In_ok-begin

pub returns-clause-inside : goal.returns-clause-inside
returns-clause-inside c =
    opened_inside c.args.it.now c.args.region c.args.order.now c.args.scalars.now c.args.input.now c.args.table.now
    (Some c.begin.new.self) (opened (goal.at.returns-clause-inside c).In_ok-begin)

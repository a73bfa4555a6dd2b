use Rattle.std.proofs.Common.{◌-◌, arith}
use Rattle.actions.proofs.Puts.{from_none}
use Rattle.actions.specs.Rest.{frames_of}
use Rattle.actions.proofs.starting.put_updates.Goals as goal

pub returns-then-not-branch : goal.returns-then-not-branch
returns-then-not-branch c =
    from_none c.args.table.now c.args.maps.now c.sections.first (c.sections.first - 1) _ c.in_ok-put_update.field-0
    (frames_of c.sections.frames) (frames_of c.put_update.new.frames) (omega (arith, c.sections-test.true))
    (omega (arith, c.sections-test.true, c.sections.invariant.bound)) c.if-not-branch.true c.in_ok-put_update.ensures

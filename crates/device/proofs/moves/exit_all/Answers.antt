use Rattle.std.proofs.lemmas.Option.{slice_get-get_or}
use Rattle.base.specs.Map.{leave}
use Rattle.device.proofs.Moving.{all_done, begins, next_goes, next_within, one_more_item}
use Rattle.device.proofs.moves.exit_all.Goals as goal

pub loop-i-init : goal.loop-i-init
loop-i-init c = begins leave c.args.maps.now c.args.table.now c.args.host.now c.requires.goes

pub exit_one-requires-clause-section : goal.exit_one-requires-clause-section
exit_one-requires-clause-section c = c.requires.sections c.loop-i.i _ (slice_get-get_or c.args.maps.now c.loop-i.i _ c.loop-i-test.true)

pub exit_one-requires-clause-within : goal.exit_one-requires-clause-within
exit_one-requires-clause-within c =
    next_within leave c.args.maps.now c.loop-i.i c.args.table.now c.args.host.now c.loop-i.table c.loop-i.host c.loop-i.invariant
    _ c.loop-i-test.true c.requires.within

pub exit_one-requires-clause-goes : goal.exit_one-requires-clause-goes
exit_one-requires-clause-goes c =
    next_goes leave c.args.maps.now c.loop-i.i c.args.table.now c.args.host.now c.loop-i.table c.loop-i.host c.loop-i.invariant
    _ c.loop-i-test.true

pub loop-i-preserved : goal.loop-i-preserved
loop-i-preserved c =
    one_more_item leave c.args.maps.now c.loop-i.i c.args.table.now c.args.host.now c.loop-i.table c.loop-i.host c.loop-i.invariant
    _ c.exit_one.new.table c.exit_one.new.host c.loop-i-test.true c.exit_one.ensures.left c.exit_one.ensures.lengths
    c.exit_one.ensures.kept

pub returns-clause-left : goal.returns-clause-left
returns-clause-left c =
    all_done leave c.args.maps.now c.loop-i.i c.args.table.now c.args.host.now c.loop-i.table c.loop-i.host c.loop-i.invariant
    c.loop-i-test.false

use Rattle.std.proofs.lemmas.Option.{slice_get-get_or}
use Rattle.base.specs.Map.{update}
use Rattle.device.proofs.Moving.{all_done, begins, next_goes, next_within, one_more_item}
use Rattle.device.proofs.moves.update_all.Goals as goal

pub loop-i-init : goal.loop-i-init
loop-i-init c = begins update c.args.maps.now c.args.table.now c.args.host.now c.requires.goes

pub update_one-requires-clause-section : goal.update_one-requires-clause-section
update_one-requires-clause-section c = c.requires.sections c.loop-i.i _ (slice_get-get_or c.args.maps.now c.loop-i.i _ c.loop-i-test.true)

pub update_one-requires-clause-within : goal.update_one-requires-clause-within
update_one-requires-clause-within c =
    next_within update c.args.maps.now c.loop-i.i c.args.table.now c.args.host.now c.loop-i.table c.loop-i.host c.loop-i.invariant
    _ c.loop-i-test.true c.requires.within

pub update_one-requires-clause-goes : goal.update_one-requires-clause-goes
update_one-requires-clause-goes c =
    next_goes update c.args.maps.now c.loop-i.i c.args.table.now c.args.host.now c.loop-i.table c.loop-i.host c.loop-i.invariant
    _ c.loop-i-test.true

pub loop-i-preserved : goal.loop-i-preserved
loop-i-preserved c =
    one_more_item update c.args.maps.now c.loop-i.i c.args.table.now c.args.host.now c.loop-i.table c.loop-i.host c.loop-i.invariant
    _ c.update_one.new.table c.update_one.new.host c.loop-i-test.true c.update_one.ensures.updated c.update_one.ensures.lengths
    c.update_one.ensures.kept

pub returns-clause-updated : goal.returns-clause-updated
returns-clause-updated c =
    all_done update c.args.maps.now c.loop-i.i c.args.table.now c.args.host.now c.loop-i.table c.loop-i.host c.loop-i.invariant
    c.loop-i-test.false

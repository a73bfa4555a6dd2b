use Rattle.c_statements.proofs.Loops.{frame_fits, frame_more}
use Rattle.c_statements.proofs.level.loops_around.Goals as goal

pub with_loops_of-count-requires : goal.with_loops_of-count-requires
with_loops_of-count-requires c = frame_fits c.args.scope.now.frames.items c.deref-frame-items.result.now
    c.frames.frame-index c.frames.count 16384 c.frame-item.result c.deref-frame-items.ensures.value c.frames-test.true
    c.frame-item.is c.frames.invariant c.requires

pub frames-preserved : goal.frames-preserved
frames-preserved c = frame_more c.args.scope.now.frames.items c.deref-frame-items.result.now c.frames.frame-index
    c.frames.count c.with_loops_of-count.result c.frame-item.result c.deref-frame-items.ensures.value
    c.frames-test.true c.frame-item.is c.frames.invariant c.with_loops_of-count.ensures

use Rattle.std.proofs.Common.{◌+◌, ◌-◌, ◌/◌, ◌<◌, ◌≤◌, length, get_or, arith}
use Rattle.std.proofs.lemmas.Option.{slice_get-get_or}
use Rattle.present.specs.Blocks.{stop_of}
use Rattle.present.proofs.Orders.{Stored, stored_each}
use Rattle.present.proofs.Founds.{before_more, after_less}
use Rattle.present.proofs.find.first_after.Goals as goal

pub start-requires : goal.start-requires
start-requires c =
    let bs = c.args.blocks.now in
    let m = c.loop-low.low + (c.loop-low.high - c.loop-low.low) / 2 in
    let within : m < length bs = omega arith in
    let w : Stored (get_or bs m c.index-blocks-middle.result) = stored_each bs c.requires m _
    (slice_get-get_or bs m _ within) in
    let end = w.end in
    omega arith

pub overflow_add-start : goal.overflow_add-start
overflow_add-start c =
    let bs = c.args.blocks.now in
    let m = c.loop-low.low + (c.loop-low.high - c.loop-low.low) / 2 in
    let within : m < length bs = omega arith in
    let w : Stored (get_or bs m c.index-blocks-middle.result) = stored_each bs c.requires m _
    (slice_get-get_or bs m _ within) in
    let end = w.end in
    omega arith

pub loop-low-preserved-then-start-section : goal.loop-low-preserved-then-start-section
loop-low-preserved-then-start-section c =
    let bs = c.args.blocks.now in
    let m = c.loop-low.low + (c.loop-low.high - c.loop-low.low) / 2 in
    let within : m < length bs = omega arith in
    let b = get_or bs m c.index-blocks-middle.result in
    let stops : stop_of b.section ≤ c.args.place = omega arith in
    record {
      order = omega arith;
      bound = c.loop-low.invariant.bound;
      before = before_more bs c.requires m c.args.place b (slice_get-get_or bs m _ within) stops;
      after = c.loop-low.invariant.after;
    }

pub loop-low-preserved : goal.loop-low-preserved
loop-low-preserved c =
    let bs = c.args.blocks.now in
    let m = c.loop-low.low + (c.loop-low.high - c.loop-low.low) / 2 in
    let within : m < length bs = omega arith in
    let b = get_or bs m c.index-blocks-middle.result in
    let stops : c.args.place < stop_of b.section = omega arith in
    record {
      order = omega arith;
      bound = omega arith;
      before = c.loop-low.invariant.before;
      after = after_less bs c.requires m c.args.place b (slice_get-get_or bs m _ within) stops;
    }

use Rattle.std.proofs.Common.{refl}
use Rattle.device.proofs.Kept.{kept_alike}
use Rattle.device.proofs.state.RunState.close_issued.Goals as goal

pub finish-requires : goal.finish-requires
finish-requires c =
    let d = c.args.done.now in
    record {
      region = d.region.now;
      frame = d.frame.now;
      of_item = refl;
      issued = c.requires;
      kept =
          kept_alike d.region.now d.region.now d.frame.now d.frame.now d.scalars.value c.deref.result.now d.rows.items c.deref-2.result.now
          d.input.now d.printed.items c.deref-3.result.now refl refl c.deref.ensures c.deref-2.ensures.value c.deref-3.ensures.value
          d.is_meaning;
    }

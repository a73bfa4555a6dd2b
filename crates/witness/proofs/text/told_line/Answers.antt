use Rattle.std.proofs.Common.{refl}
use Rattle.witness.proofs.StopLines.{told_written}
use Rattle.witness.proofs.text.told_line.Goals as goal

pub returns : goal.returns
returns g c =
    told_written c.side_text.result _ _ _ _ c.args.array.now c.args.stop.now _ refl c.in_ok-write.ensures.bytes
    c.in_ok-action_text.ensures c.side_text.ensures

use Rattle.std.proofs.Common.{refl}
use Rattle.witness.proofs.Told.{difference_written}
use Rattle.witness.proofs.text.difference_text.Goals as goal

pub returns : goal.returns
returns g c =
    difference_written c.writeln.result _ _ _ _ _ _ c.args.line c.args.own.now c.args.other.now _ refl c.in_ok-write.ensures.bytes
    c.in_ok-line_text.ensures c.in_ok-write-2.ensures.bytes c.in_ok-line_text-2.ensures c.writeln.ensures.bytes

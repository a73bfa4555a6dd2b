use Rattle.witness.proofs.Told.{line_written}
use Rattle.witness.proofs.text.turns_line.Goals as goal

pub returns : goal.returns
returns g c =
    line_written c.writeln.result _ _ _ _ c.args.turns.now c.if-is_empty.ensures
    c.in_ok-write.ensures.bytes c.in_ok-list_text.ensures c.writeln.ensures.bytes

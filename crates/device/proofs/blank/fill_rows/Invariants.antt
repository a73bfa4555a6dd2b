use Rattle.device.proofs.Blanks.{FilledUpTo}
use Rattle.device.proofs.blank.fill_rows.Given as goal

abbrev pub invariant-each : goal.invariant-each
invariant-each l = FilledUpTo l.i l.rows l.fn.blank l.blank

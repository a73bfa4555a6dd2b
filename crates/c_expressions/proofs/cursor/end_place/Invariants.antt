use Rattle.std.proofs.Common.{◌≡◌, ◌+◌, ◌≤◌, take}
use Rattle.c_tokens.specs.Text.{start, after_all}
use Rattle.c_expressions.proofs.cursor.end_place.Given as goal

abbrev pub invariant-bytes : goal.invariant-bytes
invariant-bytes l = record {
  line : l.line ≡ (after_all start (take l.b-index l.bytes)).line;
  column : l.column ≡ (after_all start (take l.b-index l.bytes)).column;
  line_fits : l.line ≤ l.b-index + 1;
  column_fits : l.column ≤ l.b-index + 1;
}

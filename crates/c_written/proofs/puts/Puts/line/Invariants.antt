use Rattle.std.proofs.Common.{◌≡◌, ◌++◌, length}
use Rattle.c_grammar.specs.Functions.{put_from, put_line}
use Rattle.directives.specs.Ahead.{seen_line}
use Rattle.directives.specs.Spells.{columns_of, kinds_of}
use Rattle.c_written.specs.Functions.{puts_of}
use Rattle.c_written.specs.Spots.{all_kinds, seen_spot}
use Rattle.c_written.proofs.Putting.{all_columns}
use Rattle.c_written.proofs.puts.Puts.line.Given as goal

abbrev pub invariant-lexemes : goal.invariant-lexemes
invariant-lexemes l = record {
  kinds : all_kinds l.put.items ++ put_from (puts_of l.self) (seen_spot l.spot) (all_kinds l.rest)
      ≡ put_line (puts_of l.self) (kinds_of (seen_line l.line));
  columns : all_columns l.put.items ++ all_columns l.rest ≡ columns_of (seen_line l.line);
}

abbrev pub decreases-lexemes : goal.decreases-lexemes
decreases-lexemes l = length l.rest

use Rattle.std.proofs.Common.{◌≡◌, ◌++◌, [], length}
use Rattle.c_grammar.specs.Expressions.{as_items}
use Rattle.c_grammar.specs.LineForms.{line_from}
use Rattle.c_terminals.specs.Seen.{seen_all}
use Rattle.c_written.specs.Lines.{unended}
use Rattle.c_written.specs.Values.{seen_values}
use Rattle.c_written.specs.Forms.{all_placed, with_line}
use Rattle.c_written.proofs.line_forms.written_behind.Given as goal

abbrev pub invariant-tokens : goal.invariant-tokens
invariant-tokens l = record {
  line : with_line l.forms (all_placed l.rest) ≡
      all_placed l.fn.words ++ line_from (seen_values l.values) (seen_values l.lengths) [] 0 (all_placed l.fn.rest);
  tokens : seen_all l.tokens ≡ unended (as_items 0 (all_placed l.rest));
}

abbrev pub decreases-tokens : goal.decreases-tokens
decreases-tokens l = length l.rest

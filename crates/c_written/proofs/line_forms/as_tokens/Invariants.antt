use Rattle.std.proofs.Common.{◌≡◌, take}
use Rattle.c_grammar.specs.Expressions.{as_items}
use Rattle.c_terminals.specs.Seen.{seen_all}
use Rattle.c_written.specs.Lines.{unended}
use Rattle.c_written.specs.Forms.{all_placed}
use Rattle.c_written.proofs.line_forms.as_tokens.Given as goal

abbrev pub invariant-lexemes : goal.invariant-lexemes
invariant-lexemes l = seen_all l.tokens.items ≡ unended (as_items l.line (all_placed (take l.placed-index l.lexemes)))

use Rattle.std.proofs.Common.{◌≡◌, length, map}
use Rattle.c_grammar.specs.Expressions.{as_items}
use Rattle.c_grammar.specs.Constants.{ends_remark}
use Rattle.directives.specs.Seen.{seen_placed}
use Rattle.c_terminals.proofs.lines.ends_remark.Given as goal

abbrev pub invariant-lexemes : goal.invariant-lexemes
invariant-lexemes l = ends_remark (as_items 0 (map seen_placed l.rest)) ≡ ends_remark (as_items 0 (map seen_placed l.fn.lexemes))

abbrev pub decreases-lexemes : goal.decreases-lexemes
decreases-lexemes l = length l.rest

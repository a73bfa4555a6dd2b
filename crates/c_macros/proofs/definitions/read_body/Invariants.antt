use Rattle.std.proofs.Common.{◌≡◌, length, map}
use Rattle.c_grammar.specs.Expressions.{as_items}
use Rattle.c_grammar.specs.Macros.{body_read}
use Rattle.directives.specs.Seen.{seen_placed}
use Rattle.c_macros.specs.Macros.{all_macros, seen_reading}
use Rattle.c_macros.proofs.definitions.read_body.Given as goal

abbrev pub invariant-lexemes : goal.invariant-lexemes
invariant-lexemes l =
    body_read (all_macros l.fn.macros) (as_items 0 (map seen_placed l.rest)) (seen_reading l.reading) ≡
    body_read (all_macros l.fn.macros) (as_items 0 (map seen_placed l.fn.lexemes)) (seen_reading l.fn.reading)

abbrev pub decreases-lexemes : goal.decreases-lexemes
decreases-lexemes l = length l.rest

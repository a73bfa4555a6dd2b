use Rattle.std.proofs.Common.{◌≡◌, length}
use Rattle.c_grammar.specs.Nesting.{last_word}
use Rattle.directives.specs.Seen.{seen_lexeme}
use Rattle.c_written.specs.Spots.{all_kinds}
use Rattle.c_written.proofs.nesting.last_word.Given as goal

abbrev pub invariant-tokens : goal.invariant-tokens
invariant-tokens l =
    last_word (seen_lexeme l.last) (all_kinds l.rest) ≡ last_word (seen_lexeme l.word) (all_kinds l.tokens)

abbrev pub decreases-tokens : goal.decreases-tokens
decreases-tokens l = length l.rest

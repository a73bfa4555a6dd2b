use Rattle.std.proofs.Common.{◌≡◌, drop}
use Rattle.c_grammar.specs.Types.{any_large}
use Rattle.c_types.specs.Found.{all_lexemes}
use Rattle.c_types.proofs.numbers.any_large.Given as goal

abbrev pub invariant-lexemes : goal.invariant-lexemes
invariant-lexemes l = any_large (all_lexemes (drop l.placed-index l.lexemes)) ≡ any_large (all_lexemes l.lexemes)

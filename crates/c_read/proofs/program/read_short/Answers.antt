use Rattle.std.proofs.Common.{subst, sym}
use Rattle.c_grammar.specs.AsciiNames.{AreAscii}
use Rattle.c_source.proofs.Written.{names_are_ascii}
use Rattle.c_expressions.specs.Means.{Items}
use Rattle.c_expressions.specs.Reading.{terminals}
use Rattle.c_read.proofs.program.read_short.Goals as goal

pub program-requires-clause-text : goal.program-requires-clause-text
program-requires-clause-text c =
    subst (λ (is : Items). AreAscii (terminals is)) (sym c.source_tokens-tokens.ensures) (names_are_ascii c.args.bytes.now)

use Rattle.std.proofs.Common.{◌∙◌, List, ap}
use Rattle.c_grammar.specs.Lexeme.{Placed}
use Rattle.c_grammar.specs.Updates.{is_compare}
use Rattle.directives.specs.Seen.{is_whole}
use Rattle.directives.specs.Spells.{kinds_of}
use Rattle.c_written.specs.Forms.{all_placed}
use Rattle.c_written.proofs.AtomicLines.{compare_whole}
use Rattle.c_written.proofs.atomics.compare_line.Goals as goal

pub of-requires : goal.of-requires
of-requires c =
    ap is_whole c.in_ok-tokens.ensures
    ∙ compare_whole (all_placed c.tokens.result.now) c.tokens.ensures.whole
    (ap (λ (ps : List Placed). is_compare (kinds_of ps)) c.tokens.ensures.tokens ∙ c.requires)

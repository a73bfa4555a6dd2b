use Rattle.std.proofs.Common.{◌∙◌, List, sym, ap}
use Rattle.c_grammar.specs.Lexeme.{Placed}
use Rattle.c_grammar.specs.Presence.{is_target}
use Rattle.directives.specs.Ahead.{seen_line}
use Rattle.directives.specs.Seen.{is_whole}
use Rattle.directives.specs.Spells.{kinds_of}
use Rattle.c_written.specs.Forms.{all_placed}
use Rattle.c_written.proofs.Parting.{data_whole, is_target_line}
use Rattle.c_written.proofs.sequences.data_of.Goals as goal

pub of-requires : goal.of-requires
of-requires c =
    ap is_whole c.in_ok-tokens.ensures
    ∙ data_whole (all_placed c.tokens.result.now) c.tokens.ensures.whole
    (ap (λ (ps : List Placed). is_target (kinds_of ps)) c.tokens.ensures.tokens
    ∙ is_target_line (kinds_of (seen_line c.args.line.now)) c.requires)

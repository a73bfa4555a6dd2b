use Rattle.std.proofs.Common.{◌∙◌, List, length, sym, ap, arith}
use Rattle.std.proofs.lemmas.List.{length-map}
use Rattle.c_grammar.specs.Lexeme.{Lexeme, Placed}
use Rattle.c_grammar.specs.Sequences.{may_part}
use Rattle.directives.specs.Ahead.{seen_line}
use Rattle.directives.specs.Seen.{seen_placed}
use Rattle.directives.specs.Spells.{kinds_of}
use Rattle.c_written.specs.Forms.{all_placed}
use Rattle.c_written.proofs.Parting.{short_line}
use Rattle.c_written.proofs.sequences.may_part.Goals as goal

pub returns-in_default : goal.returns-in_default
returns-in_default c =
    short_line c.tokens-tokens.result.now (seen_line c.args.line.now) c.tokens-tokens.ensures.tokens c.in_default.len_below

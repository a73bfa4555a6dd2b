use Rattle.std.proofs.Common.{◌∙◌, sym}
use Rattle.c_grammar.specs.Blocks.{bare}
use Rattle.c_written.specs.Boxes.{texts}
use Rattle.c_terminals.specs.Seen.{seen_all}
use Rattle.c_written.proofs.Boxing.{boxed_put}
use Rattle.c_written.proofs.boxed.boxed_token.Goals as goal

pub returns-then-is_directive : goal.returns-then-is_directive
returns-then-is_directive c =
    boxed_put (texts c.args.names.now) c.args.token c.in-Line.line (bare (seen_all c.args.region.now)) _ c.in-Line.is
    (sym c.is_directive.ensures ∙ c.if-is_directive.true) c.in_ok-boxed_line.ensures

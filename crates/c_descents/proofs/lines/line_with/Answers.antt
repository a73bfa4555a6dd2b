use Rattle.std.proofs.Common.{◌∙◌, ap, false}
use Rattle.directives.specs.Seen.{is_whole}
use Rattle.c_descents.specs.Blocks.{open_blocks}
use Rattle.c_descents.specs.Lines.{all_placed}
use Rattle.c_descents.proofs.Wholes.{line_whole}
use Rattle.c_descents.proofs.lines.line_with.Goals as goal

pub of-requires : goal.of-requires
of-requires c =
    ap is_whole c.in_ok-tokens.ensures
    ∙ line_whole (all_placed c.tokens.result.now) (open_blocks c.args.blocks.now) 0 false c.tokens.ensures.whole

use Rattle.std.proofs.Common.{◌∙◌, ap}
use Rattle.directives.specs.Seen.{is_whole}
use Rattle.c_devices.specs.Blocks.{open_blocks}
use Rattle.c_devices.specs.Lines.{all_placed}
use Rattle.c_devices.proofs.Wholes.{line_whole}
use Rattle.c_devices.proofs.lines.line_with.Goals as goal

pub of-requires : goal.of-requires
of-requires c =
    ap is_whole c.in_ok-tokens.ensures
    ∙ line_whole (open_blocks c.args.blocks.now) (all_placed c.tokens.result.now) ∙ c.tokens.ensures.whole

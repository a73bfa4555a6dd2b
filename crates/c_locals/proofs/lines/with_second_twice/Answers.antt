use Rattle.std.proofs.Common.{◌∙◌, ap}
use Rattle.directives.specs.Seen.{is_whole}
use Rattle.c_locals.specs.Lines.{all_placed}
use Rattle.c_locals.proofs.Wholes.{twice_whole}
use Rattle.c_locals.proofs.lines.with_second_twice.Goals as goal

pub of-requires : goal.of-requires
of-requires c =
    ap is_whole c.in_ok-tokens.ensures ∙ twice_whole (all_placed c.tokens.result.now) c.tokens.ensures.whole

use Rattle.std.proofs.Common.{◌∙◌, ap, refl}
use Rattle.directives.specs.Seen.{is_whole}
use Rattle.c_written.specs.Forms.{all_placed}
use Rattle.c_terminals.specs.Seen.{seen_all}
use Rattle.c_written.specs.Spots.{all_kinds}
use Rattle.c_written.proofs.ReducedLines.{reduced_whole}
use Rattle.c_written.proofs.updates.reduced_line.Goals as goal

pub of-requires : goal.of-requires
of-requires c =
    ap is_whole c.in_ok-reduced.ensures
    ∙ reduced_whole (all_kinds c.tokens.result.now) (seen_all c.args.region.now) 0 (all_placed c.tokens.result.now)
    c.tokens.ensures.whole refl

use Rattle.std.proofs.Common.{◌∙◌, sym, ap}
use Rattle.directives.specs.Ahead.{seen_line}
use Rattle.directives.specs.Seen.{is_whole}
use Rattle.c_written.specs.Functions.{puts_of}
use Rattle.c_written.specs.Spots.{seen_spot}
use Rattle.c_written.proofs.Putting.{put_whole}
use Rattle.c_written.proofs.puts.Puts.line.Goals as goal

pub of-requires : goal.of-requires
of-requires c =
    put_whole (puts_of c.args.self.now) c.lexemes.put.items c.lexemes.rest.now (seen_line c.args.line.now) (seen_spot c.lexemes.spot)
    c.lexemes.invariant.kinds c.in_default.len_below (sym (ap is_whole c.tokens-rest.ensures.tokens) ∙ c.tokens-rest.ensures.whole)

use Rattle.std.proofs.Common.{◌∙◌, sym}
use Rattle.c_terminals.specs.Seen.{seen_all, seen_terminal}
use Rattle.c_written.proofs.Parting.{parts_of_line}
use Rattle.c_written.proofs.sequences.put_outside.Goals as goal

pub put_data-requires : goal.put_data-requires
put_data-requires c =
    parts_of_line (seen_terminal c.args.token.terminal) (seen_all c.args.behind.now)
    (sym c.parts.ensures ∙ c.if-parts.true)

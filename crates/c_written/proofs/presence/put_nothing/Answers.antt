use Rattle.std.proofs.Common.{◌∙◌, ap}
use Rattle.std.proofs.lemmas.List.{map-append}
use Rattle.directives.specs.Seen.{seen_placed}
use Rattle.c_written.specs.Forms.{all_placed}
use Rattle.c_written.proofs.presence.put_nothing.Goals as goal

pub returns : goal.returns
returns c = ap all_placed c.in_ok-extend_from_slice.ensures.items ∙ map-append seen_placed c.args.clauses.now.items _

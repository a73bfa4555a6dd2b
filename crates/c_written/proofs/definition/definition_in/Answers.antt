use Rattle.std.proofs.Common.{sym, ap, arith}
use Rattle.std.proofs.lemmas.List.{length-map}
use Rattle.c_grammar.specs.Constants.{new_only}
use Rattle.directives.specs.Seen.{seen_placed}
use Rattle.c_written.specs.Forms.{all_placed}
use Rattle.c_written.specs.Values.{seen_values}
use Rattle.c_written.proofs.Defining.{defines_short}
use Rattle.c_written.proofs.definition.definition_in.Goals as goal

pub returns-in_default : goal.returns-in_default
returns-in_default c =
    ap (new_only (seen_values c.args.values.now))
    (sym (defines_short (seen_values c.args.values.now) c.args.line (all_placed c.args.lexemes.now)
    (omega (arith, length-map c.args.lexemes.now seen_placed, c.in_default.len_below))))

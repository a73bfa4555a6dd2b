use Rattle.std.proofs.Common.{◌∙◌, arith, sym}
use Rattle.c_terminals.specs.Ahead.{ahead}
use Rattle.c_terminals.specs.Seen.{seen}
use Rattle.c_types.specs.Found.{seen_found}
use Rattle.c_types.proofs.values.Value.take.Goals as goal

pub returns-then-is_sign-2 : goal.returns-then-is_sign-2
returns-then-is_sign-2 c =
    c.close.ensures (seen_found c.args.found.now) (seen c.args.token) (ahead c.args.rest)
    (omega (arith, c.if-self-gt0.false)) (sym c.is_sign-2.ensures ∙ c.if-is_sign-2.true)

use Rattle.std.proofs.Common.{◌∙◌, sym}
use Rattle.c_terminals.specs.Ahead.{ahead}
use Rattle.c_terminals.specs.Seen.{seen}
use Rattle.c_written.proofs.Sourcing.{static_first}
use Rattle.c_written.proofs.functions.has_function.Goals as goal

pub returns-then-is_specifier : goal.returns-then-is_specifier
returns-then-is_specifier c =
    static_first (ahead c.tokens.ahead) (ahead c.next.new.self) (seen c.in-Some.token) c.in-Some.ensures
    (sym c.is_specifier.ensures ∙ c.if-is_specifier.true)
    ∙ c.tokens.invariant

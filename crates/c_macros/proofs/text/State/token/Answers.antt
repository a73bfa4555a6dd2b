use Rattle.std.proofs.Common.{◌≡◌, ◌∙◌, IfOk, Option, subst, sym}
use Rattle.c_grammar.specs.Blocks.{bare}
use Rattle.c_grammar.specs.Macros.{State}
use Rattle.c_macros.specs.Definitions.{seen_defined}
use Rattle.c_macros.specs.Text.{seen_state, state_so_far}
use Rattle.c_terminals.specs.Seen.{seen_all}
use Rattle.c_macros.proofs.Steps.{line_taken}
use Rattle.c_macros.proofs.text.State.token.Goals as goal

pub returns-else-is_open : goal.returns-else-is_open
returns-else-is_open c =
    subst (λ (o : Option State). IfOk c.line.result (λ b. state_so_far b c.line.new.self ≡ o))
    (line_taken (seen_state c.args.self.now) c.args.token c.in-Line.line c.tokens.result.now (bare (seen_all c.args.rest.now))
    (seen_defined c.defined_in.result) c.in-Line.is c.tokens.ensures.tokens c.defined_in.ensures
    (sym c.is_open.ensures ∙ c.if-is_open.false)) c.line.ensures

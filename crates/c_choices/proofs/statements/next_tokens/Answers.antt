use Rattle.std.proofs.Common.{◌∙◌, ◌-◌, sym, take}
use Rattle.c_terminals.specs.Ahead.{ahead}
use Rattle.c_terminals.proofs.Lists.{written_one}
use Rattle.c_terminals.specs.Seen.{seen}
use Rattle.c_choices.proofs.Parting.{take_next}
use Rattle.c_choices.proofs.statements.next_tokens.Goals as goal

pub tokens-preserved : goal.tokens-preserved
tokens-preserved c =
    sym (written_one c.tokens.tokens.items c.push.new.self.items c.in-Some.token (take c.tokens.left (ahead c.tokens.ahead))
    (take (c.tokens.left - 1) (ahead c.next.new.self)) c.in_ok-push.ensures.items
    (take_next c.tokens.left (ahead c.tokens.ahead) (ahead c.next.new.self) (seen c.in-Some.token) c.tokens-test.true
    c.in-Some.ensures))
    ∙ c.tokens.invariant

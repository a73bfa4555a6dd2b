use Rattle.std.proofs.Common.{◌∙◌, ◌++◌, ◌-◌, ap, sym, take}
use Rattle.c_grammar.specs.Blocks.{Items}
use Rattle.c_terminals.specs.Ahead.{ahead}
use Rattle.c_terminals.specs.Held.{written_all}
use Rattle.c_terminals.specs.Seen.{seen}
use Rattle.c_written.proofs.Flattening.{take_next}
use Rattle.c_written.proofs.Working.{written_more}
use Rattle.c_written.proofs.grids.put_next.Goals as goal

pub tokens-preserved : goal.tokens-preserved
tokens-preserved c =
    sym (written_more c.tokens.done.items c.push.new.self.items c.in_ok-of.field-0 (seen c.in-Some.token)
    (take (c.tokens.left - 1) (ahead c.next.new.self)) c.in_ok-push.ensures.items c.in_ok-of.ensures)
    ∙ ap (λ (is : Items). written_all c.tokens.done.items ++ is)
    (sym (take_next _ _ _ _ c.in-Some.ensures c.tokens-test.true))
    ∙ c.tokens.invariant

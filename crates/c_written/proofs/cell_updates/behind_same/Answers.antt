use Rattle.std.proofs.Common.{◌∙◌, sym}
use Rattle.c_terminals.specs.Ahead.{ahead}
use Rattle.c_terminals.specs.Seen.{seen}
use Rattle.c_written.proofs.CellUpdating.{behind_step}
use Rattle.c_written.proofs.cell_updates.behind_same.Goals as goal

pub tokens-preserved : goal.tokens-preserved
tokens-preserved c =
    sym (behind_step c.tokens.left (ahead c.tokens.index) (ahead c.tokens.ahead) (ahead c.next.new.self)
    (ahead c.next-in-tokens.new.self) (seen c.in-Some.own) (seen c.in-Some-next.next) c.tokens-test.true
    c.in-Some.ensures c.in-Some-next.ensures (sym c.equal.ensures ∙ c.if-not-equal.false))
    ∙ c.tokens.invariant

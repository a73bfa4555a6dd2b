use Rattle.std.proofs.Common.{◌∙◌, None, Some, take, sym}
use Rattle.c_terminals.specs.Ahead.{ahead}
use Rattle.c_terminals.specs.Seen.{seen}
use Rattle.c_written.proofs.CellUpdating.{sign_again}
use Rattle.c_written.proofs.cell_updates.again.Goals as goal

pub returns-in-Some : goal.returns-in-Some
returns-in-Some c =
    c.sign_at.ensures
    ∙ sym (sign_again c.args.name.now (take c.args.len (ahead c.args.index)) (ahead c.args.rest) (ahead c.next.new.self)
    (seen c.in_ok-own.own) (Some (ahead c.in-Some.behind)) c.in_ok-own.ensures
    (sym c.is_named.ensures ∙ c.if-not-is_named.false) c.in-Some.ensures)

pub returns-in-None : goal.returns-in-None
returns-in-None c =
    sym (sign_again c.args.name.now (take c.args.len (ahead c.args.index)) (ahead c.args.rest) (ahead c.next.new.self)
    (seen c.in_ok-own.own) None c.in_ok-own.ensures
    (sym c.is_named.ensures ∙ c.if-not-is_named.false) c.in-None.ensures)

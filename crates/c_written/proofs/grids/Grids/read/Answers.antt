use Rattle.std.proofs.Common.{◌∙◌, None, Some, ap, sym}
use Rattle.std.specs.Option.{option_map}
use Rattle.std.proofs.lemmas.Result.{on_ok_weaker}
use Rattle.c_terminals.specs.Ahead.{ahead}
use Rattle.c_written.specs.Grids.{seen_row}
use Rattle.c_terminals.specs.Seen.{seen}
use Rattle.c_written.proofs.Flattening.{name_goes, row_goes}
use Rattle.c_written.proofs.grids.Grids.read.Goals as goal

pub returns-in-Some : goal.returns-in-Some
returns-in-Some c =
    on_ok_weaker c.begin_row.result
    (row_goes c.args.deep c.args.self.now c.begin_row.new.self (seen c.args.token) (ahead c.args.start) (Some (seen_row c.in-Some.row))
    (sym c.is_word.ensures ∙ c.if-is_word.false) (sym c.is_sign.ensures ∙ c.if-is_sign.false)
    (sym c.is_sign-2.ensures ∙ c.if-is_sign-2.false)
    (ap (λ o. option_map seen_row o) (sym c.in-Some.is) ∙ c.row.ensures))
    c.begin_row.ensures

pub returns-in-None : goal.returns-in-None
returns-in-None c =
    on_ok_weaker c.put_name.result
    (λ h. row_goes c.args.deep c.args.self.now c.put_name.new.self (seen c.args.token) (ahead c.args.start) None
    (sym c.is_word.ensures ∙ c.if-is_word.false) (sym c.is_sign.ensures ∙ c.if-is_sign.false)
    (sym c.is_sign-2.ensures ∙ c.if-is_sign-2.false)
    (ap (λ o. option_map seen_row o) (sym c.in-None.is) ∙ c.row.ensures)
    (name_goes c.args.self.now c.put_name.new.self (seen c.args.token) _ c.requires.begun h))
    c.put_name.ensures

use Rattle.std.proofs.Common.{◌∙◌, ◌∷◌, ◌++◌, [], ap, refl}
use Rattle.c_grammar.specs.Terminal.{Terminal}
use Rattle.c_grammar.specs.Texts.{Item}
use Rattle.directives.specs.Ahead.{seen_line}
use Rattle.c_written.specs.Grids.{columns_of}
use Rattle.c_terminals.specs.Held.{written_all}
use Rattle.c_terminals.proofs.Owning.{held_more}
use Rattle.c_written.proofs.Rows.{line_put}
use Rattle.c_written.proofs.grids.Grids.put_line.Goals as goal

pub returns : goal.returns
returns c =
    let old = c.args.self.now in
    let line = c.in_ok-line_in_rows.field-0 in
    let put = line_put (columns_of old) c.args.token c.in-Line.line (seen_line line) c.in-Line.is c.requires c.in_ok-line_in_rows.ensures in
    record {
      done =
          ap written_all c.in_ok-push.ensures.items ∙ held_more old.done.items _
          ∙ ap (λ (i : Item Terminal). written_all old.done.items ++ i ∷ []) put;
      columns = refl;
      ranges = refl;
      brackets = refl;
      left = refl;
    }

use Rattle.std.proofs.Common.{◌∙◌, ◌∷◌, ◌++◌, [], ap, refl}
use Rattle.c_grammar.specs.Terminal.{Terminal}
use Rattle.c_grammar.specs.Texts.{Item}
use Rattle.directives.specs.Ahead.{seen_line}
use Rattle.c_terminals.specs.Held.{written_all}
use Rattle.c_terminals.proofs.Owning.{held_more}
use Rattle.c_devices.specs.Blocks.{open_blocks}
use Rattle.c_devices.proofs.Wholes.{line_put}
use Rattle.c_devices.proofs.devices.Devices.put_line.Goals as goal

pub returns : goal.returns
returns c =
    let old = c.args.self.now in
    let put =
    line_put (open_blocks old.blocks) c.args.token c.in-Line.line (seen_line c.in_ok-written.written) c.in-Line.is
    c.in_ok-written.ensures in
    record {
      done =
          ap written_all c.in_ok-push-2.ensures.items ∙ held_more old.done.items _
          ∙ ap (λ (i : Item Terminal). written_all old.done.items ++ i ∷ []) put;
      state = refl;
    }

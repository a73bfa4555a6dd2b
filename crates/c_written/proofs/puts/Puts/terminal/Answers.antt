use Rattle.std.proofs.Common.{◌∙◌, sym, ap}
use Rattle.c_grammar.specs.Texts.{Item}
use Rattle.c_grammar.specs.Terminal.{Terminal}
use Rattle.c_written.specs.Functions.{others_of, puts_of}
use Rattle.c_written.proofs.Putting.{terminal_stays}
use Rattle.c_written.proofs.puts.Puts.terminal.Goals as goal

pub returns-in_ok-terminal-in_default : goal.returns-in_ok-terminal-in_default
returns-in_ok-terminal-in_default c = record {
  terminal =
      ap (λ (i : Item Terminal). i.terminal) c.in_ok-terminal-in_default.ensures
      ∙ sym (terminal_stays (puts_of c.args.self.now) (others_of c.args.other) c.args.token.terminal c.in_default.not-Name
      c.in_default.not-Line);
  columns = ap (λ (i : Item Terminal). i.columns) c.in_ok-terminal-in_default.ensures;
}

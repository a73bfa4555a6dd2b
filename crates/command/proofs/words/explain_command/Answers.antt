use Rattle.std.proofs.Common.{[], ◌∷◌, codes}
use Rattle.command.specs.CommandLine.{command, file, text_option}
use Rattle.command.proofs.words.explain_command.Goals as goal

pub returns : goal.returns
returns c =
    let one = c.with_arg-command.ensures (command (codes "explain") (file ∷ [])) (text_option (codes "format")) c.file_command.ensures
    c.format_arg.ensures in
    c.with_arg.ensures (command (codes "explain") (file ∷ text_option (codes "format") ∷ [])) (text_option (codes "color")) one c.color_arg.ensures

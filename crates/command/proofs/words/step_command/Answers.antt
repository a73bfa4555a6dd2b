use Rattle.std.proofs.Common.{[], ◌∷◌, codes}
use Rattle.command.specs.CommandLine.{capacity, command, file, flag, text_option}
use Rattle.command.proofs.words.step_command.Goals as goal

pub returns : goal.returns
returns c =
    let one = c.with_arg-command.ensures (command (codes "step") (file ∷ [])) (text_option (codes "choices")) c.file_command-command.ensures
    c.choices_arg.ensures in
    let two = c.with_arg-command-2.ensures (command (codes "step") (file ∷ text_option (codes "choices") ∷ [])) capacity one c.capacity_arg.ensures in
    let three = c.with_arg-command-3.ensures (command (codes "step") (file ∷ text_option (codes "choices") ∷ capacity ∷ []))
    (flag (codes "fine")) two c.fine_arg.ensures in
    let four = c.with_arg-command-4.ensures (command (codes "step") (file ∷ text_option (codes "choices") ∷ capacity ∷ flag (codes "fine") ∷ []))
    (text_option (codes "turns")) three c.turns_arg.ensures in
    let five = c.with_arg-command-5.ensures (command (codes "step")
    (file ∷ text_option (codes "choices") ∷ capacity ∷ flag (codes "fine") ∷ text_option (codes "turns") ∷ []))
    (flag (codes "maps")) four c.maps_arg.ensures in
    c.with_arg.ensures (command (codes "step")
    (file ∷ text_option (codes "choices") ∷ capacity ∷ flag (codes "fine") ∷ text_option (codes "turns") ∷ flag (codes "maps") ∷ []))
    (text_option (codes "choice-runs")) five c.choice_runs_arg.ensures

use Rattle.std.proofs.Common.{[], ◌∷◌, codes}
use Rattle.command.specs.CommandLine.{capacity, command, file, flag, workers}
use Rattle.command.proofs.words.run_command.Goals as goal

pub returns : goal.returns
returns c =
    let one = c.with_arg-command.ensures (command (codes "run") (file ∷ [])) workers c.file_command-command.ensures c.workers_arg.ensures in
    let two = c.with_arg-command-2.ensures (command (codes "run") (file ∷ workers ∷ [])) capacity one c.capacity_arg.ensures in
    let three = c.with_arg-command-3.ensures (command (codes "run") (file ∷ workers ∷ capacity ∷ [])) (flag (codes "log")) two c.log_arg.ensures in
    let four = c.with_arg-command-4.ensures (command (codes "run") (file ∷ workers ∷ capacity ∷ flag (codes "log") ∷ [])) (flag (codes "maps")) three c.maps_arg.ensures in
    c.with_arg.ensures (command (codes "run") (file ∷ workers ∷ capacity ∷ flag (codes "log") ∷ flag (codes "maps") ∷ []))
    (flag (codes "finals")) four c.finals_arg.ensures

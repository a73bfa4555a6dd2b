use Rattle.std.proofs.Common.{ℕ, List, ◌++◌}
use Rattle.std.specs.Prelude.{codes}
use Rattle.witness.specs.Texts.{named, options}
use Rattle.witness.proofs.Told.{then_on}
use Rattle.witness.proofs.text.command_line.Goals as goal

pub returns : goal.returns
returns g c =
    let parts : List ℕ = named c.args.name.now (options c.args.choices.now c.args.turns.now) in
    then_on c.writeln.result _ _ _ (codes "ompc step --fine") (parts ++ codes "\n") c.in_ok-write.ensures.bytes
    (then_on c.writeln.result _ _ _ parts (codes "\n") c.in_ok-named.ensures c.writeln.ensures.bytes)

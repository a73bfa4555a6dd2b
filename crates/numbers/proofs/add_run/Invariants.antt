use Rattle.std.proofs.Common.{◌≡◌, ◌++◌}
use Rattle.numbers.specs.Numbers.{repeated}
use Rattle.numbers.proofs.add_run.Given as goal

-- so often the number stands behind the choices before
abbrev pub invariant-times : goal.invariant-times
invariant-times l = l.choices.items ≡ l.initial.choices.items ++ repeated l.counter l.number

use Rattle.std.proofs.Common.{arith, ◌∙◌, sym}
use Rattle.c_read.proofs.Names.{stop_name, go_name, bad_name}
use Rattle.c_read.proofs.array.global_name.Goals as goal

pub returns-in-Some-clause-read : goal.returns-in-Some-clause-read
returns-in-Some-clause-read c = λ s.
    bad_name c.args.scope.now s c.in-Name.name.now c.args.tokens.now c.take.new.self c.place-place.result c.in-Some.code
    (sym c.in-Name.ensures.token) c.take.ensures c.place-place.ensures (sym c.global_fault.ensures.code ∙ c.in-Some.is)

pub returns-in_default-global_fault-clause-read : goal.returns-in_default-global_fault-clause-read
returns-in_default-global_fault-clause-read c = grind (arith, go_name)

pub returns-in_default : goal.returns-in_default
returns-in_default c = grind (arith, stop_name)

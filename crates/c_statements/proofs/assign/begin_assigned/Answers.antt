use Rattle.std.proofs.Common.{◌∙◌, sym}
use Rattle.std.specs.Option.{option_map}
use Rattle.c_expressions.specs.Scopes.{sort_of_meaning}
use Rattle.c_statements.proofs.Assigns.{bad_assigned, go_assigned}
use Rattle.c_statements.proofs.assign.begin_assigned.Goals as goal

pub returns-in-Some-clause-read : goal.returns-in-Some-clause-read
returns-in-Some-clause-read c = λ s.
    bad_assigned c.args.scope.now s c.args.name.now (option_map sort_of_meaning c.meaning-meant.result)
    c.args.tokens.now c.take.new.self c.place-place.result c.in-Some.code c.requires c.take.ensures
    (c.meaning-meant.ensures.sort 0 0) c.place-place.ensures (sym c.name_fault.ensures.code ∙ c.in-Some.is)

pub returns-clause-read : goal.returns-clause-read
returns-clause-read c = λ s.
    go_assigned c.args.scope.now s c.args.name.now (option_map sort_of_meaning c.meaning-meant.result)
    c.args.tokens.now c.take.new.self c.requires c.take.ensures (c.meaning-meant.ensures.sort 0 0)
    (sym c.name_fault.ensures.code ∙ c.in_default.is)

use Rattle.std.proofs.Common.{◌≡◌, ◌++◌, drop, map}
use Rattle.c_grammar.specs.Functions.{known_names}
use Rattle.c_written.specs.Functions.{known_in, seen_function}
use Rattle.c_written.proofs.functions.Source.names.Given as goal

abbrev pub invariant-functions : goal.invariant-functions
invariant-functions l =
    map (λ x. x.now) l.names.items ++ map (λ f. f.name) (map seen_function (drop l.function-index l.self.scope.functions.items))
    ≡ known_names (known_in l.self)

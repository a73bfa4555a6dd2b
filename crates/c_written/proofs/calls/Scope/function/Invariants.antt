use Rattle.std.proofs.Common.{◌≡◌, drop}
use Rattle.c_grammar.specs.Functions.{function_of}
use Rattle.c_written.specs.Functions.{functions_of}
use Rattle.c_written.proofs.calls.Scope.function.Given as goal

abbrev pub invariant-functions : goal.invariant-functions
invariant-functions l =
    function_of (drop l.function-index (functions_of l.self)) l.name ≡ function_of (functions_of l.self) l.name

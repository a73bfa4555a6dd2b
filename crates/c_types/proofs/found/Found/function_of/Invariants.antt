use Rattle.std.proofs.Common.{◌≡◌, MatchOption, Some, None, take}
use Rattle.c_grammar.specs.Types.{function_of}
use Rattle.c_types.specs.Found.{all_called, all_taken}
use Rattle.c_types.proofs.found.Found.function_of.Given as goal

abbrev pub invariant-functions : goal.invariant-functions
invariant-functions l =
    MatchOption l.found (function_of (all_called (take l.function-index l.self.functions.items)) l.name ≡ None)
    (λ s. function_of (all_called (take l.function-index l.self.functions.items)) l.name ≡ Some (all_taken s.now))

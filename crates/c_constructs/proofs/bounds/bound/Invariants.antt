use Rattle.std.proofs.Common.{◌≡◌, ◌++◌, map, take, drop}
use Rattle.c_expressions.specs.Scopes.{names_of}
use Rattle.directives.specs.Names.{Uses, bound_names, each_names, signed_names}
use Rattle.directives.specs.Trees.{signed_of, term_of}
use Rattle.c_constructs.specs.Uses.{fault_in}
use Rattle.c_constructs.specs.Written.{IsBound}
use Rattle.c_constructs.proofs.bounds.bound.Given as goal

abbrev pub invariant-terms : goal.invariant-terms
invariant-terms l = record {
  read : (us : Uses) → fault_in l.scope (bound_names l.bound ++ us) ≡ fault_in l.scope
      (each_names signed_names (drop l.more-index l.bound.more.items) ++ us);
  means : IsBound (names_of l.scope) (term_of l.bound.first, map signed_of (take l.more-index l.bound.more.items))
      l.read;
}

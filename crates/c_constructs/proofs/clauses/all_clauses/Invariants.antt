use Rattle.std.proofs.Common.{◌≡◌, ◌++◌, take, drop}
use Rattle.c_expressions.specs.Scopes.{names_of}
use Rattle.directives.specs.Names.{Uses, clause_names, each_names}
use Rattle.c_constructs.specs.Clauses.{AreRead}
use Rattle.c_constructs.specs.Uses.{fault_in}
use Rattle.c_constructs.proofs.clauses.all_clauses.Given as goal

abbrev pub invariant-clauses : goal.invariant-clauses
invariant-clauses g l = record {
  read : (us : Uses) → fault_in l.scope (each_names clause_names l.clauses ++ us) ≡ fault_in l.scope
      (each_names clause_names (drop l.one-index l.clauses) ++ us);
  means : AreRead g.K.MapKind.seen (names_of l.scope) l.line (take l.one-index l.clauses) l.read;
}

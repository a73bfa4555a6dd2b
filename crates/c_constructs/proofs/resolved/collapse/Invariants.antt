use Rattle.std.proofs.Common.{◌≡◌, map, drop}
use Rattle.c_grammar.specs.Lines.{collapse_in}
use Rattle.directives.specs.Trees.{clause_of}
use Rattle.c_constructs.proofs.resolved.collapse.Given as goal

abbrev pub invariant-clauses : goal.invariant-clauses
invariant-clauses l = collapse_in l.depth (map clause_of (drop l.one-index l.clauses)) ≡ collapse_in 1
    (map clause_of l.clauses)

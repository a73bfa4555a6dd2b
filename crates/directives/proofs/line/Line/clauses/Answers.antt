use Rattle.std.proofs.Common.{arith, ◌∙◌}
use Rattle.directives.specs.Kinds.{seen_kind}
use Rattle.directives.specs.Cursor.{items}
use Rattle.directives.proofs.ClausesRead.{read_ends, clause_less, read_clauses_more, takes_clauses_more}
use Rattle.directives.proofs.Clausing.{at_last}
use Rattle.directives.proofs.line.Line.clauses.Goals as goal

pub clauses-preserved : goal.clauses-preserved
clauses-preserved c = record {
  read = λ s. c.clauses.invariant.read s ∙ c.in_ok-clause.ensures.read s;
  tree = read_clauses_more c.clauses.clauses.items c.push.new.self.items c.in_ok-clause.clause (items c.args.self.now)
      (items c.clauses.self) (items c.clause.new.self) c.in_ok-push.ensures.items c.clauses.invariant.tree
      c.in_ok-clause.ensures.tree;
  takes = takes_clauses_more (seen_kind c.args.kind) c.clauses.clauses.items c.push.new.self.items c.in_ok-clause.clause
      c.in_ok-push.ensures.items c.clauses.invariant.takes c.in_ok-clause.ensures.takes;
}

pub clauses-smaller : goal.clauses-smaller
clauses-smaller c = grind (arith, clause_less)

pub returns-in_err-end-clause-read : goal.returns-in_err-end-clause-read
returns-in_err-end-clause-read c = grind (arith, at_last)

pub returns-clause-read : goal.returns-clause-read
returns-clause-read c = grind (arith, at_last)

pub returns-clause-tree : goal.returns-clause-tree
returns-clause-tree c = grind (arith, read_ends)

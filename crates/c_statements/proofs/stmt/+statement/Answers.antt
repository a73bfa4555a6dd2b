use Rattle.std.proofs.Common.{◌∙◌, ◌∷◌, refl, sym, arith}
use Rattle.std.proofs.lemmas.Result.{err_from_is_err_and}
use Rattle.c_tokens.specs.declared.kind.Sign.TheVariants as sign
use Rattle.c_grammar.specs.Program.{Body, OrElse, body}
use Rattle.c_expressions.specs.Cursor.{items}
use Rattle.c_expressions.specs.Scopes.{context_of}
use Rattle.c_expressions.proofs.Going.{was_mark, went}
use Rattle.c_expressions.proofs.Outcomes.{on_from, failed_from}
use Rattle.c_statements.specs.Simple.{env_of}
use Rattle.c_statements.proofs.Begins.{at_print, at_name, at_loop, at_choice, no_else_here, stop_stmt}
use Rattle.c_statements.proofs.Composes.{within_same, body_scope, body_tree, block_scope, block_tree, loop_tree, if_tree, if_else_tree, choice_scope, else_scope}
use Rattle.c_statements.proofs.Fronts.{front_begins, front_more, front_ends, front_ready}
use Rattle.c_statements.proofs.Atomics.{at_marked_choice, at_marked_name, at_marks, read_atomic, stop_marked}
use Rattle.c_statements.proofs.Levels.{same_again, same_counted, same_none}
use Rattle.std.proofs.lemmas.Grind.{common_steps}
use Rattle.c_statements.proofs.stmt.+statement.Goals as goal

pub atomic_update-returns-in_err-begin_atomic-clause-read : goal.atomic_update-returns-in_err-begin_atomic-clause-read
atomic_update-returns-in_err-begin_atomic-clause-read t c = λ s.
    let p = err_from_is_err_and c.from_residual.result c.from_residual.ensures.1 in
    rw (p.1, p.2) (failed_from _ _ _ (at_marks (context_of c.args.scope.now 0 0) s c.args.tokens.now c.requires.line)
    (c.in_err-begin_atomic.ensures.read _))

pub atomic_update-returns-in_err-statement-clause-read : goal.atomic_update-returns-in_err-statement-clause-read
atomic_update-returns-in_err-statement-clause-read t c = λ s.
    let p = err_from_is_err_and c.from_residual-in_err-statement.result c.from_residual-in_err-statement.ensures.1 in
    rw (p.1, p.2) (failed_from _ _ _ (at_marks (context_of c.args.scope.now 0 0) s c.args.tokens.now c.requires.line
    ∙ c.in_ok-begin_atomic.ensures.read _) (c.in_err-statement.ensures.read s))

pub atomic_update-returns-clause-read : goal.atomic_update-returns-clause-read
atomic_update-returns-clause-read t c = λ s.
    at_marks (context_of c.args.scope.now 0 0) s c.args.tokens.now c.requires.line ∙ c.in_ok-begin_atomic.ensures.read _
    ∙ c.in_ok-statement.ensures.read s

pub atomic_update-returns-clause-scope : goal.atomic_update-returns-clause-scope
atomic_update-returns-clause-scope t c = same_again c.args.scope.now c.begin_atomic.new.scope c.marked.new.scope
    (same_counted c.args.scope.now c.begin_atomic.new.scope c.in_ok-begin_atomic.ensures.scope)
    c.in_ok-statement.ensures.scope

pub atomic_update-returns-clause-tree : goal.atomic_update-returns-clause-tree
atomic_update-returns-clause-tree t c =
    read_atomic c.args.scope.now c.begin_atomic.new.scope c.marked.new.scope c.args.tokens.now
    c.begin_atomic.new.tokens (items c.marked.new.tokens) c.in_ok-statement.statement c.as_update.result
    c.in_ok-begin_atomic.ensures.scope c.requires.line c.in_ok-begin_atomic.ensures.taken c.in_ok-statement.ensures.tree
    c.as_update.ensures

pub marked-returns-in-Word-If-clause-read : goal.marked-returns-in-Word-If-clause-read
marked-returns-in-Word-If-clause-read t c = grind (arith, at_marked_choice)

pub marked-returns-in-Name-clause-read : goal.marked-returns-in-Name-clause-read
marked-returns-in-Name-clause-read t c = grind (arith, at_marked_name)

pub marked-returns-in_default-clause-read : goal.marked-returns-in_default-clause-read
marked-returns-in_default-clause-read t c = grind (arith, stop_marked)

pub blocked-returns-clause-scope : goal.blocked-returns-clause-scope
blocked-returns-clause-scope t c = block_scope c.args.scope.now c.begin_block.new.scope c.statements.new.scope
    c.in_ok-begin_block.ensures.opened c.in_ok-begin_block.ensures.names c.in_ok-statements.ensures.scope

pub blocked-returns-clause-tree : goal.blocked-returns-clause-tree
blocked-returns-clause-tree t c = block_tree c.args.scope.now c.begin_block.new.scope c.statements.new.scope
    c.args.tokens.now c.begin_block.new.tokens (items c.statements.new.tokens) c.in_ok-statements.statements
    c.requires.ready.target c.in_ok-begin_block.ensures.opened c.in_ok-begin_block.ensures.names
    c.in_ok-begin_block.ensures.next c.in_ok-statements.ensures.scope c.requires.opening
    c.in_ok-begin_block.ensures.taken c.in_ok-statements.ensures.tree

pub body-returns-clause-scope : goal.body-returns-clause-scope
body-returns-clause-scope t c = body_scope c.args.scope.now c.open_body.new.scope c.statements.new.scope c.args.turn
    c.in_ok-open_body.ensures.opened c.in_ok-open_body.ensures.names c.in_ok-body.ensures.scope

pub body-returns-clause-tree : goal.body-returns-clause-tree
body-returns-clause-tree t c = body_tree c.args.scope.now c.open_body.new.scope c.statements.new.scope c.args.turn
    c.args.tokens.now c.open_body.new.tokens (items c.statements.new.tokens) c.in_ok-body.body.items
    c.in_ok-open_body.ensures.opened c.in_ok-open_body.ensures.names c.in_ok-open_body.ensures.next
    c.in_ok-body.ensures.scope c.in_ok-open_body.ensures.first c.in_ok-open_body.ensures.taken
    c.in_ok-body.ensures.tree

pub choice-returns-then-not-at_word-clause-read : goal.choice-returns-then-not-at_word-clause-read
choice-returns-then-not-at_word-clause-read t c = λ s.
    c.in_ok-begin_choice.ensures.read _ ∙ c.in_ok-test.ensures.read _ ∙ c.in_ok-first.ensures.read (OrElse ∷ Body ∷ s)
    ∙ no_else_here (context_of c.body.new.scope 0 0) s c.body.new.tokens (sym c.at_word.ensures ∙ c.if-not-at_word.true)

pub choice-returns-then-not-at_word-clause-tree : goal.choice-returns-then-not-at_word-clause-tree
choice-returns-then-not-at_word-clause-tree t c = if_tree c.args.scope.now c.begin_choice.new.scope c.body.new.scope
    c.in_ok-test.test c.args.tokens.now c.begin_choice.new.tokens (items c.condition.new.tokens)
    (items c.body.new.tokens) c.in_ok-first.first c.new.result c.requires.ready.target
    c.in_ok-begin_choice.ensures.scope c.requires.word c.in_ok-begin_choice.ensures.taken c.in_ok-test.ensures.tree
    c.in_ok-first.ensures.tree c.new.ensures.items

pub choice-returns-clause-tree : goal.choice-returns-clause-tree
choice-returns-clause-tree t c = if_else_tree c.args.scope.now c.begin_choice.new.scope c.body.new.scope
    c.otherwise.new.scope c.body-2.new.scope
    c.in_ok-test.test c.args.tokens.now c.begin_choice.new.tokens c.body.new.tokens c.otherwise.new.tokens
    (items c.condition.new.tokens) (items c.body-2.new.tokens) c.in_ok-first.first c.in_ok-second.second
    c.requires.ready.target c.in_ok-begin_choice.ensures.scope c.requires.word c.in_ok-begin_choice.ensures.taken
    c.in_ok-test.ensures.tree c.in_ok-first.ensures.tree c.in_ok-first.ensures.target
    (went _ c.body.new.tokens (sym c.at_word.ensures ∙ c.if-not-at_word.false))
    c.otherwise.ensures.taken c.otherwise.ensures.scope c.in_ok-second.ensures.tree

pub looped-returns-in_err-bounds-clause-read : goal.looped-returns-in_err-bounds-clause-read
looped-returns-in_err-bounds-clause-read t c = λ s.
    let p = err_from_is_err_and c.from_residual-in_err-bounds.result c.from_residual-in_err-bounds.ensures.1 in
    rw (p.1, p.2) (failed_from _ _ _ (c.in_ok-begin_loop.ensures.read _ ∙ c.in_ok-name.ensures.read 0 s)
    (c.in_err-bounds.ensures.read (body s)))

pub looped-returns-clause-read : goal.looped-returns-clause-read
looped-returns-clause-read t c = λ s.
    c.in_ok-begin_loop.ensures.read _ ∙ c.in_ok-name.ensures.read 0 s ∙ c.in_ok-bounds.ensures.read (body s)
    ∙ c.in_ok-body.ensures.read s

pub looped-returns-clause-tree : goal.looped-returns-clause-tree
looped-returns-clause-tree t c = loop_tree c.args.scope.now c.begin_loop.new.scope
    c.bounds.new.scope c.body.new.scope c.in_ok-name.name c.loops_around-level.result c.in_ok-bounds.bounds
    c.args.tokens.now c.begin_loop.new.tokens (items c.head_name.new.tokens) (items c.bounds.new.tokens)
    (items c.body.new.tokens) c.in_ok-body.body c.requires.ready.target c.in_ok-begin_loop.ensures.scope
    c.in_ok-bounds.ensures.scope c.loops_around-level.ensures c.requires.word
    c.in_ok-begin_loop.ensures.taken c.in_ok-name.ensures.gone c.in_ok-bounds.ensures.gone c.in_ok-body.ensures.tree

pub statements-statements-init : goal.statements-statements-init
statements-statements-init t c = record {
  read = λ s. refl;
  scope = same_none c.args.scope.now;
  tree = front_begins (env_of c.args.scope.now) (items c.args.tokens.now) c.new-statements.result.items
      c.new-statements.ensures.items;
}

pub statements-statement-requires : goal.statements-statement-requires
statements-statement-requires t c = (
  omega (arith, c.statements.invariant.tree.no_more),
  (
    front_ready c.args.scope.now c.statements.scope (items c.args.tokens.now) (items c.statements.tokens)
        c.statements.statements.items c.requires.ready c.statements.invariant.scope c.statements.invariant.tree,
    (
      within_same c.args.scope.now c.statements.scope c.statements.invariant.scope c.requires.within,
      sym c.at.ensures ∙ c.statements-test.true,
    ),
  ),
)

pub statements-statements-preserved : goal.statements-statements-preserved
statements-statements-preserved t c = record {
  read = λ s. c.statements.invariant.read s ∙ c.in_ok-next.ensures.read s;
  scope = same_again c.args.scope.now c.statements.scope c.statement.new.scope c.statements.invariant.scope
      c.in_ok-next.ensures.scope;
  tree = front_more (env_of c.args.scope.now) (env_of c.statements.scope) (env_of c.statement.new.scope)
      (items c.args.tokens.now) (items c.statements.tokens) (items c.statement.new.tokens)
      c.statements.statements.items c.push.new.self.items c.in_ok-next.next c.in_ok-push.ensures.items
      c.statements.invariant.tree c.in_ok-next.ensures.tree;
}

pub statements-returns-clause-tree : goal.statements-returns-clause-tree
statements-returns-clause-tree t c = front_ends (env_of c.args.scope.now) (env_of c.statements.scope)
    (items c.args.tokens.now) c.statements.tokens c.close_body.new.tokens c.close_body.new.scope.scalars
    c.statements.statements.items c.statements.invariant.tree
    (was_mark sign.CloseBrace c.statements.tokens (sym c.at.ensures ∙ c.statements-test.false))
    c.close_body.ensures.taken c.close_body.ensures.next

pub choice-returns-then-not-at_word-clause-scope : goal.choice-returns-then-not-at_word-clause-scope
choice-returns-then-not-at_word-clause-scope t c = choice_scope c.args.scope.now c.begin_choice.new.scope c.body.new.scope
    c.in_ok-begin_choice.ensures.scope c.in_ok-first.ensures.scope c.in_ok-first.ensures.waiting

pub choice-returns-clause-scope : goal.choice-returns-clause-scope
choice-returns-clause-scope t c = else_scope c.args.scope.now c.body.new.scope c.otherwise.new.scope c.body-2.new.scope
    (choice_scope c.args.scope.now c.begin_choice.new.scope c.body.new.scope c.in_ok-begin_choice.ensures.scope
    c.in_ok-first.ensures.scope c.in_ok-first.ensures.waiting) c.otherwise.ensures.scope c.in_ok-second.ensures.scope
    c.in_ok-second.ensures.waiting

pub looped-body-requires : goal.looped-body-requires
looped-body-requires t c = grind (arith, common_steps)

pub looped-returns-in_err-body-clause-read : goal.looped-returns-in_err-body-clause-read
looped-returns-in_err-body-clause-read t c = grind (arith, on_from)

pub statement-returns-in-Word-For-clause-read : goal.statement-returns-in-Word-For-clause-read
statement-returns-in-Word-For-clause-read t c = grind (arith, at_loop)

pub statement-returns-in-Word-If-clause-read : goal.statement-returns-in-Word-If-clause-read
statement-returns-in-Word-If-clause-read t c = grind (arith, at_choice)

pub statement-returns-in-Word-Print-clause-read : goal.statement-returns-in-Word-Print-clause-read
statement-returns-in-Word-Print-clause-read t c = grind (arith, at_print)

pub statement-returns-in-Name-clause-read : goal.statement-returns-in-Name-clause-read
statement-returns-in-Name-clause-read t c = grind (arith, at_name)

pub statement-returns-in_default-clause-read : goal.statement-returns-in_default-clause-read
statement-returns-in_default-clause-read t c = grind (arith, stop_stmt)

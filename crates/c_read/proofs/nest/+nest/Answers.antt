use Rattle.std.proofs.Common.{◌∙◌, ◌∷◌, ◌++◌, [], List, Some, sym, ap}
use Rattle.c_tokens.specs.declared.kind.Sign.TheVariants as sign
use Rattle.base.specs.declared.fault.TextFault.{TextFault}
use Rattle.base.specs.declared.tree.Stmt.{Stmt as Statement}
use Rattle.c_grammar.specs.Grammar.{Closes, for}
use Rattle.c_grammar.specs.Program.{Want}
use Rattle.c_grammar.specs.Terminal.{Mark}
use Rattle.c_expressions.specs.Cursor.{items}
use Rattle.c_expressions.specs.Scopes.{context_of}
use Rattle.c_expressions.proofs.Going.{stop_want, was_mark, went}
use Rattle.c_statements.specs.Simple.{env_of}
use Rattle.c_statements.proofs.Composes.{body_scope}
use Rattle.c_read.proofs.Nests.{deep_body, nest_closes, nest_tree, nested_tree, next_tree}
use Rattle.c_read.proofs.nest.+nest.Goals as goal

pub nest-returns-clause-tree : goal.nest-returns-clause-tree
nest-returns-clause-tree t c = λ u e b.
    nest_tree c.args.depth c.args.scope.now c.bounds.new.scope c.nest_body.new.scope
    c.in_ok-name.name c.loops_around-level.result c.in_ok-bounds.bounds u c.args.tokens.now
    (items c.head_name.new.tokens) (items c.bounds.new.tokens) (items c.nest_body.new.tokens) c.in_ok-body.body
    c.requires.within c.in_ok-bounds.ensures.scope c.loops_around-level.ensures e b
    c.in_ok-name.ensures.gone c.in_ok-bounds.ensures.gone c.in_ok-body.ensures.tree

pub nest_body-returns-clause-scope : goal.nest_body-returns-clause-scope
nest_body-returns-clause-scope t c = body_scope c.args.scope.now c.open_body.new.scope c.nested.new.scope
    (Some c.args.turn) c.in_ok-open_body.ensures.opened c.in_ok-open_body.ensures.names c.in_ok-body.ensures.scope

pub nest_body-returns-clause-tree : goal.nest_body-returns-clause-tree
nest_body-returns-clause-tree t c = deep_body c.args.depth c.args.scope.now c.open_body.new.scope c.nested.new.scope
    c.args.turn c.args.tokens.now c.open_body.new.tokens (items c.nested.new.tokens) c.in_ok-body.body.items
    c.if-depth-eq0.false c.in_ok-open_body.ensures.opened c.in_ok-open_body.ensures.names
    c.in_ok-open_body.ensures.next c.in_ok-body.ensures.scope c.in_ok-open_body.ensures.first
    c.in_ok-open_body.ensures.taken c.in_ok-body.ensures.tree

pub nested-returns-then-not-at-clause-read : goal.nested-returns-then-not-at-clause-read
nested-returns-then-not-at-clause-read t c = λ s.
    c.in_ok-turns.ensures.read (Want (Mark sign.CloseBrace) (for Closes) ∷ s)
    ∙ stop_want (context_of c.next_loop.new.scope 0 0) s sign.CloseBrace Closes c.next_loop.new.tokens
    (sym c.at.ensures ∙ c.if-not-at.true) ∙ ap (λ (f : TextFault). Some f) (sym c.refuse.ensures)

pub nested-returns-clause-read : goal.nested-returns-clause-read
nested-returns-clause-read t c = λ s.
    c.in_ok-turns.ensures.read (Want (Mark sign.CloseBrace) (for Closes) ∷ s)
    ∙ nest_closes (context_of c.next_loop.new.scope 0 0) s c.next_loop.new.tokens
    (was_mark sign.CloseBrace c.next_loop.new.tokens (sym c.at.ensures ∙ c.if-not-at.false))
    ∙ c.close_body.ensures.read s

pub nested-returns-clause-tree : goal.nested-returns-clause-tree
nested-returns-clause-tree t c =
    nested_tree c.args.depth c.close_body.new.scope.scalars (env_of c.args.scope.now) (env_of c.next_loop.new.scope)
    (items c.args.tokens.now) c.next_loop.new.tokens c.close_body.new.tokens c.in_ok-turns.turns c.push.new.self.items
    (c.in_ok-push.ensures.items ∙ ap (λ (xs : List Statement). xs ++ c.in_ok-turns.turns ∷ []) c.new-body.ensures.items)
    (was_mark sign.CloseBrace c.next_loop.new.tokens (sym c.at.ensures ∙ c.if-not-at.false)) c.close_body.ensures.taken
    c.close_body.ensures.next c.in_ok-turns.ensures.tree

pub next_loop-returns-clause-tree : goal.next_loop-returns-clause-tree
next_loop-returns-clause-tree t c =
    next_tree c.args.depth c.args.scope.now c.begin_loop.new.scope c.nest.new.scope (items c.args.tokens.now)
    (items c.nest.new.tokens) c.in_ok-turns.turns c.in_ok-begin_loop.ensures.scope c.requires.within
    c.in_ok-turns.ensures.scope.inside
    (c.in_ok-turns.ensures.tree c.args.tokens.now
    (went _ c.args.tokens.now (sym c.at_word.ensures ∙ c.if-not-at_word.false)) c.in_ok-begin_loop.ensures.taken)

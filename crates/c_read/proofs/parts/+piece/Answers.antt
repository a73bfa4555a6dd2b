use Rattle.std.proofs.Common.{◌∙◌, List, ◌∷◌, None, Some, refl, sym, ap, subst, arith, inl, inr}
use Rattle.std.proofs.lemmas.Result.{err_from_is_err_and}
use Rattle.c_tokens.specs.declared.kind.Sign.TheVariants as sign
use Rattle.base.specs.declared.tree.Place.{Place}
use Rattle.c_grammar.specs.Program.{Body, body}
use Rattle.c_grammar.specs.Terminal.{Terminal}
use Rattle.c_expressions.specs.Means.{Items}
use Rattle.c_expressions.specs.Reading.{terminals}
use Rattle.base.specs.declared.tree.Part.{Data as DataOf}
use Rattle.base.specs.declared.tree.Part.TheVariants as part
use Rattle.c_expressions.specs.Cursor.{items, first_item, behind}
use Rattle.c_expressions.proofs.Going.{was_mark, went}
use Rattle.c_expressions.proofs.Outcomes.{failed_from}
use Rattle.c_statements.specs.Simple.{env_of}
use Rattle.c_statements.proofs.Composes.{block_scope, body_scope}
use Rattle.c_statements.proofs.Levels.{same_again, same_limit, same_none}
use Rattle.c_statements.proofs.Nesting.{inner_same}
use Rattle.c_statements.specs.Bodies.{inner_env}
use Rattle.c_constructs.specs.declared.resolved.Construct.{Construct}
use Rattle.c_constructs.specs.declared.resolved.Resolved.{Resolved}
use Rattle.c_constructs.specs.LineMeaning.{IsRead, scope_behind}
use Rattle.c_read.specs.Gathering.{so_far}
use Rattle.c_read.specs.Parts.{Placed}
use Rattle.c_read.specs.Read.{AreAlone, IsBlockRead, IsLoopRead, IsOverRead}
use Rattle.c_read.proofs.Pieces.{front_none, front_more, front_ends, front_outside}
use Rattle.c_read.proofs.Trees.{body_braces, loop_turns, read_block, read_loop, same_inner}
use Rattle.c_read.proofs.Directed.{directive_comes, read_alone}
use Rattle.c_read.proofs.Overs.{read_over}
use Rattle.c_read.proofs.Unders.{under_loop, under_brace, stop_under}
use Rattle.c_statements.proofs.Begins.{at_loop, at_block}
use Rattle.std.proofs.lemmas.Grind.{common_steps}
use Rattle.c_read.proofs.parts.+piece.Goals as goal

pub blocked-returns-clause-scope : goal.blocked-returns-clause-scope
blocked-returns-clause-scope t c = block_scope c.args.scope.now c.begin_block.new.scope c.gather.new.scope
    c.in_ok-begin_block.ensures.opened c.in_ok-begin_block.ensures.names c.in_ok-gathered.ensures.scope

pub blocked-returns-clause-tree : goal.blocked-returns-clause-tree
blocked-returns-clause-tree t c = read_block c.args.scope.now c.begin_block.new.scope c.gather.new.scope
    c.args.tokens.now c.begin_block.new.tokens (items c.gather.new.tokens) (so_far c.in_ok-gathered.gathered)
    c.in_ok-block.block c.requires.outside.ready.target c.in_ok-begin_block.ensures.opened
    c.in_ok-begin_block.ensures.names c.in_ok-begin_block.ensures.next c.in_ok-gathered.ensures.scope
    c.requires.opening c.in_ok-begin_block.ensures.taken c.in_ok-gathered.ensures.tree c.in_ok-block.ensures.means

pub looped-returns-clause-tree : goal.looped-returns-clause-tree
looped-returns-clause-tree t c = read_loop (env_of c.args.scope.now) (env_of c.begin_loop.new.scope)
    (env_of c.turns.new.scope) c.args.tokens.now c.begin_loop.new.tokens (items c.turns.new.tokens)
    c.in_ok-turns.turns c.requires.word c.in_ok-begin_loop.ensures.taken
    (ap env_of c.in_ok-begin_loop.ensures.scope) c.in_ok-turns.ensures.tree

pub directed-returns-in-Alone-clause-tree : goal.directed-returns-in-Alone-clause-tree
directed-returns-in-Alone-clause-tree t c =
    read_alone c.args.scope.now c.directive.new.scope c.args.tokens.now c.directive.new.tokens c.in-Alone.place c.in-Alone.directive
    c.requires.line c.requires.apart c.in_ok-resolved.ensures.taken
    (c.in_ok-resolved.ensures.scope ∙ ap (λ (r : Resolved). scope_behind r c.args.scope.now) c.in-Alone.is)
    (subst (λ (r : Resolved). IsRead (env_of c.args.scope.now).names (first_item c.args.tokens.now) (behind c.args.tokens.now) r)
    c.in-Alone.is c.in_ok-resolved.ensures.means)

pub directed-returns-in_ok-part-in-Over-clause-tree : goal.directed-returns-in_ok-part-in-Over-clause-tree
directed-returns-in_ok-part-in-Over-clause-tree t c =
    read_over c.args.scope.now c.directive.new.scope c.over.new.scope c.args.tokens.now c.directive.new.tokens
    (items c.over.new.tokens) c.in-Over.construct c.in_ok-part-in-Over.part c.requires.line c.in_ok-resolved.ensures.taken
    (c.in_ok-resolved.ensures.scope ∙ ap (λ (r : Resolved). scope_behind r c.args.scope.now) c.in-Over.is)
    (subst (λ (r : Resolved). IsRead (env_of c.args.scope.now).names (first_item c.args.tokens.now) (behind c.args.tokens.now) r)
    c.in-Over.is c.in_ok-resolved.ensures.means)
    c.in_ok-part-in-Over.ensures.scope.inside c.in_ok-part-in-Over.ensures.tree

pub over-returns-in_ok-region-in-Target-clause-tree : goal.over-returns-in_ok-region-in-Target-clause-tree
over-returns-in_ok-region-in-Target-clause-tree t c =
    subst (λ (k : Construct). IsOverRead (env_of c.args.scope.now) (env_of c.region.new.scope) k (items c.args.tokens.now)
    (items c.region.new.tokens) (part.Target c.in-Target.target c.in_ok-region-in-Target.region)) (sym c.in-Target.is) (
      c.in_ok-region-in-Target.region,
      refl,
      c.in_ok-region-in-Target.ensures.place,
      c.in_ok-region-in-Target.ensures.tree,
      c.in_ok-region-in-Target.ensures.depth,
    )

pub over-returns-in_ok-parts-in-Data-clause-tree : goal.over-returns-in_ok-parts-in-Data-clause-tree
over-returns-in_ok-parts-in-Data-clause-tree t c =
    subst (λ (k : Construct). IsOverRead (env_of c.args.scope.now) (env_of c.data_parts.new.scope) k (items c.args.tokens.now)
    (items c.data_parts.new.tokens) (DataOf c.in-Data.data c.in_ok-parts-in-Data.parts)) (sym c.in-Data.is)
    (c.in_ok-parts-in-Data.parts, refl, c.in_ok-parts-in-Data.ensures.longest, c.in_ok-parts-in-Data.ensures.tree)

pub gather-pieces-init : goal.gather-pieces-init
gather-pieces-init t c = record {
  read = λ s. refl;
  scope = same_none c.args.scope.now;
  tree = front_none (env_of c.args.scope.now) (items c.args.tokens.now) (so_far c.new-gathered.result) c.new-gathered.ensures.pieces;
  sound = c.new-gathered.ensures.sound;
}

pub gather-pieces-preserved : goal.gather-pieces-preserved
gather-pieces-preserved t c = record {
  read = λ s. c.pieces.invariant.read s ∙ c.in_ok-next.ensures.read s;
  scope = same_again c.args.scope.now c.pieces.scope c.piece.new.scope c.pieces.invariant.scope c.in_ok-next.ensures.scope;
  tree = front_more (env_of c.args.scope.now) (env_of c.pieces.scope) (env_of c.piece.new.scope) (items c.args.tokens.now)
      (items c.pieces.tokens) (items c.piece.new.tokens) c.pieces.gathered c.add.new.self c.place-place.result c.in_ok-next.next
      c.pieces.invariant.tree c.place-place.ensures c.in_ok-add.ensures c.in_ok-next.ensures.tree;
  sound = c.in_ok-add.ensures.sound;
}

pub gather-returns-clause-tree : goal.gather-returns-clause-tree
gather-returns-clause-tree t c = front_ends (env_of c.args.scope.now) (env_of c.pieces.scope) (items c.args.tokens.now)
    c.pieces.tokens c.close_body.new.tokens c.close_body.new.scope.scalars (so_far c.pieces.gathered)
    c.pieces.invariant.tree (was_mark sign.CloseBrace c.pieces.tokens (sym c.at.ensures ∙ c.pieces-test.false))
    c.close_body.ensures.taken c.close_body.ensures.next

pub gather-piece-requires : goal.gather-piece-requires
gather-piece-requires t c = (
  omega (arith, c.pieces.invariant.tree.no_more),
  (
    front_outside c.args.scope.now c.pieces.scope (items c.args.tokens.now) (items c.pieces.tokens) (so_far c.pieces.gathered)
        c.requires c.pieces.invariant.scope c.pieces.invariant.tree,
    sym c.at.ensures ∙ c.pieces-test.true,
  ),
)

pub data_parts-returns-then-at-clause-scope : goal.data_parts-returns-then-at-clause-scope
data_parts-returns-then-at-clause-scope t c = body_scope c.args.scope.now c.open_body.new.scope c.gather.new.scope None
    c.in_ok-open_body.ensures.opened c.in_ok-open_body.ensures.names c.in_ok-gathered.ensures.scope

pub data_parts-returns-then-at-clause-tree : goal.data_parts-returns-then-at-clause-tree
data_parts-returns-then-at-clause-tree t c =
    inl (subst (λ (ps : List Placed). IsBlockRead (env_of c.args.scope.now) (env_of c.args.scope.now) (env_of c.gather.new.scope)
    (items c.args.tokens.now) (items c.gather.new.tokens) ps) (sym c.in_ok-parts.ensures.pieces)
    (same_inner (env_of c.args.scope.now) (inner_env None c.args.scope.now) (env_of c.args.scope.now) (env_of c.gather.new.scope)
    (items c.args.tokens.now) (items c.gather.new.tokens) (so_far c.in_ok-gathered.gathered)
    (inner_same c.args.scope.now c.requires.outside.ready.target)
    (body_braces c.args.scope.now c.open_body.new.scope c.gather.new.scope None c.args.tokens.now c.open_body.new.tokens
    (items c.gather.new.tokens) (so_far c.in_ok-gathered.gathered) c.in_ok-open_body.ensures.opened
    c.in_ok-open_body.ensures.names c.in_ok-open_body.ensures.next c.in_ok-gathered.ensures.scope
    c.in_ok-open_body.ensures.first c.in_ok-open_body.ensures.taken c.in_ok-gathered.ensures.tree)))

pub data_parts-returns-then-at_word-clause-tree : goal.data_parts-returns-then-at_word-clause-tree
data_parts-returns-then-at_word-clause-tree t c =
    inr (
      c.in_ok-turns.turns,
      subst (λ (at : Place). AreAlone at c.in_ok-turns.turns c.in_ok-parts-2.parts.items) c.place-place.ensures
          c.in_ok-parts-2.ensures.parts,
      ap (λ (x : Terminal). x ∷ terminals (behind c.args.tokens.now))
          (went _ c.args.tokens.now (sym c.at_word.ensures ∙ c.if-at_word.true)),
      subst (λ (is : Items). IsLoopRead (env_of c.args.scope.now) (env_of c.turns.new.scope) is (items c.turns.new.tokens)
          c.in_ok-turns.turns) (sym c.take.ensures) c.in_ok-turns.ensures.tree,
    )

pub turns-returns-in_err-bounds-clause-read : goal.turns-returns-in_err-bounds-clause-read
turns-returns-in_err-bounds-clause-read t c = λ s.
    let p = err_from_is_err_and c.from_residual-in_err-bounds.result c.from_residual-in_err-bounds.ensures.1 in
    rw (p.1, p.2) (failed_from _ _ _ (c.in_ok-name.ensures.read 0 s) (c.in_err-bounds.ensures.read (body s)))

pub turns-returns-in_err-open_body-clause-read : goal.turns-returns-in_err-open_body-clause-read
turns-returns-in_err-open_body-clause-read t c = λ s.
    let p = err_from_is_err_and c.from_residual-in_err-open_body.result c.from_residual-in_err-open_body.ensures.1 in
    rw (p.1, p.2) (failed_from _ _ _ (c.in_ok-name.ensures.read 0 s ∙ c.in_ok-bounds.ensures.read (body s))
    (c.in_err-open_body.ensures.read (Body ∷ s)))

pub turns-returns-in_err-gathered-clause-read : goal.turns-returns-in_err-gathered-clause-read
turns-returns-in_err-gathered-clause-read t c = λ s.
    let p = err_from_is_err_and c.from_residual-in_err-gathered.result c.from_residual-in_err-gathered.ensures.1 in
    rw (p.1, p.2) (failed_from _ _ _ (c.in_ok-name.ensures.read 0 s ∙ c.in_ok-bounds.ensures.read (body s)
    ∙ c.in_ok-open_body.ensures.read (Body ∷ s)) (c.in_err-gathered.ensures.read s))

pub turns-returns-clause-read : goal.turns-returns-clause-read
turns-returns-clause-read t c = λ s.
    c.in_ok-name.ensures.read 0 s ∙ c.in_ok-bounds.ensures.read (body s) ∙ c.in_ok-open_body.ensures.read (Body ∷ s)
    ∙ c.in_ok-gathered.ensures.read s

pub turns-returns-clause-scope : goal.turns-returns-clause-scope
turns-returns-clause-scope t c =
    same_again c.args.scope.now c.bounds.new.scope c.gather.new.scope
    (same_limit c.args.scope.now c.bounds.new.scope c.in_ok-bounds.bounds.end c.in_ok-bounds.ensures.scope)
    (body_scope c.bounds.new.scope c.open_body.new.scope c.gather.new.scope
    (Some (record { name = c.in_ok-name.name; level = c.loops_around-level.result }))
    c.in_ok-open_body.ensures.opened c.in_ok-open_body.ensures.names c.in_ok-gathered.ensures.scope)

pub turns-returns-clause-tree : goal.turns-returns-clause-tree
turns-returns-clause-tree t c =
    loop_turns c.args.scope.now c.bounds.new.scope c.open_body.new.scope c.gather.new.scope
    c.in_ok-name.name c.loops_around-level.result c.in_ok-bounds.bounds c.bounds.new.tokens c.open_body.new.tokens
    (items c.args.tokens.now) (items c.head_name.new.tokens) (items c.gather.new.tokens)
    (so_far c.in_ok-gathered.gathered) c.in_ok-turns.turns c.requires.outside.ready.target
    c.in_ok-bounds.ensures.scope c.loops_around-level.ensures c.in_ok-name.ensures.gone c.in_ok-bounds.ensures.gone
    c.in_ok-open_body.ensures.opened c.in_ok-open_body.ensures.names c.in_ok-open_body.ensures.next
    c.in_ok-gathered.ensures.scope c.in_ok-open_body.ensures.first c.in_ok-open_body.ensures.taken
    c.in_ok-gathered.ensures.tree c.in_ok-turns.ensures.means

pub data_parts-returns-then-at-clause-read : goal.data_parts-returns-then-at-clause-read
data_parts-returns-then-at-clause-read t c = grind (arith, under_brace)

pub data_parts-returns-in_err-turns-clause-read : goal.data_parts-returns-in_err-turns-clause-read
data_parts-returns-in_err-turns-clause-read t c = grind (arith, under_loop)

pub data_parts-returns-then-at_word-clause-read : goal.data_parts-returns-then-at_word-clause-read
data_parts-returns-then-at_word-clause-read t c = grind (arith, under_loop)

pub data_parts-returns-clause-read : goal.data_parts-returns-clause-read
data_parts-returns-clause-read t c = grind (arith, stop_under)

pub directed-returns-in-Alone-clause-read : goal.directed-returns-in-Alone-clause-read
directed-returns-in-Alone-clause-read t c = grind (arith, directive_comes)

pub piece-returns-then-at_word-clause-read : goal.piece-returns-then-at_word-clause-read
piece-returns-then-at_word-clause-read t c = grind (arith, at_loop)

pub piece-returns-then-at-clause-read : goal.piece-returns-then-at-clause-read
piece-returns-then-at-clause-read t c = grind (arith, at_block)

pub turns-gather-requires : goal.turns-gather-requires
turns-gather-requires t c = grind (arith, common_steps)

use Rattle.std.proofs.Common.{refl}
use Rattle.c_expressions.specs.Cursor.{items}
use Rattle.c_read.proofs.Programs.{main_outside, read_text, start_none}
use Rattle.c_read.proofs.program.program.Goals as goal

pub globals-requires-clause-none : goal.globals-requires-clause-none
globals-requires-clause-none c = start_none c.args.scope.now c.requires.fresh

pub returns-clause-tree : goal.returns-clause-tree
returns-clause-tree c =
    read_text c.args.scope.now c.globals.new.scope c.boxes.new.scope c.main_head.new.scope
    c.in_ok-arrays.arrays.entries c.boxes.new.arrays.entries (items c.args.tokens.now) (items c.globals.new.tokens)
    (items c.boxes.new.tokens) (items c.main_head.new.tokens) (items c.main_parts.new.tokens)
    c.main_parts.new.scope.scalars
    (record { arrays = c.boxes.new.arrays; scalars = c.main_parts.new.scope.scalars; body = c.in_ok-body.body })
    c.requires.fresh c.in_ok-arrays.ensures.tree c.in_ok-boxes.ensures.tree c.in_ok-main_head.ensures.opened
    c.in_ok-main_head.ensures.names c.in_ok-main_head.ensures.next c.in_ok-main_head.ensures.gone
    c.in_ok-body.ensures.tree c.in_ok-body.ensures.over refl refl c.in_ok-body.ensures.longest

pub main_parts-requires : goal.main_parts-requires
main_parts-requires c =
    main_outside c.args.scope.now c.globals.new.scope c.boxes.new.scope c.main_head.new.scope
    c.in_ok-arrays.arrays.entries c.boxes.new.arrays.entries (items c.args.tokens.now) (items c.globals.new.tokens)
    (items c.boxes.new.tokens) c.requires.fresh c.in_ok-arrays.ensures.tree c.in_ok-boxes.ensures.tree
    c.in_ok-main_head.ensures.opened c.in_ok-main_head.ensures.names

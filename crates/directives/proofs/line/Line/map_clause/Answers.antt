use Rattle.directives.specs.Kinds.{seen_kind}
use Rattle.directives.proofs.ClausesRead.{read_map}
use Rattle.directives.proofs.Clausing.{at_map, map_is}
use Rattle.std.proofs.Common.{arith}
use Rattle.directives.proofs.line.Line.map_clause.Goals as goal

pub returns-in_err-enter-clause-read : goal.returns-in_err-enter-clause-read
returns-in_err-enter-clause-read c = grind (arith, at_map)

pub returns-in_err-expect-clause-read : goal.returns-in_err-expect-clause-read
returns-in_err-expect-clause-read c = grind (arith, at_map)

pub returns-in_err-modifiers-clause-read : goal.returns-in_err-modifiers-clause-read
returns-in_err-modifiers-clause-read c = grind (arith, at_map)

pub returns-in_err-map_type-clause-read : goal.returns-in_err-map_type-clause-read
returns-in_err-map_type-clause-read c = grind (arith, at_map)

pub returns-in_err-sections-clause-read : goal.returns-in_err-sections-clause-read
returns-in_err-sections-clause-read c = grind (arith, at_map)

pub returns-clause-read : goal.returns-clause-read
returns-clause-read c = grind (arith, at_map)

pub returns-clause-tree : goal.returns-clause-tree
returns-clause-tree c =
    read_map c.args.self.now c.enter.new.self c.expect.new.self c.modifiers.new.self c.map_type.new.self
    c.sections.new.self _ (map_is c.args.self.now (seen_kind c.args.kind) c.requires) c.in_ok-enter.ensures.taken
    c.in_ok-expect.ensures.first c.in_ok-expect.ensures.taken c.in_ok-modifiers.ensures.tree
    c.in_ok-map_type.ensures.tree c.in_ok-sections.ensures.tree

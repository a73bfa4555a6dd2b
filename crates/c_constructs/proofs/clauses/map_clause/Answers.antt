use Rattle.c_expressions.specs.Scopes.{names_of}
use Rattle.c_constructs.proofs.Reading.{maps_grow}
use Rattle.c_constructs.proofs.clauses.map_clause.Goals as goal

pub returns-clause-means : goal.returns-clause-means
returns-clause-means g c =
    maps_grow g.K.MapKind.seen (names_of c.args.scope.now) c.args.line c.args.clause.now c.of-kind.result
    c.is_always-always.result c.is_present-present.result c.args.maps.now.items c.map_items.new.maps.items
    c.of-kind.ensures c.is_always-always.ensures c.is_present-present.ensures c.in_ok-map_items.ensures.means

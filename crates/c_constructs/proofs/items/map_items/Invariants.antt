use Rattle.std.proofs.Common.{◌≡◌, ◌∷◌, ◌++◌, map, take, drop}
use Rattle.c_expressions.specs.Scopes.{names_of}
use Rattle.directives.specs.Names.{Uses, each_names, section_names, sections_names}
use Rattle.c_constructs.specs.Sections.{Grows, IsMapAt, given_one}
use Rattle.c_constructs.specs.Uses.{fault_in}
use Rattle.c_constructs.proofs.items.map_items.Given as goal

abbrev pub invariant-sections : goal.invariant-sections
invariant-sections g l = record {
  read : (us : Uses) → fault_in l.scope (sections_names l.sections ++ us) ≡ fault_in l.scope
      (each_names section_names (drop l.one-index l.sections.more.items) ++ us);
  means : Grows (IsMapAt g.K.MapKind.seen (names_of l.scope) l.line)
      (given_one (l.always, l.present, g.K.MapKind.seen l.kind) l.sections.first ∷
      map (given_one (l.always, l.present, g.K.MapKind.seen l.kind)) (take l.one-index l.sections.more.items)) l.fn.maps.items
      l.maps.items;
}

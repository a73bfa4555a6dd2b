use Rattle.std.proofs.Common.{◌≡◌, ◌∷◌, ◌++◌, map, take, drop}
use Rattle.c_expressions.specs.Scopes.{names_of}
use Rattle.directives.specs.Names.{Uses, each_names, section_names, sections_names}
use Rattle.c_constructs.specs.Sections.{Grows, IsUpdateAt, given_one}
use Rattle.c_constructs.specs.Uses.{fault_in}
use Rattle.c_constructs.specs.Written.{seen_update}
use Rattle.c_constructs.proofs.items.update_items.Given as goal

abbrev pub invariant-sections : goal.invariant-sections
invariant-sections l = record {
  read : (us : Uses) → fault_in l.scope (sections_names l.sections ++ us) ≡ fault_in l.scope
      (each_names section_names (drop l.one-index l.sections.more.items) ++ us);
  means : Grows (IsUpdateAt (names_of l.scope) l.line) (given_one (l.present, seen_update l.kind) l.sections.first ∷
      map (given_one (l.present, seen_update l.kind)) (take l.one-index l.sections.more.items)) l.fn.updates.items l.updates.items;
}

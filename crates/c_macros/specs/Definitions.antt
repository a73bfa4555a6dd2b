-- Lines that define macros, as they are held.
use Rattle.std.specs.Prelude.{map, Option, Some, None, if◌then◌else◌}
use Rattle.c_grammar.specs.Expressions.{as_items}
use Rattle.c_grammar.specs.Macros as macros
use Rattle.c_grammar.specs.Macros.{is_sure}
use Rattle.c_grammar.specs.Terminal.{Terminal}
use Rattle.c_grammar.specs.Texts.{Item}
use Rattle.directives.specs.Seen.{seen_placed}
use Rattle.c_macros.specs.declared.definitions.Defined.{Defined}
use Rattle.c_macros.specs.declared.definitions.Defined.TheVariants as defines
use Rattle.c_macros.specs.declared.definitions.Head.{Head}
use Rattle.c_macros.specs.Macros.{names_of}

abbrev pub seen_defined : Defined → macros.Defined
seen_defined defines.Other = macros.Other
seen_defined (defines.Plain x) = macros.Plain x.now
seen_defined (defines.With x rest) = macros.With x.now (as_items 0 (map seen_placed rest.now))

abbrev pub seen_head : Head → macros.Head
seen_head h = record { parameters = names_of h.parameters.items; body = as_items 0 (map seen_placed h.body.now) }

abbrev pub sure_item : Item Terminal → Option (Item Terminal)
sure_item i = if is_sure i.terminal then Some i else None

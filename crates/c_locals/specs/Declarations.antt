-- An array that is declared.
use Rattle.c_grammar.specs.Locals.{Declared}
use Rattle.c_terminals.specs.Seen.{seen}
use Rattle.c_locals.specs.declared.declarations.Declared.{Declared as Given}

abbrev pub seen_declared : Given → Declared
seen_declared d = record { item = seen d.token; name = d.name.now; len = d.len; listed = d.listed }

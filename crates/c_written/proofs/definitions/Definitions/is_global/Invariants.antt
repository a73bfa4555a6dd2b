use Rattle.std.proofs.Common.{◌≡◌, take}
use Rattle.c_grammar.specs.Constants.{is_among}
use Rattle.c_terminals.proofs.Among.{names_in}
use Rattle.c_written.proofs.definitions.Definitions.is_global.Given as goal

abbrev pub invariant-names : goal.invariant-names
invariant-names l = l.found ≡ is_among (names_in (take l.own-index l.self.names.items)) l.name
